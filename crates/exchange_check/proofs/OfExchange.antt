-- What is found of an exchange by what is kept, right after the line of its report, is what is found of it by the lines.
use Rattle.std.proofs.Common.{◌≡◌, ◌∙◌, ℕ, Bool, true, false, ◌&&◌, cond, [], ◌∷◌, length, Option, Some, None}
use Rattle.std.proofs.Common.{refl, sym, ap}
use Rattle.std.specs.Prelude.{option_map, option_and_then}
use Rattle.std.proofs.lemmas.Bool.{eq-eqb}
use Rattle.std.proofs.lemmas.Option.{same_Some, none-some}
use Rattle.slave_port.specs.declared.heard.Report.{Report}
use Rattle.network_model.specs.Network.{Network}
use Rattle.network_model.specs.Run.{site_of}
use Rattle.network_model.specs.Kinds.{draws_sync, is_request}
use Rattle.trace_model.specs.declared.line.TraceLine.{TraceLine}
use Rattle.trace_model.specs.Line.{Lines, counts}
use Rattle.trace_model.specs.Record.{LinePlace, line_place, site, line_at}
use Rattle.trace_model.specs.Journey.{LineJourney}
use Rattle.trace_model.specs.Sound.{Exchange as Lined, exchange_of, unbroken}
use Rattle.trace_model.proofs.Lines.{line_at-here}
use Rattle.exchange_check.specs.declared.facts.Fact.{Fact}
use Rattle.exchange_check.specs.declared.facts.Found.{Found}
use Rattle.exchange_check.specs.declared.facts.FoundJourney.{FoundJourney}
use Rattle.exchange_check.specs.Inner.Kept.{Facts, Stamps}
use Rattle.exchange_check.specs.Inner.Found.{of_report, of_found}
use Rattle.exchange_check.specs.Inner.Judged.{found_by}
use Rattle.exchange_check.proofs.Noted.{cond_same, stamps_at}
use Rattle.exchange_check.proofs.Told.{fact_of, facts_at}
use Rattle.exchange_check.proofs.Exchanges.{found_of, found_journey_of}
use Rattle.exchange_check.proofs.Standing.{facts, found_journey_to_is, here, learned, all_lines, found_if, either_within}
use Rattle.exchange_check.proofs.Telling.{IsSilent, silent, once_now, stamps_now, learned_now, learned_same, followed_here}

-- from the lines that were found
pub of_report-found : {Y : Type 0} (facts : Facts) (stamps : Stamps) (next : Found → Option Y) (number : ℕ)
    (report : Report) (found : Found) → of_report facts stamps (λ fact. Some) number report ≡ Some found
    → of_report facts stamps (λ fact. next) number report ≡ next found
of_report-found {Y} facts stamps next number report found is =
    by_fact (facts number) is
  where
    by_found : (o : Option Found) → option_and_then Some o ≡ Some found → option_and_then next o ≡ next found
    by_found None h = absurd (none-some found h)
    by_found (Some x) h = ap next (same_Some x found h)

    by_fact : (o : Option Fact)
        → option_and_then (λ (fact : Fact). option_and_then Some
        (found_by facts stamps (site_of fact.event) fact.line report)) o ≡ Some found
        → option_and_then (λ (fact : Fact). option_and_then next
        (found_by facts stamps (site_of fact.event) fact.line report)) o ≡ next found
    by_fact None h = absurd (none-some found h)
    by_fact (Some fact) h = by_found (found_by facts stamps (site_of fact.event) fact.line report) h

module _ (network : Network) (line : TraceLine) (earlier : Lines) (report : Report) where
  abbrev e : LinePlace
  e = line_place line earlier

  module _ {Y : Type 0} (counted : counts network line ≡ true) (by_found : Found → Option Y) (by_lines : Lined → Option Y)
      (same : (x : Lined) → all_lines network line earlier report ≡ Some x → IsSilent line.event
      → by_found (found_of network x) ≡ by_lines x) where
    abbrev found_told : Option Lined → Option Y
    found_told o = option_and_then by_found (option_map (found_of network) o)

    under : (b : Bool) (x : Lined) → found_told (Some x) ≡ by_lines x
        → found_told (cond b (Some x) None) ≡ option_and_then by_lines (cond b (Some x) None)
    under true x h = h
    under false x h = refl

    abbrev learned_at : Bool
    learned_at = learned_now network line earlier counted report

    by_place : (of_line : Bool) (o : Option Lined) → here network line earlier report ≡ of_line
        → all_lines network line earlier report ≡ o
        → found_told (cond (of_line && learned_at) o None)
        ≡ option_and_then by_lines (cond (of_line && learned network line earlier report) o None)
    by_place false o p q = refl
    by_place true None p q = ap found_told (cond_same learned_at None)
        ∙ sym (ap (option_and_then by_lines) (cond_same (learned network line earlier report) None))
    by_place true (Some x) p q =
        let quiet = silent network line earlier counted report x p q in
        (λ i. found_told (cond (learned_same network line earlier counted report quiet i) (Some x) None))
        ∙ under (learned network line earlier report) x (same x q quiet)

    pub found-there : option_and_then by_found
        (found_by (facts network line earlier) (stamps_now network line earlier counted) (site_of line.event) (length earlier) report)
        ≡ option_and_then by_lines (exchange_of network (site e) e report)
    found-there =
        ap (option_and_then by_found)
        (found_if network line earlier report (here network line earlier report && learned_at))
        ∙ by_place (here network line earlier report) (all_lines network line earlier report) refl refl
        ∙ sym (λ i. option_and_then by_lines
        (cond (counted i && here network line earlier report && learned network line earlier report)
        (all_lines network line earlier report) None))

  -- the same from the journeys of the exchange
  module _ {Y : Type 0} (counted : counts network line ≡ true) (by_found : Found → (sync request : FoundJourney) → Option Y)
      (by_lines : Lined → (sync request : LineJourney) → Option Y)
      (same : (x : Lined) → all_lines network line earlier report ≡ Some x → IsSilent line.event
      → (s r : LineJourney) → unbroken network e draws_sync x.sync_arrival ≡ Some s
      → unbroken network e is_request x.request_arrival ≡ Some r
      → by_found (found_of network x) (found_journey_of network s) (found_journey_of network r) ≡ by_lines x s r) where
    abbrev ways_of : Lined → Option Y
    ways_of x = option_and_then
        (λ s. option_and_then (by_lines x s) (unbroken network e is_request x.request_arrival))
        (unbroken network e draws_sync x.sync_arrival)

    both : (x : Lined) → all_lines network line earlier report ≡ Some x → IsSilent line.event
        → (s r : Option LineJourney) → unbroken network e draws_sync x.sync_arrival ≡ s
        → unbroken network e is_request x.request_arrival ≡ r
        → option_and_then (λ sync. option_and_then (by_found (found_of network x) sync) (option_map (found_journey_of network) r))
        (option_map (found_journey_of network) s)
        ≡ option_and_then (λ sync. option_and_then (by_lines x sync) r) s
    both x found quiet None r p q = refl
    both x found quiet (Some s) None p q = refl
    both x found quiet (Some s) (Some r) p q = same x found quiet s r p q

    journeys : (x : Lined) → all_lines network line earlier report ≡ Some x → IsSilent line.event
        → of_found (facts network line earlier) (once_now network line earlier counted) by_found (found_of network x) ≡ ways_of x
    journeys x found quiet =
        let fits = either_within network line earlier report true x found in
        (λ i. option_and_then (λ sync. option_and_then (by_found (found_of network x) sync)
        (found_journey_to_is network line earlier (once_now network line earlier counted) (followed_here network line earlier counted quiet) is_request
        x.request_arrival fits.1 i))
        (found_journey_to_is network line earlier (once_now network line earlier counted) (followed_here network line earlier counted quiet) draws_sync
        x.sync_arrival fits.0 i))
        ∙ both x found quiet (unbroken network e draws_sync x.sync_arrival)
        (unbroken network e is_request x.request_arrival) refl refl

    pub journeys-there : option_and_then (of_found (facts network line earlier) (once_now network line earlier counted) by_found)
        (found_by (facts network line earlier) (stamps_now network line earlier counted) (site_of line.event) (length earlier) report)
        ≡ option_and_then ways_of (exchange_of network (site e) e report)
    journeys-there = found-there counted (of_found (facts network line earlier) (once_now network line earlier counted) by_found) ways_of journeys

-- at the last of lines
module _ (network : Network) (report : Report) {Y : Type 0} (by_lines : LinePlace → Lined → Option Y) where
  abbrev pub of_last : Lines → Option Y
  of_last [] = None
  of_last (line ∷ earlier) = option_and_then (by_lines (line_place line earlier))
      (exchange_of network (site (line_place line earlier)) (line_place line earlier) report)

  module _ (by_found : Fact → Found → Option Y) where
    pub last_if : (line : TraceLine) (earlier : Lines) (b : Bool) → counts network line ≡ b
        → ((counted : counts network line ≡ true) → option_and_then (by_found (fact_of network (line_place line earlier)))
        (found_by (facts_at network (line ∷ earlier)) (stamps_at network (line ∷ earlier)) (site_of line.event)
        (length earlier) report) ≡ of_last (line ∷ earlier))
        → of_report (facts_at network (line ∷ earlier)) (stamps_at network (line ∷ earlier)) by_found (length earlier) report
        ≡ of_last (line ∷ earlier)
    last_if line earlier true counted there =
        ap (λ (o : Option LinePlace). option_and_then (λ (fact : Fact). option_and_then (by_found fact)
        (found_by (facts_at network (line ∷ earlier)) (stamps_at network (line ∷ earlier)) (site_of fact.event) fact.line report))
        (option_map (fact_of network) o)) (line_at-here network line earlier counted)
        ∙ there counted
    last_if line earlier false counted there =
        (λ i. option_and_then (λ (fact : Fact). option_and_then (by_found fact)
        (found_by (facts_at network (line ∷ earlier)) (stamps_at network (line ∷ earlier)) (site_of fact.event) fact.line report))
        (option_map (fact_of network) (cond (eq-eqb (length earlier) (length earlier) refl i)
        (cond (counted i) (Some (line_place line earlier)) None) (line_at network earlier (length earlier)))))
        ∙ sym (λ i. option_and_then (by_lines (line_place line earlier))
        (cond (counted i && here network line earlier report && learned network line earlier report)
        (all_lines network line earlier report) None))
