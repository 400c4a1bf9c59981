-- What is found of a report by what is kept and noted, right after its line, is what is found by the lines.
use Rattle.std.proofs.Common.{◌≡◌, ◌∙◌, ℕ, ◌+◌, ◌-◌, Bool, ◌&&◌, true, false, [], ◌∷◌, length, Option, Some, None}
use Rattle.std.proofs.Common.{refl, ap, arith}
use Rattle.std.specs.Prelude.{◌||◌, option_and_then, is_some}
use Rattle.std.specs.BTreeMap.{get}
use Rattle.std.specs.Ordering.{nat_cmp}
use Rattle.slave_port.specs.declared.heard.Report.{Report}
use Rattle.network_model.specs.Network.{Network, NodeName}
use Rattle.network_model.specs.Kinds.{is_at, draws_sync, is_request, is_arrival, is_hearing}
use Rattle.trace_model.specs.declared.finding.Finding.{Finding}
use Rattle.trace_model.specs.declared.finding.Finding.TheVariants as findings
use Rattle.trace_model.specs.declared.line.TraceLine.{TraceLine}
use Rattle.trace_model.specs.declared.verdict.Why.{Why}
use Rattle.trace_model.specs.declared.verdict.Why.TheVariants as whys
use Rattle.trace_model.specs.Line.{Lines, counts, is_made, completes}
use Rattle.trace_model.specs.Record.{LinePlace, line_place, line_number, event_of, site, line_at}
use Rattle.trace_model.specs.Journey.{LineJourney}
use Rattle.trace_model.specs.Finding.{pair_finding, master_finding, readings_finding, size_finding, broken}
use Rattle.trace_model.specs.Finding.{all_octets_finding}
use Rattle.trace_model.specs.Sound.{Exchange as Lined, where_passes, line_of, sender, sync_line, follow_lines, arrival_line}
use Rattle.trace_model.specs.Sound.{unbroken, are_results}
use Rattle.trace_model.proofs.Lines.{line_at-number}
use Rattle.trace_model.proofs.OctetsOfExchanges.{passed, heard_of}
use Rattle.exchange_check.specs.declared.exceptions.Exceptions.{Exceptions}
use Rattle.exchange_check.specs.declared.kept.Kept.{Kept}
use Rattle.exchange_check.specs.Evidence.{noted, told_by, last_finding, wrong_reading_at}
use Rattle.exchange_check.specs.Inner.Finding.{found_finding_by}
use Rattle.exchange_check.specs.Inner.Found.{of_report, of_found}
use Rattle.exchange_check.specs.Inner.Machine.{IsKept, machine, facts_of, sites_of, stamps_of}
use Rattle.exchange_check.specs.Inner.Stays.{last_stays}
use Rattle.copy_stays.specs.Leaves.{once_of}
use Rattle.copy_stays.specs.Stays.{once_in}
use Rattle.exchange_check.proofs.Bounds.{chain_parts}
use Rattle.exchange_check.proofs.Exchanges.{found_of, found_journey_of}
use Rattle.exchange_check.proofs.FoundFindings.{pair-found, size-found, value-found, master-found, octets-found}
use Rattle.exchange_check.proofs.FoundFindings.{readings-found, left_holds}
use Rattle.exchange_check.proofs.Inside.{facts-kept, sites-kept, once-kept, stamps-kept}
use Rattle.exchange_check.proofs.Noted.{site_at, leaves_at, stamps_at}
use Rattle.exchange_check.proofs.OfExchange.{journeys-there, of_last, last_if}
use Rattle.exchange_check.proofs.Standing.{slave, all_lines}
use Rattle.exchange_check.proofs.Telling.{IsSilent}
use Rattle.exchange_check.proofs.Told.{fact_of, facts_at}

-- reasons that are asked of an exchange and its journeys: all but 701 and 704
abbrev pub is_of_journeys : Why → Bool
is_of_journeys whys.NoSuchLine = false
is_of_journeys whys.BrokenJourney = false
is_of_journeys _ = true

pub of_journeys : (why : Why) → (why ≡ whys.NoSuchLine → ⊥) → (why ≡ whys.BrokenJourney → ⊥) → is_of_journeys why ≡ true
of_journeys whys.NoSuchLine other another = absurd (other refl)
of_journeys whys.BrokenJourney other another = absurd (another refl)
of_journeys _ other another = refl

module _ (network : Network) (report : Report) where
  -- what is found of an exchange and its journeys
  abbrev by_lines : Why → LinePlace → Lined → (s r : LineJourney) → Option Finding
  by_lines whys.OtherNumber e x s r = pair_finding network x s r
  by_lines whys.OtherMaster e x s r = master_finding network (site e) e report x s
  by_lines whys.WrongReading e x s r = readings_finding network x s r
  by_lines whys.TooBig e x s r = size_finding s r
  by_lines whys.WrongValue e x s r = broken (are_results report x s r) findings.OtherResults
  by_lines whys.Bytes e x s r = all_octets_finding network x s r
  by_lines _ e x s r = None

  module _ (line : TraceLine) (earlier : Lines) where
    abbrev e : LinePlace
    e = line_place line earlier

    abbrev fed : Lines
    fed = line ∷ earlier

    abbrev at : NodeName
    at = slave network line earlier

    -- the lines of an exchange are there, and arrivals are arrivals
    pub record Placed (x : Lined) : Type 0 where
      pub sync : line_at network fed (line_number x.sync_arrival) ≡ Some x.sync_arrival
      pub sync_arrives : is_arrival (event_of x.sync_arrival) ≡ true
      pub request : line_at network fed (line_number x.request_arrival) ≡ Some x.request_arrival
      pub request_arrives : is_arrival (event_of x.request_arrival) ≡ true

    pub placed : (x : Lined) → all_lines network line earlier report ≡ Some x → Placed x
    placed x found =
        let parts = chain_parts network fed (sync_line network fed at report)
        (follow_lines network fed at report.follow_tag)
        (line_of network fed is_request at report.request_tag)
        (arrival_line network fed at report.response_tag) x found in
        let heard : Option LinePlace = where_passes (λ (l : LinePlace). completes l.line.out)
        (line_of network fed is_hearing at report.response_tag) in
        let arrives = passed (λ (l : LinePlace). is_arrival (event_of l) && is_made l.line.out)
        (option_and_then (sender network fed) heard) parts.1 in
        let used = passed (λ (l : LinePlace). is_some report.follow_tag || completes l.line.out)
        (line_of network fed is_arrival at report.sync_tag) parts.0 in
        let arrival = passed (λ (l : LinePlace). is_at is_arrival at (event_of l))
        (line_at network fed report.sync_tag) used.0 in
        record {
          sync = ap (line_at network fed) (line_at-number network fed report.sync_tag x.sync_arrival arrival.0) ∙ arrival.0;
          sync_arrives = left_holds (is_arrival (event_of x.sync_arrival)) _ arrival.1;
          request = heard_of network fed heard x.request_arrival arrives.0;
          request_arrives = left_holds (is_arrival (event_of x.request_arrival)) _ arrives.1;
        }

    same : (why : Why) → (counted : counts network line ≡ true) → (x : Lined)
        → all_lines network line earlier report ≡ Some x → IsSilent line.event → (s r : LineJourney)
        → unbroken network e draws_sync x.sync_arrival ≡ Some s → unbroken network e is_request x.request_arrival ≡ Some r
        → found_finding_by network (site_at network fed) (facts_at network fed) (wrong_reading_at network fed)
        report why (fact_of network e) (found_of network x) (found_journey_of network s)
        (found_journey_of network r) ≡ by_lines why e x s r
    same whys.OtherNumber counted x found quiet s r p q = pair-found network x s r
    same whys.OtherMaster counted x found quiet s r p q = master-found network line earlier counted report x quiet s
    same whys.WrongReading counted x found quiet s r p q =
        let there = placed x found in
        readings-found network line earlier counted x s r p q there.sync there.sync_arrives there.request
        there.request_arrives
    same whys.TooBig counted x found quiet s r p q = size-found network s r
    same whys.WrongValue counted x found quiet s r p q = value-found network report x s r
    same whys.Bytes counted x found quiet s r p q = octets-found network x s r
    same _ counted x found quiet s r p q = refl

    abbrev ways_of : Why → LinePlace → Lined → Option Finding
    ways_of why e x = option_and_then
        (λ s. option_and_then (by_lines why e x s) (unbroken network e is_request x.request_arrival))
        (unbroken network e draws_sync x.sync_arrival)

    told-last : (why : Why) (number : ℕ) → number + 1 ≡ length fed
        → of_report (facts_at network fed) (stamps_at network fed) (λ fact. of_found (facts_at network fed)
        (once_of (last_stays (facts_at network fed)) (leaves_at network fed)) (found_finding_by network
        (site_at network fed) (facts_at network fed) (wrong_reading_at network fed)
        report why fact)) number report
        ≡ of_last network report (ways_of why) fed
    told-last why number h =
        let last : number ≡ length earlier = omega (arith, h) in
        ap (λ (n : ℕ). of_report (facts_at network fed) (stamps_at network fed) (λ fact. of_found (facts_at network fed)
        (once_of (last_stays (facts_at network fed)) (leaves_at network fed)) (found_finding_by network
        (site_at network fed) (facts_at network fed) (wrong_reading_at network fed)
        report why fact)) n report) last
        ∙ last_if network report (ways_of why) (λ fact. of_found (facts_at network fed)
        (once_of (last_stays (facts_at network fed)) (leaves_at network fed)) (found_finding_by network
        (site_at network fed) (facts_at network fed) (wrong_reading_at network fed)
        report why fact)) line earlier (counts network line) refl
        (λ counted. journeys-there network line earlier report counted
        (found_finding_by network (site_at network fed) (facts_at network fed) (wrong_reading_at network fed)
        report why (fact_of network e)) (by_lines why e) (same why counted))

    by_why : (why : Why) → is_of_journeys why ≡ true
        → of_last network report (ways_of why) fed ≡ last_finding network fed report why
    by_why whys.NoSuchLine h = cc
    by_why whys.BrokenJourney h = cc
    by_why _ h = refl

module _ (network : Network) (report : Report) (why : Why) (asked : is_of_journeys why ≡ true) (fed : Lines) (kept : Kept)
    (h : IsKept network kept (length fed) (machine network fed)) (exceptions : Exceptions)
    (evidence : told_by exceptions ≡ noted network fed) (number : ℕ)
    (number_is : number ≡ length kept.facts.items - 1) where
  at_last : (l : Lines) → length kept.facts.items ≡ length l
      → of_report (facts_at network l) (stamps_at network l) (λ fact. of_found (facts_at network l)
      (once_of (last_stays (facts_at network l)) (leaves_at network l)) (found_finding_by network
      (site_at network l) (facts_at network l) (wrong_reading_at network l)
      report why fact)) number report ≡ last_finding network l report why
  at_last [] n = refl
  at_last (line ∷ earlier) n =
      told-last network report line earlier why number (omega (arith, n, number_is))
      ∙ by_why network report line earlier why asked

  pub finding-told : of_report (facts_of kept) (stamps_of kept) (λ fact. of_found (facts_of kept) (once_in kept.stays)
      (found_finding_by network (sites_of network kept) (facts_of kept)
      (get nat_cmp exceptions.readings) report
      why fact)) number report
      ≡ last_finding network fed report why
  finding-told =
      (λ i. of_report (facts-kept network fed kept h i) (stamps-kept network fed kept h i)
      (λ fact. of_found (facts-kept network fed kept h i) (once-kept network fed kept h i)
      (found_finding_by network (sites-kept network fed kept h i) (facts-kept network fed kept h i)
      (evidence i).readings report why fact)) number report)
      ∙ at_last fed h.count_is

  pub finding-at : (named : Network) → named ≡ network
      → of_report (facts_of kept) (stamps_of kept) (λ fact. of_found (facts_of kept) (once_in kept.stays)
      (found_finding_by named (sites_of named kept) (facts_of kept)
      (get nat_cmp exceptions.readings) report
      why fact)) number report
      ≡ last_finding network fed report why
  finding-at named same =
      (λ i. of_report (facts_of kept) (stamps_of kept) (λ fact. of_found (facts_of kept) (once_in kept.stays)
      (found_finding_by (same i) (sites_of (same i) kept) (facts_of kept)
      (get nat_cmp exceptions.readings) report
      why fact)) number report)
      ∙ finding-told
