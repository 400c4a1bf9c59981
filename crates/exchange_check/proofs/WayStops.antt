-- Where journeys stop, by what is noted of the copies of a line.
use Rattle.std.proofs.Common.{◌≡◌, ◌∙◌, ℕ, ◌<◌, Bool, true, false, cond, eqb, [], ◌∷◌, length, Option, Some, None}
use Rattle.std.proofs.Common.{Ok, Err, Result, refl, sym, ap, arith, is_some}
use Rattle.std.specs.Prelude.{◌||◌, nat_lt, ok_or, option_map, option_and_then}
use Rattle.std.specs.Result.{result_err}
use Rattle.std.proofs.lemmas.Bool.{eqb-true, ltb-true}
use Rattle.std.proofs.lemmas.Bool.Decides.{nat_tests}
use Rattle.network_model.specs.declared.event.Event.{Event}
use Rattle.network_model.specs.declared.event.Event.TheVariants.{Sync, SyncOne, Leave, Request}
use Rattle.network_model.specs.Network.{Network, NodeName, is_named}
use Rattle.network_model.specs.Run.{site_of}
use Rattle.network_model.specs.Kinds.{draws_sync, is_request, entered_copy, named_transit}
use Rattle.trace_model.specs.declared.finding.Lack.TheVariants.{NotBefore, CameToNothing, OtherEvent}
use Rattle.trace_model.specs.declared.line.TraceLine.{TraceLine}
use Rattle.trace_model.specs.Line.{Lines, counts}
use Rattle.trace_model.specs.Record.{LinePlace, line_place, line_number, event_of, site, line_at}
use Rattle.trace_model.specs.Journey.{LineJourney}
use Rattle.trace_model.specs.Finding.{Stop, stop, stopping, going_on, entered_found, more_stay, left_found, way_made, way_of}
use Rattle.trace_model.proofs.Lines.{line_at-before, line_at-number}
use Rattle.exchange_check.specs.Evidence.{Table, stop_made, stops_at}
use Rattle.exchange_check.specs.Inner.Noting.{stop_made_by, stop_of_copy, entered_stop, left_stop_by, left_stop, stop_entry}
use Rattle.exchange_check.proofs.Told.{fact_of, facts_at}

module _ (network : Network) where
  -- of the copy of a line that counts, or of one that doesn't
  abbrev pub stop_by : (by copy : ℕ) → Option LinePlace → Option Stop
  stop_by by copy o = stop_of_copy (λ n. option_and_then (stop_made network) o) by copy (option_map (fact_of network) o)

  way_event : (event : Event) (e : LinePlace) (by copy : ℕ) → event ≡ event_of e → line_number e ≡ copy
      → result_err (way_made network event by e (way_of network e.earlier))
      ≡ stop_made_by (λ n. cond (is_some (named_transit event))
      (result_err (way_made network event 0 e (way_of network e.earlier))) None) by copy event
  way_event (Sync node at) e by copy same number = refl
  way_event (SyncOne node at) e by copy same number = refl
  way_event (Request node at) e by copy same number = refl
  way_event (Leave node transit at) e by copy same number = refl
  way_event _ e by copy same number = ap (λ (n : ℕ). Some (stop by (OtherEvent n))) number

  way_line : (here counted : Bool) (line : TraceLine) (earlier : Lines) (by copy : ℕ)
      → (here ≡ true → length earlier ≡ copy)
      → (here ≡ false → result_err (way_of network earlier by copy) ≡ stop_by by copy (line_at network earlier copy))
      → result_err (cond here (cond counted
      (way_made network line.event by (line_place line earlier) (way_of network earlier))
      (Err (stop by (CameToNothing copy)))) (way_of network earlier by copy))
      ≡ stop_by by copy (cond here (cond counted (Some (line_place line earlier)) None) (line_at network earlier copy))
  way_line true true line earlier by copy number before =
      way_event line.event (line_place line earlier) by copy refl (number refl)
  way_line true false line earlier by copy number before = refl
  way_line false counted line earlier by copy number before = before refl

  pub way-at : (lines : Lines) (by copy : ℕ) → copy < length lines
      → result_err (way_of network lines by copy) ≡ stop_by by copy (line_at network lines copy)
  way-at [] by copy within = absurd (omega (arith, within))
  way-at (line ∷ earlier) by copy within =
      way_line (eqb (length earlier) copy) (counts network line) line earlier by copy
      (λ e. eqb-true (length earlier) copy e) (λ e. way-at earlier by copy (below e))
    where
      below : eqb (length earlier) copy ≡ false → copy < length earlier
      below e = grind (arith, nat_tests)

  more_err : (left entered : LinePlace) (found : Result LineJourney Stop)
      → result_err (more_stay left entered found) ≡ result_err found
  more_err left entered (Ok journey) = refl
  more_err left entered (Err other) = refl

  module _ (line : TraceLine) (earlier : Lines) where
    abbrev e : LinePlace
    e = line_place line earlier

    abbrev fed : Lines
    fed = line ∷ earlier

    abbrev before : Table Stop
    before = stops_at network earlier

    -- what is kept of lines before a line stays
    older : (copy : ℕ) → copy < length earlier → line_at network fed copy ≡ line_at network earlier copy
    older copy within = line_at-before network line earlier copy apart
      where
        apart : eqb (length earlier) copy ≡ false
        apart = grind (arith, nat_tests)

    copy_stop : (by copy : ℕ) → copy < length earlier
        → stop_of_copy before by copy (facts_at network fed copy) ≡ result_err (way_of network earlier by copy)
    copy_stop by copy within =
        (λ i. stop_of_copy before by copy (option_map (fact_of network) (older copy within i)))
        ∙ at_table (line_at network earlier copy) refl
        ∙ sym (way-at earlier by copy within)
      where
        at_table : (o : Option LinePlace) → line_at network earlier copy ≡ o
            → stop_of_copy before by copy (option_map (fact_of network) o) ≡ stop_by by copy o
        at_table None is = refl
        at_table (Some x) is = λ i. cond (is_some (named_transit (event_of x)))
            (option_and_then (stop_made network) (is i))
            (cond (draws_sync (event_of x) || is_request (event_of x)) None (Some (stop by (OtherEvent copy))))

    module _ (node : NodeName) (entered : LinePlace) (low : line_number entered < length earlier) where
      test_at : (named small : Bool) (copy : ℕ) → nat_lt copy (line_number entered) ≡ small
          → cond named (cond small (stop_of_copy before (line_number entered) copy (facts_at network fed copy))
          (Some (stop (line_number entered) (NotBefore copy))))
          (Some (stop (length earlier) (OtherEvent (line_number entered))))
          ≡ result_err (going_on (λ (copy : ℕ). more_stay e entered (way_of network earlier (line_number entered) copy))
          (cond named (cond small (Ok copy) (Err (stop (line_number entered) (NotBefore copy))))
          (Err (stop (length earlier) (OtherEvent (line_number entered))))))
      test_at false small copy is = refl
      test_at true false copy is = refl
      test_at true true copy is =
          let within : copy < line_number entered = ltb-true copy (line_number entered) is in
          copy_stop (line_number entered) copy (omega (arith, within, low))
          ∙ sym (more_err e entered (way_of network earlier (line_number entered) copy))

      copy_at : (o : Option ℕ) → site_of line.event ≡ node
          → entered_stop (facts_at network fed) before (fact_of network e) (fact_of network entered) o
          ≡ result_err (going_on (λ (copy : ℕ). more_stay e entered (way_of network earlier (line_number entered) copy))
          (entered_found node e entered o))
      copy_at None is = refl
      copy_at (Some copy) is =
          (λ i. cond (is_named (site entered) (is i)) (cond (nat_lt copy (line_number entered))
          (stop_of_copy before (line_number entered) copy (facts_at network fed copy))
          (Some (stop (line_number entered) (NotBefore copy))))
          (Some (stop (length earlier) (OtherEvent (line_number entered)))))
          ∙ test_at (is_named (site entered) node) (nat_lt copy (line_number entered)) copy refl

    module _ (node : NodeName) (transit : ℕ) (is : site_of line.event ≡ node) where
      line_at_it : transit < length earlier → (o : Option LinePlace) → line_at network earlier transit ≡ o
          → left_stop_by (facts_at network fed) before (fact_of network e) transit (option_map (fact_of network) o)
          ≡ result_err (going_on (left_found node e (way_of network earlier))
          (stopping (length earlier) (ok_or o (CameToNothing transit))))
      line_at_it small None there = refl
      line_at_it small (Some entered) there =
          let number : line_number entered ≡ transit = line_at-number network earlier transit entered there in
          copy_at node entered (omega (arith, number, small)) (entered_copy (event_of entered)) is

      transit_at : (small : Bool) → nat_lt transit (length earlier) ≡ small
          → cond small (left_stop_by (facts_at network fed) before (fact_of network e) transit (facts_at network fed transit))
          (Some (stop (length earlier) (NotBefore transit)))
          ≡ result_err (going_on (left_found node e (way_of network earlier)) (stopping (length earlier)
          (cond small (ok_or (line_at network earlier transit) (CameToNothing transit)) (Err (NotBefore transit)))))
      transit_at false small = refl
      transit_at true small =
          let low : transit < length earlier = ltb-true transit (length earlier) small in
          (λ i. left_stop_by (facts_at network fed) before (fact_of network e) transit
          (option_map (fact_of network) (older transit low i)))
          ∙ line_at_it low (line_at network earlier transit) refl

    stop_at : (event : Event) → event ≡ line.event
        → option_and_then (left_stop (facts_at network fed) before (fact_of network e)) (named_transit event)
        ≡ cond (is_some (named_transit event)) (result_err (way_made network event 0 e (way_of network earlier))) None
    stop_at (Leave node transit at) same =
        transit_at node transit (ap site_of (sym same)) (nat_lt transit (length earlier)) refl
    stop_at _ same = refl

    pub stop-entry : stop_entry (facts_at network fed) before (fact_of network e) ≡ stop_made network e
    stop-entry = stop_at line.event refl
