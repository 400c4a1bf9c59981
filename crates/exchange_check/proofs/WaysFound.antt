-- What is found of the journeys of a report by what is kept and noted, right after its line, is what is found by the
-- lines.
use Rattle.std.proofs.Common.{◌≡◌, ◌∙◌, ℕ, zero, suc, ◌+◌, ◌-◌, ◌<◌, ◌≤◌, Bool, true, false, cond, List, [], ◌∷◌, length}
use Rattle.std.proofs.Common.{Option, Some, None, Ok, Err, Result, refl, sym, ap, arith, is_some}
use Rattle.std.specs.Prelude.{◌||◌, not, nat_lt, slice_get, option_map, option_and_then}
use Rattle.std.specs.BTreeMap.{get}
use Rattle.std.specs.Option.{option_or}
use Rattle.std.specs.Ordering.{nat_cmp}
use Rattle.std.specs.Result.{result_ok, result_err}
use Rattle.std.proofs.lemmas.Bool.{lt-ltb, ltb-true}
use Rattle.slave_port.specs.declared.heard.Report.{Report}
use Rattle.network_model.specs.declared.event.Event.{Event}
use Rattle.network_model.specs.Network.{Network}
use Rattle.network_model.specs.Kinds.{draws_sync, is_request, entered_copy, heard_copy, named_transit}
use Rattle.trace_model.specs.declared.finding.Finding.{Finding}
use Rattle.trace_model.specs.declared.finding.Lack.TheVariants.{NotBefore, OtherEvent}
use Rattle.trace_model.specs.declared.finding.Part.{Part}
use Rattle.trace_model.specs.declared.finding.Part.TheVariants as parts
use Rattle.trace_model.specs.declared.line.TraceLine.{TraceLine}
use Rattle.trace_model.specs.declared.verdict.Why.TheVariants as whys
use Rattle.trace_model.specs.Line.{Lines, counts}
use Rattle.trace_model.specs.Record.{LinePlace, line_place, line_number, event_of, line_at, events}
use Rattle.trace_model.specs.Journey.{LineStay, LineJourney, line_journey_of, left_once}
use Rattle.trace_model.specs.Sound.{Exchange as Lined, where_passes}
use Rattle.trace_model.specs.Finding.{Stop, stop, passing, way_of, way_below, way_to, left_twice, way_finding, ways_finding}
use Rattle.trace_model.proofs.FindingParts.{way_ok}
use Rattle.trace_model.proofs.LeftTwice.{twice_or_once}
use Rattle.exchange_check.specs.declared.exceptions.Exceptions.{Exceptions}
use Rattle.exchange_check.specs.declared.exchange.Stay.{Stay}
use Rattle.exchange_check.specs.declared.facts.FoundJourney.{FoundJourney}
use Rattle.exchange_check.specs.declared.kept.Kept.{Kept}
use Rattle.exchange_check.specs.declared.ways.Unfollowed.{Unfollowed}
use Rattle.exchange_check.specs.declared.ways.Unfollowed.TheVariants.{Stops, LeftTwice}
use Rattle.exchange_check.specs.Evidence.{noted, told_by, last_finding, second_leaves, stops_at, stops_in, stop_made}
use Rattle.exchange_check.specs.Exchange.{stay_told}
use Rattle.exchange_check.specs.Inner.Found.{of_report}
use Rattle.exchange_check.specs.Inner.Machine.{IsKept, machine, facts_of, firsts_of, stamps_of}
use Rattle.exchange_check.specs.Inner.Noting.{stop_of_copy}
use Rattle.copy_stays.specs.Leaves.{Once, once_of}
use Rattle.exchange_check.specs.Inner.Stays.{last_stays}
use Rattle.copy_stays.specs.Stays.{once_in}
use Rattle.exchange_check.specs.Inner.Telling.{last_stay_by}
use Rattle.exchange_check.specs.Inner.Judged.{found_journey_at, followed_from, followed_heard, followed_to}
use Rattle.exchange_check.specs.Inner.WayFinding.{stay_before, twice_at, earlier_twice, first_twice_of}
use Rattle.exchange_check.specs.Inner.WayFinding.{first_twice, twice_finding_by, stop_finding, way_finding_by}
use Rattle.exchange_check.specs.Inner.WayFinding.{ways_finding_by}
use Rattle.exchange_check.proofs.Exchanges.{found_of, found_journey_of, found_journey_is}
use Rattle.exchange_check.proofs.Following.{once_is, followed_is}
use Rattle.exchange_check.proofs.Inside.{facts-kept, firsts-kept, once-kept, stamps-kept}
use Rattle.exchange_check.proofs.Made.{last_stay_by-is, stay_before as journey_before}
use Rattle.exchange_check.proofs.Noted.{leaves_at, firsts_at, stamps_at}
use Rattle.exchange_check.proofs.Options.{or_none}
use Rattle.exchange_check.proofs.OfExchange.{found-there, last_if}
use Rattle.exchange_check.proofs.Standing.{all_lines, either_within}
use Rattle.exchange_check.proofs.Telling.{IsSilent}
use Rattle.exchange_check.proofs.Told.{fact_of, facts_at}
use Rattle.exchange_check.proofs.TwiceLeft.{stays_twice, left-quiet, left-twice}
use Rattle.exchange_check.proofs.Twices.{with_rest, first_twice_of-suc}
use Rattle.exchange_check.proofs.WayStops.{stop_by, way-at}

none_of : {X : Type 0} (o : Option X) → is_some o ≡ false → o ≡ None
none_of None h = refl
none_of (Some x) h = cc

-- one stay after the other
module _ (network : Network) (lines : Lines) where
  last_is : (n : ℕ) (j : LineJourney) (stays : List LineStay) → line_journey_of network lines n ≡ Some j → j.stays ≡ stays
      → last_stay_by (facts_at network lines) n ≡ option_map (stay_told network) (slice_get stays 0)
  last_is n j stays h is = last_stay_by-is network lines n
      ∙ ap (λ (o : Option LineJourney). option_and_then
      (λ journey. option_map (stay_told network) (slice_get journey.stays 0)) o) h
      ∙ ap (λ (l : List LineStay). option_map (stay_told network) (slice_get l 0)) is

  abbrev before_of : ℕ → Option Stay → Option (ℕ × ℕ)
  before_of n o = option_and_then (λ stay. option_map (λ before. (stay.entered.number, before))
      (where_passes (λ before. nat_lt before n) (entered_copy stay.entered.event))) o

  none_is : (n : ℕ) (j : LineJourney) → line_journey_of network lines n ≡ Some j → j.stays ≡ []
      → stay_before (facts_at network lines) n ≡ None
  none_is n j h is = ap (before_of n) (last_is n j [] h is)

  before_is : (n : ℕ) (j : LineJourney) (s : LineStay) (rest : List LineStay) (copy : ℕ)
      → line_journey_of network lines n ≡ Some j → j.stays ≡ s ∷ rest
      → entered_copy (event_of s.entered) ≡ Some copy → copy < n
      → stay_before (facts_at network lines) n ≡ Some (line_number s.entered, copy)
  before_is n j s rest copy h is entered low = ap (before_of n) (last_is n j (s ∷ rest) h is)
      ∙ ap (λ (o : Option ℕ). option_map (λ before. (line_number s.entered, before))
      (where_passes (λ before. nat_lt before n) o)) entered
      ∙ (λ i. option_map (λ before. (line_number s.entered, before)) (cond (lt-ltb copy n low i) (Some copy) None))

  walked : (count n : ℕ) (j : LineJourney) (stays : List LineStay) → line_journey_of network lines n ≡ Some j
      → j.stays ≡ stays → n < count
      → first_twice_of (facts_at network lines) (second_leaves network lines) count n ≡ stays_twice network lines stays
  walked zero n j stays h is within = absurd (omega arith)
  walked (suc count) n j [] h is within =
      first_twice_of-suc (facts_at network lines) (second_leaves network lines) count n
      ∙ ap (with_rest (facts_at network lines) (second_leaves network lines)
      (first_twice_of (facts_at network lines) (second_leaves network lines) count)) (none_is n j h is)
  walked (suc count) n j (s ∷ rest) h is within =
      let before = journey_before network lines n j s rest h is in
      let low : before.0 < n = before.5 in
      first_twice_of-suc (facts_at network lines) (second_leaves network lines) count n
      ∙ ap (with_rest (facts_at network lines) (second_leaves network lines)
      (first_twice_of (facts_at network lines) (second_leaves network lines) count))
      (before_is n j s rest before.0 h is before.2 low)
      ∙ ap (earlier_twice (twice_at (second_leaves network lines) (line_number s.entered)))
      (walked count before.0 before.1 rest before.3 before.4 (omega (arith, low, within)))

module _ (network : Network) (line : TraceLine) (earlier : Lines) where
  abbrev e : LinePlace
  e = line_place line earlier

  abbrev fed : Lines
  fed = line ∷ earlier

  abbrev once_now : Once
  once_now = once_of (last_stays (facts_at network fed)) (leaves_at network fed)

  abbrev way_found : Part → Result FoundJourney Unfollowed → Option Finding
  way_found part followed = way_finding_by (facts_at network fed) (firsts_at network fed) (second_leaves network fed)
      (stops_at network fed) part followed

  -- the stays of a journey that can be followed
  module _ (part : Part) (copy : ℕ) (j : LineJourney) (h : line_journey_of network fed copy ≡ Some j) where
    once_same : once_now copy ≡ left_once (events network fed) j
    once_same = followed_is network (facts_at network fed) (leaves_at network fed) (events network fed)
        (once_is network fed) fed copy j (λ n x there. ap (λ (o : Option LinePlace). option_map (fact_of network) o) there)
        h (suc copy) (omega arith)

    first_same : option_and_then (twice_finding_by (firsts_at network fed) part)
        (first_twice (facts_at network fed) (second_leaves network fed) copy) ≡ left_twice network part j fed
    first_same = ap (option_and_then (twice_finding_by (firsts_at network fed) part))
        (walked network fed (copy + 1) copy j j.stays h refl (omega arith))
        ∙ sym (left-twice network part j fed)

    abbrev tested : Bool → Result FoundJourney Unfollowed
    tested b = cond b (Ok (found_journey_of network j)) (Err (LeftTwice copy))

    copy_same : way_found part (tested (once_now copy)) ≡ left_twice network part j fed
    copy_same = by (once_now copy) refl
      where
        by : (b : Bool) → once_now copy ≡ b → way_found part (tested b) ≡ left_twice network part j fed
        by false is = first_same
        by true is = sym (none_of (left_twice network part j fed)
            (twice_or_once network part fed copy j h ∙ ap not (sym once_same ∙ is)))

  -- the journey to an arrival
  module _ (part : Part) (kind : Event → Bool) (arrival : LinePlace) (within : line_number arrival ≤ length earlier)
      (quiet : named_transit line.event ≡ None) where
    abbrev by : ℕ
    by = line_number arrival

    abbrev by_lines : Result LineJourney Stop → Option Finding
    by_lines r = way_finding network e part
        (passing (λ j. kind (event_of j.origin)) (λ j. stop by (OtherEvent (line_number j.origin))) r)

    -- by what is noted
    stop_same : (copy : ℕ) → copy < length fed
        → stop_of_copy (stops_at network fed) by copy (facts_at network fed copy) ≡ result_err (way_of network fed by copy)
    stop_same copy low = at_table (line_at network fed copy) refl ∙ sym (way-at network fed by copy low)
      where
        at_table : (o : Option LinePlace) → line_at network fed copy ≡ o
            → stop_of_copy (stops_at network fed) by copy (option_map (fact_of network) o) ≡ stop_by network by copy o
        at_table None is = refl
        at_table (Some x) is = λ i. cond (is_some (named_transit (event_of x)))
            (option_and_then (stop_made network) (is i))
            (cond (draws_sync (event_of x) || is_request (event_of x)) None (Some (stop by (OtherEvent copy))))

    -- where it stops, or where it begins
    at_way : (copy : ℕ) (r : Result LineJourney Stop) → copy < length fed → way_of network fed by copy ≡ r
        → way_found part (followed_from once_now kind by copy (option_map (found_journey_of network) (result_ok r)))
        ≡ by_lines r
    at_way copy (Err s) low way = ap (option_map (stop_finding part)) (stop_same copy low ∙ ap result_err way)
    at_way copy (Ok j) low way = begun (kind (event_of j.origin)) (sym (way_ok network fed by copy) ∙ ap result_ok way)
      where
        begun : (b : Bool) → line_journey_of network fed copy ≡ Some j
            → way_found part (cond b (cond (once_now copy) (Ok (found_journey_of network j)) (Err (LeftTwice copy)))
            (Err (Stops by (OtherEvent (line_number j.origin)))))
            ≡ way_finding network e part (cond b (Ok j) (Err (stop by (OtherEvent (line_number j.origin)))))
        begun true there = copy_same part copy j there ∙ left-quiet network line earlier part j quiet
        begun false there = refl

    at_copy : (copy : ℕ) (b : Bool) → nat_lt copy by ≡ b
        → way_found part (cond b (followed_from once_now kind by copy (found_journey_at (facts_at network fed) copy))
        (Err (Stops by (NotBefore copy))))
        ≡ by_lines (cond b (way_of network fed by copy) (Err (stop by (NotBefore copy))))
    at_copy copy false small = refl
    at_copy copy true small =
        let low : copy < by = ltb-true copy by small in
        (λ i. way_found part (followed_from once_now kind by copy (found_journey_is network fed copy i)))
        ∙ sym (λ i. way_found part (followed_from once_now kind by copy
        (option_map (found_journey_of network) (way_ok network fed by copy i))))
        ∙ at_way copy (way_of network fed by copy) (omega (arith, low, within)) refl

    at_heard : (o : Option ℕ)
        → way_found part (followed_heard (facts_at network fed) once_now kind by o) ≡ by_lines (way_below network fed by o)
    at_heard None = refl
    at_heard (Some copy) = at_copy copy (nat_lt copy by) refl

    way_same : way_found part (followed_to (facts_at network fed) once_now kind (fact_of network arrival))
        ≡ way_finding network e part (way_to network fed kind arrival)
    way_same = at_heard (heard_copy (event_of arrival))

  ways_same : (report : Report) (x : Lined) → all_lines network line earlier report ≡ Some x → IsSilent line.event
      → ways_finding_by (facts_at network fed) (firsts_at network fed) once_now (second_leaves network fed)
      (stops_at network fed) (found_of network x) ≡ ways_finding network e x
  ways_same report x found quiet =
      let fits = either_within network line earlier report true x found in
      (λ i. option_or (way_same parts.Sync draws_sync x.sync_arrival fits.0 quiet.0.0 i)
      (way_same parts.DelayReq is_request x.request_arrival fits.1 quiet.0.0 i))
      ∙ sym (ap (option_or (way_finding network e parts.Sync (way_to network fed draws_sync x.sync_arrival)))
      (or_none (way_finding network e parts.DelayReq (way_to network fed is_request x.request_arrival))))

module _ (network : Network) (report : Report) where
  ways_at : (lines : Lines) (number : ℕ) → number ≡ length lines - 1
      → of_report (facts_at network lines) (stamps_at network lines) (λ fact. ways_finding_by (facts_at network lines)
      (firsts_at network lines) (once_of (last_stays (facts_at network lines)) (leaves_at network lines))
      (second_leaves network lines) (stops_at network lines)) number report
      ≡ last_finding network lines report whys.BrokenJourney
  ways_at [] number is = refl
  ways_at (line ∷ earlier) number is =
      let last : number ≡ length earlier = omega (arith, is) in
      let fed : Lines = line ∷ earlier in
      ap (λ (n : ℕ). of_report (facts_at network fed) (stamps_at network fed) (λ fact. ways_finding_by
      (facts_at network fed) (firsts_at network fed) (once_of (last_stays (facts_at network fed)) (leaves_at network fed))
      (second_leaves network fed) (stops_at network fed)) n report) last
      ∙ last_if network report (ways_finding network) (λ fact. ways_finding_by (facts_at network fed) (firsts_at network fed)
      (once_of (last_stays (facts_at network fed)) (leaves_at network fed)) (second_leaves network fed)
      (stops_at network fed)) line earlier (counts network line) refl
      (λ counted. found-there network line earlier report counted (ways_finding_by (facts_at network fed)
      (firsts_at network fed) (once_of (last_stays (facts_at network fed)) (leaves_at network fed))
      (second_leaves network fed) (stops_at network fed)) (ways_finding network (line_place line earlier))
      (ways_same network line earlier report))

  module _ (fed : Lines) (kept : Kept) (h : IsKept network kept (length fed) (machine network fed)) (exceptions : Exceptions)
      (evidence : told_by exceptions ≡ noted network fed) (number : ℕ)
      (number_is : number ≡ length kept.facts.items - 1) where
    pub ways-told : of_report (facts_of kept) (stamps_of kept) (λ fact. ways_finding_by (facts_of kept) (firsts_of kept)
        (once_in kept.stays) (get nat_cmp exceptions.seconds) (stops_in (get nat_cmp exceptions.stops))) number report
        ≡ last_finding network fed report whys.BrokenJourney
    ways-told =
        (λ i. of_report (facts-kept network fed kept h i) (stamps-kept network fed kept h i) (λ fact. ways_finding_by
        (facts-kept network fed kept h i) (firsts-kept network fed kept h i) (once-kept network fed kept h i)
        (evidence i).seconds (evidence i).stops) number report)
        ∙ ways_at fed number (number_is ∙ ap (λ (n : ℕ). n - 1) h.count_is)
