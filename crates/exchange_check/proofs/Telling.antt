-- What is told of a report by what is kept, right after its line, is what the lines say.
use Rattle.std.proofs.Common.{◌≡◌, ◌∙◌, ℕ, suc, ◌+◌, ◌-◌, ◌<◌, Bool, true, false, ◌&&◌, ◌||◌, cond, eqb, [], ◌∷◌}
use Rattle.std.proofs.Common.{length, Option, Some, None, ◌⊎◌, inl, inr, refl, sym, ap, arith}
use Rattle.std.specs.Prelude.{option_map, option_and_then, is_some, count_by, nat_lt, reverse, map}
use Rattle.std.specs.Option.{option_or, option_map_or}
use Rattle.std.specs.List.{list_all, range_with_len}
use Rattle.std.proofs.lemmas.Bool.{true≢false, eqb-true, eq-eqb, and_parts}
use Rattle.std.proofs.lemmas.List.{length-reverse, reverse-reverse}
use Rattle.std.proofs.lemmas.Option.{same_Some, none-some}
use Rattle.slave_port.specs.declared.heard.Report.{Report}
use Rattle.network_model.specs.declared.event.Event.{Event}
use Rattle.network_model.specs.declared.event.Event.TheVariants.{Arrive, Hear}
use Rattle.network_model.specs.Network.{Network, NodeName}
use Rattle.network_model.specs.Run.{site_of}
use Rattle.network_model.specs.Kinds.{is_at, draws_sync, is_follow, is_request, is_stamped, is_arrival, is_hearing, is_set_master}
use Rattle.network_model.specs.Kinds.{heard_copy, named_transit, is_leave_of}
use Rattle.trace_model.specs.declared.line.TraceLine.{TraceLine}
use Rattle.trace_model.specs.Line.{Lines, counts, is_made, completes}
use Rattle.trace_model.specs.Record.{LinePlace, line_place, line_number, event_of, line_at, last_line, events}
use Rattle.trace_model.specs.Record.{first_stamp}
use Rattle.trace_model.specs.Journey.{LineJourney, line_residence, line_journey_of, left_once}
use Rattle.trace_model.specs.Sound.{where_passes, Exchange as Lined, line_of, sender, sync_line, follow_line}
use Rattle.trace_model.specs.Sound.{follow_lines, arrival_line, below, journey_to, unbroken}
use Rattle.trace_model.proofs.OctetsOfExchanges.{passed}
use Rattle.trace_model.proofs.Lines.{line_at-here, line_at-later, events_more}
use Rattle.exchange_check.specs.declared.exchange.Exchange.{Exchange}
use Rattle.exchange_check.specs.declared.facts.Fact.{Fact}
use Rattle.exchange_check.specs.declared.kept.Kept.{Kept}
use Rattle.exchange_check.specs.Exchange.{line_told, leg_told, exchange_lines, exchange_told, last_exchange}
use Rattle.exchange_check.specs.Message.{message_at}
use Rattle.exchange_check.specs.Inner.Kept.{Stamps}
use Rattle.exchange_check.specs.Inner.Judged.{is_stamped_by}
use Rattle.copy_stays.proofs.Kept.{once_kept, or_nothing}
use Rattle.copy_stays.specs.Leaves.{Once, once_of}
use Rattle.exchange_check.specs.Inner.Stays.{last_stays}
use Rattle.copy_stays.specs.Stays.{once_in}
use Rattle.exchange_check.specs.Inner.Machine.{IsKept, machine, facts_of, stamps_of}
use Rattle.exchange_check.specs.Inner.Telling.{exchange_with, exchange_found, exchange_at, exchange_by}
use Rattle.exchange_check.specs.Inner.Telling.{stay_of_copy, copy_before, earlier_by, leg_by, message_at_by}
use Rattle.exchange_check.proofs.Noted.{cond_same, count_more, leaves_at, stamps_at, stamp_more}
use Rattle.exchange_check.proofs.Told.{fact_of, facts_at}
use Rattle.exchange_check.proofs.Following.{once_is, followed_is}
use Rattle.exchange_check.proofs.Exchanges.{found_of, found_journey_of}
use Rattle.exchange_check.proofs.Bounds.{bound, chain_parts}
use Rattle.exchange_check.proofs.Standing.{facts, slave, IsFollowed, found_journey_to_is, here, learned, all_lines}
use Rattle.exchange_check.proofs.Standing.{found_if, either_within, stands}
use Rattle.exchange_check.proofs.Made.{message_at_by-is}
use Rattle.exchange_check.proofs.Walks.{stay_walked, earlier_walked}

-- an event that leaves no stay, tells of no master and of no departure
abbrev pub IsSilent : Event → Type 0
IsSilent event = ((named_transit event ≡ None) × (is_set_master event ≡ false)) × (is_stamped event ≡ false)

arrivals_silent : (event : Event) → is_arrival event ≡ true → IsSilent event
arrivals_silent (Arrive node copy at) h = ((refl, refl), refl)
arrivals_silent _ h = absurd (true≢false (sym h))

hearings_silent : (event : Event) → is_hearing event ≡ true → IsSilent event
hearings_silent (Hear node copy) h = ((refl, refl), refl)
hearings_silent _ h = absurd (true≢false (sym h))

one_of : (a b c : Bool) → (a || b || c) ≡ true → (a ≡ true) ⊎ ((b ≡ true) ⊎ (c ≡ true))
one_of true b c h = inl refl
one_of false true c h = inr (inl refl)
one_of false false c h = inr (inr h)

numbers : (network : Network) (o : Option LinePlace)
    → option_map (λ (fact : Fact). fact.line) (option_map (fact_of network) o) ≡ option_map line_number o
numbers network None = refl
numbers network (Some e) = refl

module _ (network : Network) (line : TraceLine) (earlier : Lines) where
  abbrev lines : Lines
  lines = line ∷ earlier

  abbrev told : LinePlace
  told = line_place line earlier

  -- what is told of an exchange, from its journeys
  abbrev of_journeys : Lined → (s r : Option LineJourney) → Option Exchange
  of_journeys x s r = option_and_then (λ s. option_map (λ r. exchange_lines network told x s r) r) s

  abbrev of_lines : Option Lined → Option Exchange
  of_lines o = option_and_then
      (λ x. of_journeys x (unbroken network told draws_sync x.sync_arrival)
      (unbroken network told is_request x.request_arrival)) o

  -- nothing is told at a line that doesn't count
  at_no_line : (report : Report) (kept_once : Once) (stamps : Stamps) → counts network line ≡ false
      → exchange_by (facts network line earlier) kept_once stamps (length earlier) report
      ≡ exchange_told network told report
  at_no_line report kept_once stamps h =
      (λ i. option_and_then (exchange_at (facts network line earlier) kept_once stamps report)
      (option_map (fact_of network) (cond (eq-eqb (length earlier) (length earlier) refl i)
      (cond (h i) (Some told) None) (line_at network earlier (length earlier)))))
      ∙ sym (λ i. of_lines (cond (h i && here network line earlier report && learned network line earlier report)
      (all_lines network line earlier report) None))

module _ (network : Network) (line : TraceLine) (earlier : Lines) (counted : counts network line ≡ true) where
  abbrev pub lines_now : Lines
  lines_now = line ∷ earlier

  kind_here : (kind : Event → Bool) (node : NodeName) (n : ℕ) (x : LinePlace) → n ≡ length earlier
      → line_of network lines_now kind node n ≡ Some x → kind line.event ≡ true
  kind_here kind node n x at h =
      let parts = passed (λ y. is_at kind node (event_of y)) (line_at network lines_now n) h in
      let same : (line_place line earlier) ≡ x = same_Some (line_place line earlier) x
      (sym (line_at-here network line earlier counted) ∙ ap (line_at network lines_now) (sym at) ∙ parts.0) in
      ap (λ (y : LinePlace). kind (event_of y)) same ∙ (and_parts (kind (event_of x)) _ parts.1).0

  module _ (report : Report) where
    abbrev pub at : NodeName
    at = slave network line earlier

    sync_silent : (x : LinePlace) → eqb report.sync_tag (length earlier) ≡ true
        → sync_line network lines_now at report ≡ Some x → IsSilent line.event
    sync_silent x same h =
        arrivals_silent line.event (kind_here is_arrival at report.sync_tag x
        (eqb-true report.sync_tag (length earlier) same)
        (passed (λ y. is_some report.follow_tag || completes y.line.out)
        (line_of network lines_now is_arrival at report.sync_tag) h).0)

    hearing_silent : (hearing : ℕ) (x : LinePlace) → eqb hearing (length earlier) ≡ true
        → line_of network lines_now is_hearing at hearing ≡ Some x → IsSilent line.event
    hearing_silent hearing x same h =
        hearings_silent line.event (kind_here is_hearing at hearing x (eqb-true hearing (length earlier) same) h)

    follow_silent : (hearing : ℕ) (o : Option LinePlace) (f : Option LinePlace)
        → eqb hearing (length earlier) ≡ true
        → follow_line network lines_now at hearing ≡ o → option_map Some o ≡ Some f → IsSilent line.event
    follow_silent hearing None f same h g = absurd (none-some f g)
    follow_silent hearing (Some x) f same h g =
        let heard = bound (sender network lines_now) (line_of network lines_now is_hearing at hearing) x
        (passed (λ y. is_follow (event_of y))
        (option_and_then (sender network lines_now) (line_of network lines_now is_hearing at hearing)) h).0 in
        hearing_silent hearing heard.0 same heard.2

    response_silent : (x : LinePlace) → eqb report.response_tag (length earlier) ≡ true
        → arrival_line network lines_now at report.response_tag ≡ Some x → IsSilent line.event
    response_silent x same h =
        let completed : Option LinePlace =
        where_passes (λ y. completes y.line.out) (line_of network lines_now is_hearing at report.response_tag) in
        let heard = bound (sender network lines_now) completed x
        (passed (λ y. is_arrival (event_of y) && is_made y.line.out)
        (option_and_then (sender network lines_now) completed) h).0 in
        hearing_silent report.response_tag heard.0 same
        (passed (λ y. completes y.line.out) (line_of network lines_now is_hearing at report.response_tag) heard.2).0

    hearing_named : (o : Option ℕ) (f : Option LinePlace)
        → option_map_or (λ hearing. eqb hearing (length earlier)) o false ≡ true
        → follow_lines network lines_now at o ≡ Some f → IsSilent line.event
    hearing_named None f same h = absurd (true≢false (sym same))
    hearing_named (Some hearing) f same h =
        follow_silent hearing (follow_line network lines_now at hearing) f same refl h

    -- a line that a report is of leaves no stay and tells of no departure
    pub silent : (x : Lined) → here network line earlier report ≡ true → all_lines network line earlier report ≡ Some x
        → IsSilent line.event
    silent x of_line found =
        let parts = chain_parts network lines_now (sync_line network lines_now at report)
        (follow_lines network lines_now at report.follow_tag)
        (line_of network lines_now is_request at report.request_tag)
        (arrival_line network lines_now at report.response_tag) x found in
        elim (one_of (eqb report.sync_tag (length earlier))
        (option_map_or (λ hearing. eqb hearing (length earlier)) report.follow_tag false)
        (eqb report.response_tag (length earlier)) of_line) [
          | inl p ↦ sync_silent x.sync_arrival p parts.0
          | inr (inl p) ↦ hearing_named report.follow_tag x.follow p parts.2
          | inr (inr p) ↦ response_silent x.request_arrival p parts.1
        ]

  module _ (quiet : IsSilent line.event) where
    -- the request's departure was not learned here
    pub stamp_same : (request : ℕ) → first_stamp network request lines_now ≡ first_stamp network request earlier
    stamp_same request = stamp_more network line earlier request true counted
        ∙ (λ i. option_or (first_stamp network request earlier)
        (cond (quiet.1 i && option_map_or (λ last. eqb (line_number last) request)
        (last_line network is_request (site_of line.event) earlier) false) (Some (length earlier)) None))
        ∙ or_nothing (first_stamp network request earlier)

    -- nor was a stay left
    pub leaves_same : (transit : ℕ) → count_by (is_leave_of transit) (events network lines_now)
        ≡ count_by (is_leave_of transit) (events network earlier)
    leaves_same transit = ap (count_by (is_leave_of transit)) (events_more network line earlier true counted)
        ∙ count_more (is_leave_of transit) line.event (events network earlier)
        ∙ (λ i. cond (option_map_or (λ named. eqb named transit) (quiet.0.0 i) false)
        (suc (count_by (is_leave_of transit) (events network earlier)))
        (count_by (is_leave_of transit) (events network earlier)))

    pub once_same : (journey : LineJourney)
        → left_once (events network lines_now) journey ≡ left_once (events network earlier) journey
    once_same journey = λ i. list_all (λ stay. eqb (leaves_same (line_number stay.entered) i) 1) journey.stays

    pub followed_here : IsFollowed network line earlier
        (once_of (last_stays (facts_at network lines_now)) (leaves_at network lines_now))
    followed_here copy j h =
        followed_is network (facts_at network lines_now) (leaves_at network lines_now) (events network lines_now)
        (once_is network lines_now) earlier copy j
        (λ n x there. ap (λ (o : Option LinePlace). option_map (fact_of network) o)
        (line_at-later network line earlier n x there)) h (suc copy) (omega arith)
        ∙ once_same j

  abbrev pub once_now : Once
  once_now = once_of (last_stays (facts_at network lines_now)) (leaves_at network lines_now)

  abbrev pub stamps_now : Stamps
  stamps_now = stamps_at network lines_now

  -- the copy that arrives, and its journey
  abbrev pub Arrives : LinePlace → LineJourney → Type 0
  Arrives arrival journey = (copy : ℕ) × (heard_copy (event_of arrival) ≡ Some copy)
      × (line_journey_of network lines_now copy ≡ Some journey)

  below_found : (b : Bool) (copy : ℕ) (journey : LineJourney)
      → cond b (line_journey_of network lines_now copy) None ≡ Some journey
      → line_journey_of network lines_now copy ≡ Some journey
  below_found true copy journey h = h
  below_found false copy journey h = absurd (none-some journey h)

  pub arrives : (kind : Event → Bool) (arrival : LinePlace) (journey : LineJourney)
      → unbroken network (line_place line earlier) kind arrival ≡ Some journey → Arrives arrival journey
  arrives kind arrival journey h =
      let found = bound (below (line_journey_of network lines_now) (line_number arrival))
      (heard_copy (event_of arrival)) journey
      (passed (λ j. kind (event_of j.origin))
      (option_and_then (below (line_journey_of network lines_now) (line_number arrival))
      (heard_copy (event_of arrival)))
      (passed (left_once (events network earlier)) (journey_to network lines_now kind arrival) h).0).0 in
      (found.0, found.2, below_found (nat_lt found.0 (line_number arrival)) found.0 journey found.1)

  leg_is : (arrival : LinePlace) (journey : LineJourney) → Arrives arrival journey
      → leg_by (facts network line earlier) (fact_of network arrival) (found_journey_of network journey)
      ≡ leg_told network arrival journey
  leg_is arrival journey found = λ i. record {
    departed = line_told network journey.origin;
    stays = map (λ (n : ℕ). (ap (λ (o : Option ℕ). stay_of_copy (facts network line earlier)
        (copy_before (facts network line earlier) n o)) found.1
        ∙ stay_walked network lines_now found.0 journey found.2 n) i) (range_with_len 0 16);
    earlier = (ap (λ (o : Option ℕ). earlier_by (facts network line earlier)
        (copy_before (facts network line earlier) 16 o)) found.1
        ∙ earlier_walked network lines_now found.0 journey found.2 16) i;
    residence = line_residence journey;
    arrived = line_told network arrival;
  }

  journeys_told : (x : Lined) (s r : Option LineJourney)
      → unbroken network (line_place line earlier) draws_sync x.sync_arrival ≡ s
      → unbroken network (line_place line earlier) is_request x.request_arrival ≡ r
      → option_and_then (λ sync. option_map
      (λ request. exchange_with (facts network line earlier) stamps_now (found_of network x) sync request)
      (option_map (found_journey_of network) r)) (option_map (found_journey_of network) s)
      ≡ of_journeys network line earlier x s r
  journeys_told x None r p q = refl
  journeys_told x (Some s) None p q = refl
  journeys_told x (Some s) (Some r) p q = λ i. Some (record {
    sync = leg_is x.sync_arrival s (arrives draws_sync x.sync_arrival s p) i;
    follow = numbers network x.follow i;
    request = leg_is x.request_arrival r (arrives is_request x.request_arrival r q) i;
    stamped = first_stamp network (line_number x.request) lines_now;
  })

  module _ (report : Report) where
    abbrev pub learned_now : Bool
    learned_now = is_stamped_by stamps_now report.request_tag report.response_tag

    abbrev found_told : Option Lined → Option Exchange
    found_told o = option_and_then (exchange_found (facts network line earlier) once_now stamps_now)
        (option_map (found_of network) o)

    lines_told : (x : Lined) → all_lines network line earlier report ≡ Some x → IsSilent line.event
        → found_told (Some x) ≡ of_lines network line earlier (Some x)
    lines_told x found quiet =
        let fits = either_within network line earlier report true x found in
        (λ i. option_and_then (λ sync.
        option_map (λ request. exchange_with (facts network line earlier) stamps_now (found_of network x) sync request)
        (found_journey_to_is network line earlier once_now (followed_here quiet) is_request x.request_arrival fits.1 i))
        (found_journey_to_is network line earlier once_now (followed_here quiet) draws_sync x.sync_arrival fits.0 i))
        ∙ journeys_told x (unbroken network (line_place line earlier) draws_sync x.sync_arrival)
        (unbroken network (line_place line earlier) is_request x.request_arrival) refl refl

    pub learned_same : IsSilent line.event → learned_now ≡ learned network line earlier report
    learned_same quiet = λ i. nat_lt report.request_tag report.response_tag
        && option_map_or (λ stamp. nat_lt stamp report.response_tag) (stamp_same quiet report.request_tag i) false

    under : (b : Bool) (x : Lined) → found_told (Some x) ≡ of_lines network line earlier (Some x)
        → found_told (cond b (Some x) None) ≡ of_lines network line earlier (cond b (Some x) None)
    under true x h = h
    under false x h = refl

    by_place : (of_line : Bool) (o : Option Lined) → here network line earlier report ≡ of_line
        → all_lines network line earlier report ≡ o
        → found_told (cond (of_line && learned_now) o None)
        ≡ of_lines network line earlier (cond (of_line && learned network line earlier report) o None)
    by_place false o p q = refl
    by_place true None p q = ap found_told (cond_same learned_now None)
        ∙ sym (ap (of_lines network line earlier) (cond_same (learned network line earlier report) None))
    by_place true (Some x) p q =
        let quiet = silent report x p q in
        (λ i. found_told (cond (learned_same quiet i) (Some x) None))
        ∙ under (learned network line earlier report) x (lines_told x q quiet)

    -- what is told of a report of a line that counts
    at_line : exchange_by (facts network line earlier) once_now stamps_now (length earlier) report
        ≡ exchange_told network (line_place line earlier) report
    at_line =
        ap (λ (o : Option LinePlace). option_and_then
        (exchange_at (facts network line earlier) once_now stamps_now report) (option_map (fact_of network) o))
        (line_at-here network line earlier counted)
        ∙ ap (option_and_then (exchange_found (facts network line earlier) once_now stamps_now))
        (found_if network line earlier report (here network line earlier report && learned_now))
        ∙ by_place (here network line earlier report) (all_lines network line earlier report) refl refl
        ∙ sym (λ i. of_lines network line earlier
        (cond (counted i && here network line earlier report && learned network line earlier report)
        (all_lines network line earlier report) None))

module _ (network : Network) (report : Report) where
  -- at the last line
  last_told : (fed : Lines) (number : ℕ) → number + 1 ≡ length fed
      → exchange_by (facts_at network fed) (once_of (last_stays (facts_at network fed)) (leaves_at network fed))
      (stamps_at network fed) number report ≡ last_exchange network fed report
  last_told [] number h = absurd (omega (arith, h))
  last_told (line ∷ earlier) number h =
      let last : number ≡ length earlier = omega (arith, h) in
      let fed : Lines = line ∷ earlier in
      ap (λ (n : ℕ). exchange_by (facts_at network fed)
      (once_of (last_stays (facts_at network fed)) (leaves_at network fed)) (stamps_at network fed) n report) last
      ∙ either (counts network line) refl
    where
      either : (b : Bool) → counts network line ≡ b
          → exchange_by (facts network line earlier)
          (once_of (last_stays (facts network line earlier)) (leaves_at network (line ∷ earlier)))
          (stamps_at network (line ∷ earlier)) (length earlier) report
          ≡ exchange_told network (line_place line earlier) report
      either true h = at_line network line earlier h report
      either false h = at_no_line network line earlier report
          (once_of (last_stays (facts network line earlier)) (leaves_at network (line ∷ earlier)))
          (stamps_at network (line ∷ earlier)) h

-- what is told right after these lines, newest first, by what is kept of them
module _ (network : Network) (fed : Lines) (kept : Kept) (h : IsKept network kept (length fed) (machine network fed)) where
  facts_are : facts_of kept ≡ facts_at network fed
  facts_are = h.facts ∙ (stands network fed).facts

  once_are : once_in kept.stays ≡ once_of (last_stays (facts_at network fed)) (leaves_at network fed)
  once_are =
      once_kept kept.stays (last_stays (machine network fed).facts) (machine network fed).leaves (length fed) h.stays
      ∙ (λ i. once_of (last_stays ((stands network fed).facts i)) ((stands network fed).leaves i))

  stamps_are : stamps_of kept ≡ stamps_at network fed
  stamps_are = h.stamps ∙ (stands network fed).stamps

  pub exchange-kept : (report : Report) (count : ℕ) → count ≡ length (reverse fed) → 0 < count
      → exchange_by (facts_of kept) (once_in kept.stays) (stamps_of kept) (count - 1) report
      ≡ last_exchange network (reverse (reverse fed)) report
  exchange-kept report count counted some =
      let same : length (reverse fed) ≡ length fed = length-reverse fed in
      let last : (count - 1) + 1 ≡ length fed = omega (arith, counted, same, some) in
      (λ i. exchange_by (facts_are i) (once_are i) (stamps_are i) (count - 1) report)
      ∙ last_told network report fed (count - 1) last
      ∙ ap (λ (lines : Lines). last_exchange network lines report) (sym (reverse-reverse fed))

  pub message-kept : (number : ℕ)
      → message_at_by network (facts_of kept) number ≡ message_at network (reverse (reverse fed)) number
  message-kept number = (λ i. message_at_by network (facts_are i) number) ∙ message_at_by-is network fed number
      ∙ ap (λ (lines : Lines). message_at network lines number) (sym (reverse-reverse fed))
