-- Where clocks are steady, a report's error is the asymmetry of its two paths: each bracket is the time on its path and the
-- difference of the two clocks, and the residences cancel.
use Rattle.std.proofs.Common.{◌≡◌, ◌∙◌, ℕ, ℤ, pos, ◌+ℤ◌, ◌-ℤ◌, Bool, true, false, List, [], ◌∷◌, Option, Some, None, refl, sym, ap, subst, arith, option_map, option_and_then}
use Rattle.std.specs.Prelude.{is_some, ◌&&◌}
use Rattle.std.proofs.lemmas.Int.{ints}
use Rattle.ptp_units.specs.Exchange.{offset2, path2}
use Rattle.slave_port.specs.declared.heard.Report.{Report}
use Rattle.network_model.specs.declared.event.Event.{Event}
use Rattle.network_model.specs.declared.event.Event.TheVariants.{Sync, SyncOne, Arrive, Request}
use Rattle.network_model.specs.Network.{Network, NodeName, is_named}
use Rattle.network_model.specs.Run.{Run, Place, place_at, tag_of, IsIn, until, site_of, true_moment}
use Rattle.network_model.specs.Kinds.{is_at, draws_sync, is_request, is_set_master, is_step, named_master, timed_copy, heard_copy}
use Rattle.network_model.specs.Clock.{difference, reading}
use Rattle.network_model.specs.Journey.{Journey, Stay, journey_of, residence}
use Rattle.network_model.specs.Outcome.{IsRun}
use Rattle.network_model.specs.Present.{present_master}
use Rattle.network_model.specs.Premises.{exact_limits, IsFreshAndTickedFor}
use Rattle.network_model.specs.Reported.{Reports}
use Rattle.network_model.specs.Exact.{IsBracketOf, IsOfOneSync, IsOfOneRequest, IsTwice, LearnsDeparture, OfPresentMaster}
use Rattle.network_model.specs.Level.{crossings_of, path_to, maker_heard, time_on, moment_at, IsSteady}
use Rattle.network_model.specs.TrueTime.{twice, IsAsymmetric, ErrorIsAsymmetry}
use Rattle.network_model.proofs.Places.{IsRun-place_at, IsIn-place_at, IsIn-within}
use Rattle.network_model.proofs.Sites.{at_kind, at_site}
use Rattle.network_model.proofs.Journeys.{IsIn-origin}
use Rattle.network_model.proofs.Readings.{shown_reading, sync_timed, request_timed}
use Rattle.network_model.proofs.Reach.{present_master-later}
use Rattle.network_model.proofs.Pairing.{shorter_for, meet_for, until_each, place_at-until, one_step_draws, two_step_draws}
use Rattle.network_model.proofs.Reports.{report_event, is_of_one_sync, is_of_one_request}
use Rattle.network_model.proofs.Twice.{each_twice}
use Rattle.network_model.proofs.Steady.{reading_is}
use Rattle.network_model.proofs.Paths.{AreStays, stays_are, path_is}

-- stays of an earlier run
stays-within : (run : Run) (p : Place) (stays : List Stay) → IsIn run p → AreStays p.earlier stays → AreStays run stays
stays-within run p [] there are = tt
stays-within run p (stay ∷ stays) there are = (
  record {
    clock = are.0.clock;
    entered_in = IsIn-within run p stay.entered there are.0.entered_in;
    left_in = IsIn-within run p stay.left there are.0.left_in;
    entered_at = are.0.entered_at;
    left_at = are.0.left_at;
    entered_timed = are.0.entered_timed;
    left_timed = are.0.left_timed;
    entered_steps = are.0.entered_steps;
    left_steps = are.0.left_steps;
    order = are.0.order;
  },
  stays-within run p stays there are.1,
)

-- a Sync event and a Request event step no clock
sync_steps_none : (event : Event) → draws_sync event ≡ true → is_step event ≡ false
sync_steps_none (Sync node at) is = refl
sync_steps_none (SyncOne node at) is = refl
sync_steps_none _ is = cc

request_steps_none : (event : Event) → is_request event ≡ true → is_step event ≡ false
request_steps_none (Request node at) is = refl
request_steps_none _ is = cc

-- each bracket is the time on the path and the difference of the clocks
bracket_is : (network : Network) (run : Run) (arrival : Place) (journey : Journey) (copy moment : ℕ) (here there : NodeName) (a : ℤ) → IsRun network run → IsSteady run
    → IsIn run arrival → arrival.event ≡ Arrive here copy moment → journey_of arrival.earlier copy ≡ Some journey
    → is_some (true_moment journey.origin.event) ≡ true → is_step journey.origin.event ≡ false → site_of journey.origin.event ≡ there
    → IsBracketOf arrival journey a
    → a ≡ time_on (crossings_of journey.origin journey.stays arrival) +ℤ (difference here run -ℤ difference there run)
bracket_is network run arrival journey copy moment here there a accepted steady arrival_in event journey_is timed steps site bracket =
    let before : IsRun network arrival.earlier = IsRun-place_at network run (tag_of arrival) arrival accepted arrival_in in
    let origin_in : IsIn run journey.origin = IsIn-within run arrival journey.origin arrival_in (IsIn-origin arrival.earlier copy journey journey_is) in
    let arrival_timed : is_some (true_moment arrival.event) ≡ true = ap (λ (e : Event). is_some (true_moment e)) event in
    let stays = stays-within run arrival journey.stays arrival_in (stays_are network arrival.earlier copy journey before journey_is) in
    let path = path_is network run journey.origin journey.stays arrival accepted steady stays in
    let arrived = reading_is network run arrival here accepted steady arrival_in arrival_timed (ap is_step event) (ap site_of event) in
    let left = reading_is network run journey.origin there accepted steady origin_in timed steps site in
    let shown : Some bracket.arrived ≡ Some (pos (reading arrival)) = sym bracket.arrival_shown ∙ shown_reading network run arrival accepted arrival_in arrival_timed in
    let shown_left : Some bracket.left ≡ Some (pos (reading journey.origin)) = sym bracket.departure_shown ∙ shown_reading network run journey.origin accepted origin_in timed in
    let one : bracket.arrived ≡ pos (reading arrival) = cc in
    let other : bracket.left ≡ pos (reading journey.origin) = cc in
    sums a bracket.arrived bracket.left (residence journey) (time_on (crossings_of journey.origin journey.stays arrival)) (moment_at arrival) (moment_at journey.origin)
    (difference here run) (difference there run) bracket.value (one ∙ arrived) (other ∙ left) path
  where
    sums : (a arrived left : ℤ) (r : ℕ) (t m n d e : ℤ) → a ≡ (arrived -ℤ left) -ℤ pos r → arrived ≡ m +ℤ d → left ≡ n +ℤ e → t +ℤ pos r ≡ m -ℤ n → a ≡ t +ℤ (d -ℤ e)
    sums a arrived left r t m n d e f g h k = omega (arith, ints)

-- the master of a report is the one that the slave followed before it
report_master : (network : Network) (answered : Place) (report : Report) (master named : NodeName) → Reports network answered report
    → present_master (site_of answered.event) answered.earlier ≡ Some master → OfPresentMaster (until answered) (site_of answered.event) named report → named ≡ master
report_master network answered report master named reports present of =
    let unset = (report_event network answered report reports).1 in
    let now : present_master (site_of answered.event) (until answered) ≡ Some named = ap (option_and_then (λ (set : Place). named_master set.event)) of.last ∙ of.named in
    let same : Some named ≡ Some master =
    sym now ∙ present_master-later (site_of answered.event) answered.event answered.earlier (unset_at unset) ∙ present in
    cc
  where
    unset_at : is_set_master answered.event ≡ false → is_at is_set_master (site_of answered.event) answered.event ≡ false
    unset_at unset = ap (λ (b : Bool). b && is_named (site_of answered.event) (site_of answered.event)) unset

-- the Sync event of a report is the present master's
pub origin_drawn : (run : Run) (slave master : NodeName) (tag : Option ℕ) (origin : Place) → LearnsDeparture run slave master tag origin → is_at draws_sync master origin.event ≡ true
origin_drawn run slave master None origin learns = one_step_draws master origin.event learns
origin_drawn run slave master (Some tag) origin learns = two_step_draws master origin.event learns.drawn

-- the measurement of a report, in a longer run
asymmetric : (network : Network) (run : Run) (answered : Place) (report : Report) (master : NodeName) → IsRun network run → IsSteady run → IsIn run answered
    → (sync : IsOfOneSync (until answered) (site_of answered.event) report) → (request : IsOfOneRequest (until answered) (site_of answered.event) report)
    → sync.master ≡ master → request.master ≡ master → IsTwice sync.arrival sync.journey request.arrival request.journey report
    → IsAsymmetric run (site_of answered.event) master report
asymmetric network run answered report master accepted steady there sync request sync_master request_master double =
    let slave : NodeName = site_of answered.event in
    let arrives = sync.sync.arrives in
    let hears = request.request.hears in
    let back_arrives = request.request.arrives in
    let arrival_at : place_at run report.sync_tag ≡ Some sync.arrival = place_at-until run answered report.sync_tag sync.arrival there arrives.there in
    let hearing_at : place_at run report.response_tag ≡ Some hears.hearing = place_at-until run answered report.response_tag hears.hearing there hears.there in
    let back_at : place_at run (tag_of request.arrival) ≡ Some request.arrival = place_at-until run answered (tag_of request.arrival) request.arrival there back_arrives.there in
    let drawn : is_at draws_sync sync.master sync.journey.origin.event ≡ true =
    origin_drawn (until answered) slave sync.master report.follow_tag sync.journey.origin sync.sync.departure in
    let kind : draws_sync sync.journey.origin.event ≡ true = at_kind draws_sync sync.master sync.journey.origin.event drawn in
    let asked : is_request request.journey.origin.event ≡ true = at_kind is_request slave request.journey.origin.event request.request.drawn in
    let a = bracket_is network run sync.arrival sync.journey arrives.copy arrives.moment slave master double.a accepted steady
    (IsIn-place_at run report.sync_tag sync.arrival arrival_at) arrives.event arrives.journey_is (sync_timed sync.journey.origin.event kind)
    (sync_steps_none sync.journey.origin.event kind) (at_site draws_sync sync.master sync.journey.origin.event drawn ∙ sync_master) double.of_sync in
    let b = bracket_is network run request.arrival request.journey back_arrives.copy back_arrives.moment master slave double.b accepted steady
    (IsIn-place_at run (tag_of request.arrival) request.arrival back_at)
    (back_arrives.event ∙ ap (λ (n : NodeName). Arrive n back_arrives.copy back_arrives.moment) request_master) back_arrives.journey_is
    (request_timed request.journey.origin.event asked) (request_steps_none request.journey.origin.event asked)
    (at_site is_request slave request.journey.origin.event request.request.drawn) double.of_request in
    record {
      there = crossings_of sync.journey.origin sync.journey.stays sync.arrival;
      back = crossings_of request.journey.origin request.journey.stays request.arrival;
      sync = ap (option_and_then path_to) arrival_at ∙ path_of sync.arrival sync.journey arrives.copy (ap timed_copy arrives.event) arrives.journey_is;
      request = ap (λ (o : Option Place). option_and_then path_to (option_and_then maker_heard o)) hearing_at
          ∙ ap (λ (o : Option ℕ). option_and_then path_to (option_and_then (place_at hears.hearing.earlier) o)) (ap heard_copy hears.event)
          ∙ ap (option_and_then path_to) hears.made_by
          ∙ path_of request.arrival request.journey back_arrives.copy (ap timed_copy back_arrives.event) back_arrives.journey_is;
      offset = double.offset
          ∙ offsets double.a double.b (time_on (crossings_of sync.journey.origin sync.journey.stays sync.arrival)) (time_on (crossings_of request.journey.origin request.journey.stays request.arrival))
          (difference slave run) (difference master run) a b;
      path = double.path
          ∙ paths double.a double.b (time_on (crossings_of sync.journey.origin sync.journey.stays sync.arrival)) (time_on (crossings_of request.journey.origin request.journey.stays request.arrival))
          (difference slave run) (difference master run) a b;
    }
  where
    path_of : (p : Place) (journey : Journey) (copy : ℕ) → timed_copy p.event ≡ Some copy → journey_of p.earlier copy ≡ Some journey
        → path_to p ≡ Some (crossings_of journey.origin journey.stays p)
    path_of p journey copy copy_is journey_is =
        ap (option_and_then (λ (copy : ℕ). option_map (λ (journey : Journey). crossings_of journey.origin journey.stays p) (journey_of p.earlier copy))) copy_is
        ∙ ap (option_map (λ (journey : Journey). crossings_of journey.origin journey.stays p)) journey_is

    offsets : (a b x y s m : ℤ) → a ≡ x +ℤ (s -ℤ m) → b ≡ y +ℤ (m -ℤ s) → offset2 a b ≡ twice (s -ℤ m) +ℤ (x -ℤ y)
    offsets a b x y s m e f = omega (arith, ints)

    paths : (a b x y s m : ℤ) → a ≡ x +ℤ (s -ℤ m) → b ≡ y +ℤ (m -ℤ s) → path2 a b ≡ x +ℤ y
    paths a b x y s m e f = omega (arith, ints)

-- in runs that are fresh and ticked for the slave
pub error_is_asymmetry : ErrorIsAsymmetry (IsFreshAndTickedFor exact_limits)
error_is_asymmetry network run slave master report premise steady reported present =
    let answered : Place = reported.answered in
    let until_premise : IsFreshAndTickedFor exact_limits network slave (until answered) =
    until_each (IsFreshAndTickedFor exact_limits network slave) (shorter_for exact_limits network slave) run answered reported.there premise in
    let meet = meet_for exact_limits network (site_of answered.event) (until answered)
    (subst (λ (n : NodeName). IsFreshAndTickedFor exact_limits network n (until answered)) (sym reported.site) until_premise) in
    let sync = is_of_one_sync 65536 (omega arith) network answered report meet reported.reports in
    let request = is_of_one_request 65536 (omega arith) network answered report meet reported.reports in
    let double = each_twice network answered report (record { apart = until_premise.apart; accepted = until_premise.accepted }) reported.reports sync request in
    let follows : present_master (site_of answered.event) answered.earlier ≡ Some master = subst (λ (n : NodeName). present_master n answered.earlier ≡ Some master) (sym reported.site) present in
    subst (λ (n : NodeName). IsAsymmetric run n master report) reported.site
    (asymmetric network run answered report master premise.accepted steady reported.there sync request
    (report_master network answered report master sync.master reported.reports follows sync.present)
    (report_master network answered report master request.master reported.reports follows request.present) double)
