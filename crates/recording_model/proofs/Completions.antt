-- Each completion is of one Sync of the master, or of one Delay_Req to it, which its lines name, and its bracket is
-- exact.
use Rattle.std.proofs.Common.{◌≡◌, ◌∙◌, ℕ, ℤ, pos, ◌+ℤ◌, ◌-ℤ◌, ◌≤◌, true, Option, Some, None, refl, sym, ap, subst, arith}
use Rattle.std.proofs.Common.{int_lt}
use Rattle.std.proofs.lemmas.Int.{ints}
use Rattle.std.specs.Prelude.{count_by, is_some, IsTrue}
use Rattle.ptp_units.specs.Interval.{too_big, with_residence}
use Rattle.ptp_units.specs.Moment.{Stamp, stamp_of, fraction_of, moment}
use Rattle.ptp_units.specs.Exchange.{sync_bracket}
use Rattle.event_codec.specs.declared.message.Body.TheVariants as bodies
use Rattle.event_codec.specs.Packet.{Contents}
use Rattle.pairing.specs.Marked.{Entry}
use Rattle.slave_port.specs.Values.{SyncValue, FollowValue}
use Rattle.slave_port.specs.Completion.{SyncCompletion, DelayCompletion, pair, alone, bracket_of_sync, bracket_of_delay}
use Rattle.network_model.specs.declared.event.Event.{Event}
use Rattle.network_model.specs.declared.event.Event.TheVariants.{Follow, Arrive, Hear}
use Rattle.network_model.specs.Network.{Network, NodeName, PortSetup}
use Rattle.network_model.specs.Run.{Run, Place, place_at, tag_of, IsIn, true_moment}
use Rattle.network_model.specs.Kinds.{is_at, is_sync, is_one_step_sync, draws_sync, is_request}
use Rattle.network_model.specs.Clock.{reading}
use Rattle.network_model.specs.Numbering.{waiting_sync}
use Rattle.network_model.specs.Journey.{Journey, journey_of, residence}
use Rattle.network_model.specs.Outcome.{IsRun}
use Rattle.network_model.specs.Exact.{IsBracketOf}
use Rattle.network_model.proofs.Places.{IsIn-place_at, IsIn-within}
use Rattle.network_model.proofs.Sites.{at_kind}
use Rattle.network_model.proofs.Masters.{waiting_sync-is}
use Rattle.network_model.proofs.Copies.{IsOneStep}
use Rattle.network_model.proofs.Pairing.{two_step_draws, one_step_draws, one_sync_event}
use Rattle.network_model.proofs.Readings.{shown_reading, sync_timed}
use Rattle.network_model.proofs.Exactness.{one_step_bracket-exact}
use Rattle.network_model.proofs.Twice.{of_parts, sync_parts, two_step_bracket}
use Rattle.recording_model.specs.Agreement.{Moved}
use Rattle.recording_model.proofs.Lines.{Lines, Extends, AreIn}
use Rattle.recording_model.proofs.HeldMessages.{IsHeldSync, IsHeldFollow}

-- the line tells the hearing of the Follow_Up of a two-step Sync of the master
pub record IsFollowed (lines : Lines) (slave master : NodeName) (line : ℕ) (origin : Place) : Type 0 where
  pub hearing : Place
  pub copy : ℕ
  pub follow : Place
  pub told : lines line ≡ Some hearing
  pub event : hearing.event ≡ Hear slave copy
  pub made_by : place_at hearing.earlier copy ≡ Some follow
  pub follows : follow.event ≡ Follow master
  pub followed : waiting_sync master follow.earlier ≡ Some origin
  pub drawn : IsTrue (is_at is_sync master origin.event)

-- how it is known when a Sync of the master left
abbrev pub IsLearnt : Lines → (slave master : NodeName) → Option ℕ → Place → Type 0
IsLearnt lines slave master None origin = IsTrue (is_at is_one_step_sync master origin.event)
IsLearnt lines slave master (Some line) origin = IsFollowed lines slave master line origin

-- a completion is of one Sync of the master
pub record IsOneSync (lines : Lines) (slave master : NodeName) (c : SyncCompletion) : Type 0 where
  pub arrival : Place
  pub journey : Journey
  pub copy : ℕ
  pub moment : ℕ
  pub told : lines c.sync_tag ≡ Some arrival
  pub event : arrival.event ≡ Arrive slave copy moment
  pub journey_is : journey_of arrival.earlier copy ≡ Some journey
  pub learnt : IsLearnt lines slave master c.follow_tag journey.origin
  pub bracket : IsBracketOf arrival journey (bracket_of_sync c)

-- a completion is of one Delay_Req to the master
pub record IsOneRequest (lines : Lines) (slave master : NodeName) (c : DelayCompletion) : Type 0 where
  pub hearing : Place
  pub copy : ℕ
  pub arrival : Place
  pub asked : ℕ
  pub moment : ℕ
  pub journey : Journey
  pub requested : lines c.request_tag ≡ Some journey.origin
  pub drawn : IsTrue (is_at is_request slave journey.origin.event)
  pub told : lines c.response_tag ≡ Some hearing
  pub event : hearing.event ≡ Hear slave copy
  pub made_by : place_at hearing.earlier copy ≡ Some arrival
  pub arrives : arrival.event ≡ Arrive master asked moment
  pub journey_is : journey_of arrival.earlier asked ≡ Some journey
  pub bracket : IsBracketOf arrival journey (bracket_of_delay c)

module _ (lines more : Lines) (slave master : NodeName) (extends : Extends lines more) where
  learnt-later : (tag : Option ℕ) (origin : Place) → IsLearnt lines slave master tag origin
      → IsLearnt more slave master tag origin
  learnt-later None origin learnt = learnt
  learnt-later (Some line) origin learnt = record {
    hearing = learnt.hearing;
    copy = learnt.copy;
    follow = learnt.follow;
    told = extends line learnt.hearing learnt.told;
    event = learnt.event;
    made_by = learnt.made_by;
    follows = learnt.follows;
    followed = learnt.followed;
    drawn = learnt.drawn;
  }

  pub one_sync-later : (c : SyncCompletion) → IsOneSync lines slave master c → IsOneSync more slave master c
  one_sync-later c one = record {
    arrival = one.arrival;
    journey = one.journey;
    copy = one.copy;
    moment = one.moment;
    told = extends c.sync_tag one.arrival one.told;
    event = one.event;
    journey_is = one.journey_is;
    learnt = learnt-later c.follow_tag one.journey.origin one.learnt;
    bracket = one.bracket;
  }

  pub one_request-later : (c : DelayCompletion) → IsOneRequest lines slave master c → IsOneRequest more slave master c
  one_request-later c one = record {
    hearing = one.hearing;
    copy = one.copy;
    arrival = one.arrival;
    asked = one.asked;
    moment = one.moment;
    journey = one.journey;
    requested = extends c.request_tag one.journey.origin one.requested;
    drawn = one.drawn;
    told = extends c.response_tag one.hearing one.told;
    event = one.event;
    made_by = one.made_by;
    arrives = one.arrives;
    journey_is = one.journey_is;
    bracket = one.bracket;
  }

module _ (network : Network) (slave master : NodeName) (moved : Moved) (other : PortSetup) (lines : Lines) (run : Run)
    (accepted : IsRun network run)
    (within : AreIn lines run) where
  -- a bracket over the readings, where a Sync of the master left and arrived
  bracket_of : (arrival : Place) (journey : Journey) (copy moment : ℕ) (bracket : _) → IsIn run arrival
      → arrival.event ≡ Arrive slave copy moment
      → IsIn run journey.origin → is_at draws_sync master journey.origin.event ≡ true
      → bracket ≡ (pos (reading arrival) -ℤ pos (reading journey.origin)) -ℤ pos (residence journey)
      → IsBracketOf arrival journey bracket
  bracket_of arrival journey copy moment bracket there event origin_there drawn is = record {
    arrived = pos (reading arrival);
    left = pos (reading journey.origin);
    arrival_shown = shown_reading network run arrival accepted there
        (ap (λ (e : Event). is_some (true_moment e)) event);
    departure_shown = shown_reading network run journey.origin accepted origin_there
        (sync_timed journey.origin.event (at_kind draws_sync master journey.origin.event drawn));
    value = is;
  }

  -- what one of the two corrections has less the other has more
  in_sum : (follow follow' sync sync' more : ℤ) (t2 : ℕ) (precise : Stamp) → follow ≡ follow' +ℤ more
      → sync' ≡ sync +ℤ more
      → sync_bracket t2 precise follow sync ≡ sync_bracket t2 precise follow' sync'
  in_sum follow follow' sync sync' more t2 precise e f = omega (arith, ints)

  -- a Sync and a Follow_Up of one number that are both held are of one Sync of the master
  pub paired : (syncs b c : ℕ) (e : Entry SyncValue) (f : Entry FollowValue) (number : ℕ)
      → syncs ≡ count_by (is_at draws_sync master) run → b ≤ 65536 → c ≤ 65536
      → IsHeldSync network slave master moved other lines syncs b e → IsHeldFollow network slave master moved other lines syncs c f
      → e.number ≡ f.number
      → IsOneSync lines slave master (pair number e.value f.value)
  paired syncs b c e f number counted b_fits c_fits sync follow same =
      let origin : Place = sync.drawn.journey.origin in
      let there = within e.value.tag sync.arrival sync.told in
      let origin_there = IsIn-within run sync.arrival origin there sync.drawn.there in
      let waited = waiting_sync-is follow.made.node follow.made.made.earlier follow.made.origin follow.made.waiting in
      let made_there = IsIn-within run follow.hearing follow.made.made (within f.value.tag follow.hearing follow.told)
      (IsIn-place_at follow.hearing.earlier follow.copy follow.made.made follow.made.there) in
      let waited_there = IsIn-within run follow.made.made follow.made.origin made_there waited.0 in
      let drawn = two_step_draws master origin.event sync.of_master in
      let drawn_too = two_step_draws master follow.made.origin.event
      (subst (λ (n : NodeName). is_at is_sync n follow.made.origin.event ≡ true) follow.of_master waited.1) in
      let near = sync.near in
      let near_too = follow.near in
      let one : origin ≡ follow.made.origin =
      one_sync_event master other run origin follow.made.origin origin_there waited_there drawn drawn_too (omega arith)
      (omega arith)
      (sym sync.number ∙ same ∙ follow.number) in
      record {
        arrival = sync.arrival;
        journey = sync.drawn.journey;
        copy = sync.copy;
        moment = sync.moment;
        told = sync.told;
        event = sync.event;
        journey_is = sync.drawn.made;
        learnt = record {
          hearing = follow.hearing;
          copy = follow.copy;
          follow = follow.made.made;
          told = follow.told;
          event = follow.event;
          made_by = follow.made.there;
          follows = follow.made.event ∙ ap Follow follow.of_master;
          followed = subst (λ (n : NodeName). waiting_sync n follow.made.made.earlier ≡ Some origin) follow.of_master
              (follow.made.waiting ∙ ap (λ (o : Place). Some o) (sym one));
          drawn = sync.of_master;
        };
        bracket = bracket_of sync.arrival sync.drawn.journey sync.copy sync.moment
            (bracket_of_sync (pair number e.value f.value)) there sync.event origin_there drawn
            (in_sum f.value.correction follow.m.header.correction.0 e.value.correction sync.m.header.correction.0
            (moved (tag_of origin)) e.value.t2 f.value.precise
            (follow.correction ∙ ap (λ (o : Place). follow.m.header.correction.0 +ℤ moved (tag_of o)) (sym one))
            sync.correction
            ∙ of_parts e.value.t2 (reading sync.arrival) f.value.precise follow.precise follow.m.header.correction.0
            follow.m.header.correction.0
            sync.m.header.correction.0 sync.m.header.correction.0 sync.t2 follow.precise_is refl refl
            ∙ two_step_bracket network sync.arrival.earlier follow.hearing.earlier sync.copy follow.copy sync.m
            follow.m (reading sync.arrival)
            (reading sync.arrival) follow.precise sync.drawn follow.made follow.body sync.small refl
            ∙ ap (λ (o : Place). (pos (reading sync.arrival) -ℤ pos (reading o)) -ℤ pos (residence sync.drawn.journey))
            (sym one));
      }

  -- a one-step Sync of the master
  pub by_itself : (arrival : Place) (copy moment t2 tag : ℕ) (stamp : Stamp) (m : Contents) → lines tag ≡ Some arrival
      → arrival.event ≡ Arrive slave copy moment
      → (drawn : IsOneStep network arrival.earlier copy m)
      → is_at is_one_step_sync master drawn.journey.origin.event ≡ true
      → m.body ≡ bodies.Sync stamp → int_lt m.header.correction.0 too_big ≡ true → t2 ≡ reading arrival
      → IsOneSync lines slave master
      (alone m.header.sequence.0 (record { t2 = t2; origin = stamp; correction = m.header.correction.0; tag = tag }))
  by_itself arrival copy moment t2 tag stamp m told event drawn of_master body small t2_is =
      let origin : Place = drawn.journey.origin in
      let t1 : ℕ = reading origin in
      let there = within tag arrival told in
      let correction : m.header.correction.0 ≡ with_residence (pos (fraction_of t1)) (residence drawn.journey) =
      ap (λ (m : Contents). m.header.correction.0) drawn.is in
      record {
        arrival = arrival;
        journey = drawn.journey;
        copy = copy;
        moment = moment;
        told = told;
        event = event;
        journey_is = drawn.made;
        learnt = of_master;
        bracket = bracket_of arrival drawn.journey copy moment
            (bracket_of_sync (alone m.header.sequence.0 (record {
              t2 = t2;
              origin = stamp;
              correction = m.header.correction.0;
              tag = tag;
            }))) there event
            (IsIn-within run arrival origin there drawn.there) (one_step_draws master origin.event of_master)
            (of_parts t2 (reading arrival) stamp (stamp_of t1) (pos 0) (pos 0) m.header.correction.0
            (with_residence (pos (fraction_of t1)) (residence drawn.journey)) t2_is
            (sync_parts (sym body ∙ ap (λ (m : Contents). m.body) drawn.is)) refl correction
            ∙ one_step_bracket-exact (reading arrival) t1 (residence drawn.journey)
            (subst (λ c. int_lt c too_big ≡ true) correction small));
      }
