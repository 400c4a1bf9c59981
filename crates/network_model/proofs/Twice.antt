-- Each report is exactly twice the two results over the Sync and the Delay_Req that its tags name, in every accepted run:
-- each half of it is a bracket over what the clocks showed, and a correction that was used isn't too big.
use Rattle.std.proofs.Common.{◌≡◌, ◌∙◌, ℕ, ℤ, pos, ◌-ℤ◌, true, false, Option, Some, None, int_lt, refl, sym, ap, subst}
use Rattle.std.specs.Prelude.{count_by, is_some}
use Rattle.ptp_units.specs.Moment.{Stamp, stamp_of, fraction_of}
use Rattle.ptp_units.specs.Interval.{too_big, with_residence, less_fraction}
use Rattle.ptp_units.specs.Exchange.{sync_bracket, delay_bracket}
use Rattle.event_codec.specs.declared.message.Body.{Body}
use Rattle.event_codec.specs.declared.message.Body.TheVariants as bodies
use Rattle.event_codec.specs.Packet.{Contents}
use Rattle.pairing.specs.Marked.{Entry, first_value}
use Rattle.slave_port.specs.declared.heard.Report.{Report}
use Rattle.slave_port.specs.History.{Call}
use Rattle.slave_port.specs.Usable.{is_two_step}
use Rattle.slave_port.specs.Values.{SyncValue, FollowValue, RequestValue}
use Rattle.slave_port.specs.Requests.{requests}
use Rattle.slave_port.specs.Completion.{SyncCompletion, DelayCompletion, pair, alone, bracket_of_sync, bracket_of_delay}
use Rattle.slave_port.specs.Kept.{criteria, sync_completion, delay_completion, held_syncs, held_follows}
use Rattle.slave_port.specs.Answer.{answer, used}
use Rattle.slave_port.proofs.Uses.{HeardSync, HeardFollowUp, two_step_value, one_step_value, follow_value, IsSyncCompletion, BySync, Alone, ByFollowUp, sync_completion_of, delay_completion_of}
use Rattle.network_model.specs.declared.event.Event.{Event}
use Rattle.network_model.specs.declared.event.Event.TheVariants.{Follow, Arrive, Hear}
use Rattle.network_model.specs.Network.{Network, NodeName, PortSetup}
use Rattle.network_model.specs.Run.{Run, Place, place_at, tag_of, IsIn, until, site_of, true_moment}
use Rattle.network_model.specs.Kinds.{is_at, is_request, draws_sync}
use Rattle.network_model.specs.Clock.{reading}
use Rattle.network_model.specs.Numbering.{waiting_sync}
use Rattle.network_model.specs.Journey.{Journey, journey_of, residence}
use Rattle.network_model.specs.Truth.{slave_at}
use Rattle.network_model.specs.SlaveHistory.{slave_setup, table_capacity, call_made, history_of}
use Rattle.network_model.specs.Outcome.{IsRun}
use Rattle.network_model.specs.Premises.{IsAcceptedRun}
use Rattle.network_model.specs.Exact.{Arrives, HearsOf, LearnsDeparture}
use Rattle.network_model.specs.Headline.{EachReportIsTwice}
use Rattle.network_model.proofs.Places.{accepted-place_at, IsRun-place_at, IsIn-place_at, IsIn-within}
use Rattle.network_model.proofs.Exactness.{sync_bracket-exact, one_step_bracket-exact, delay_bracket-exact, small_request}
use Rattle.network_model.proofs.Readings.{shown_reading, sync_timed, request_timed}
use Rattle.network_model.proofs.Sites.{at_kind}
use Rattle.network_model.proofs.Journeys.{IsIn-origin}
use Rattle.network_model.proofs.Copies.{IsTwoStep, IsFollowUp}
use Rattle.network_model.proofs.Entries.{arrived, heard_by, two_step_copy, one_step_copy, follow_up_copy}
use Rattle.network_model.proofs.Pairing.{found_in, two_step_draws, one_step_draws}
use Rattle.network_model.proofs.HeldMessages.{IsHeldSync, IsHeldFollow, held_syncs_are, held_follows_are}
use Rattle.network_model.proofs.OneSync.{tagged}
use Rattle.network_model.proofs.OneRequest.{answer_to_slave}
use Rattle.network_model.proofs.Requests.{requests_are, request_found}
use Rattle.network_model.proofs.Reports.{made_of}

-- an arrival and a hearing are told by their tags
pub one_arrival : (run : Run) (tag : ℕ) (node : NodeName) (p q : Place) (j k : Journey) → Arrives run tag node p j → Arrives run tag node q k → (p ≡ q) × (j ≡ k)
one_arrival run tag node p q j k first second =
    let places : Some p ≡ Some q = sym first.there ∙ second.there in
    let one : p ≡ q = cc in
    let events : Arrive node first.copy first.moment ≡ Arrive node second.copy second.moment = sym first.event ∙ ap (λ (o : Place). o.event) one ∙ second.event in
    let copies : first.copy ≡ second.copy = cc in
    let journeys : Some j ≡ Some k = sym first.journey_is ∙ ap (λ (o : Place). journey_of o.earlier first.copy) one ∙ ap (journey_of q.earlier) copies ∙ second.journey_is in
    (one, cc)

pub one_hearing : (run : Run) (tag : ℕ) (node : NodeName) (p q : Place) → HearsOf run tag node p → HearsOf run tag node q → p ≡ q
one_hearing run tag node p q first second =
    let places : Some first.hearing ≡ Some second.hearing = sym first.there ∙ second.there in
    let one : first.hearing ≡ second.hearing = cc in
    let events : Hear node first.copy ≡ Hear node second.copy = sym first.event ∙ ap (λ (o : Place). o.event) one ∙ second.event in
    let copies : first.copy ≡ second.copy = cc in
    let made : Some p ≡ Some q = sym first.made_by ∙ ap (λ (o : Place). place_at o.earlier first.copy) one ∙ ap (place_at second.hearing.earlier) copies ∙ second.made_by in
    cc

-- the Follow_Up of this tag is that of a Sync that left at this reading
pub record IsTimedBy (run : Run) (slave : NodeName) (tag : ℕ) (t1 : ℕ) : Type 0 where
  pub made : Place
  pub node : NodeName
  pub origin : Place
  pub hears : HearsOf run tag slave made
  pub event : made.event ≡ Follow node
  pub waiting : waiting_sync node made.earlier ≡ Some origin
  pub is : t1 ≡ reading origin

-- when a completion takes its Sync to have left
abbrev TakesDeparture : Run → NodeName → Option ℕ → Place → ℕ → Type 0
TakesDeparture run slave None origin t1 = t1 ≡ reading origin
TakesDeparture run slave (Some tag) origin t1 = IsTimedBy run slave tag t1

-- a completion's bracket, over the readings and the residence
pub record IsTimedSync (run : Run) (slave : NodeName) (c : SyncCompletion) : Type 0 where
  pub arrival : Place
  pub journey : Journey
  pub t1 : ℕ
  pub there : IsIn run arrival
  pub timed : is_some (true_moment arrival.event) ≡ true
  pub arrives : Arrives run c.sync_tag slave arrival journey
  pub departs : TakesDeparture run slave c.follow_tag journey.origin t1
  pub is : bracket_of_sync c ≡ (pos (reading arrival) -ℤ pos t1) -ℤ pos (residence journey)

-- what a Follow_Up brings
follow_parts : {precise other : Stamp} → ◌≡◌ {A = Body} (bodies.FollowUp precise) (bodies.FollowUp other) → precise ≡ other
follow_parts same = cc

pub sync_parts : {origin other : Stamp} → ◌≡◌ {A = Body} (bodies.Sync origin) (bodies.Sync other) → origin ≡ other
sync_parts same = cc

-- a bracket of these parts
pub of_parts : (t2 t2' : ℕ) (stamp stamp' : Stamp) (c c' d d' : ℤ) → t2 ≡ t2' → stamp ≡ stamp' → c ≡ c' → d ≡ d' → sync_bracket t2 stamp c d ≡ sync_bracket t2' stamp' c' d'
of_parts t2 t2' stamp stamp' c c' d d' e f g h = cc

pub two_step_bracket : (network : Network) (run other : Run) (copy copy' : ℕ) (m m' : Contents) (t2 t2' : ℕ) (precise : Stamp) → (drawn : IsTwoStep network run copy m)
    → (made : IsFollowUp network other copy' m') → m'.body ≡ bodies.FollowUp precise → int_lt m.header.correction.0 too_big ≡ true → t2 ≡ t2'
    → sync_bracket t2 precise m'.header.correction.0 m.header.correction.0 ≡ (pos t2' -ℤ pos (reading made.origin)) -ℤ pos (residence drawn.journey)
two_step_bracket network run other copy copy' m m' t2 t2' precise drawn made body small same =
    let correction : m.header.correction.0 ≡ with_residence (pos 0) (residence drawn.journey) = ap (λ (m : Contents). m.header.correction.0) drawn.is in
    of_parts t2 t2' precise (stamp_of (reading made.origin)) m'.header.correction.0 (pos (fraction_of (reading made.origin)))
    m.header.correction.0 (with_residence (pos 0) (residence drawn.journey))
    same (follow_parts (sym body ∙ ap (λ (m : Contents). m.body) made.is)) (ap (λ (m : Contents). m.header.correction.0) made.is) correction
    ∙ sync_bracket-exact t2' (reading made.origin) (residence drawn.journey) (subst (λ (c : ℤ). int_lt c too_big ≡ true) correction small)

module _ (network : Network) (port : PortSetup) (slave : NodeName) (slave_is : slave_at network slave ≡ Some port)
    (run : Run) (accepted : IsRun network run) (p : Place) (there : IsIn run p) (site : site_of p.event ≡ slave) (call : Call)
    (made : call_made network port p.event p.earlier ≡ Some call)
    (answered : answer (slave_setup port) (history_of network port slave p.earlier) call ≡ used (slave_setup port) (history_of network port slave p.earlier) call) where
  timed_by_sync : (h : HeardSync (criteria (slave_setup port) (history_of network port slave p.earlier)) call) (follow : FollowValue) → is_two_step h.m.header ≡ true
      → first_value h.m.header.sequence.0 (held_follows (slave_setup port) (history_of network port slave p.earlier)) ≡ Some follow
      → IsTimedSync run slave (pair h.m.header.sequence.0 (two_step_value h) follow)
  timed_by_sync h follow flag found =
      let before = IsRun-place_at network run (tag_of p) p accepted there in
      let at = arrived network port slave p call slave_is before (accepted-place_at network run (tag_of p) p accepted there) site made answered h.m h.t2 h.tag h.call_is h.passes in
      let drawn = two_step_copy network p.earlier at.copy h.m h.origin at.used.m_is h.body flag in
      let e = found_in (IsHeldFollow network port slave p.earlier) (held_follows (slave_setup port) (history_of network port slave p.earlier)) h.m.header.sequence.0 follow
      (held_follows_are network port slave slave_is p.earlier before) found in
      let held = e.1 in
      let value : follow ≡ record { precise = held.precise; correction = held.m.header.correction.0; tag = tag_of held.p } =
      sym e.3 ∙ ap (λ (e : Entry FollowValue). e.value) held.is in
      record {
        arrival = p;
        journey = drawn.journey;
        t1 = reading held.made.origin;
        there = there;
        timed = ap (λ (e : Event). is_some (true_moment e)) at.event;
        arrives = record { copy = at.copy; moment = at.moment; there = tagged run p h.tag there at.tag_is; event = at.event; journey_is = drawn.made };
        departs = record {
          made = held.made.made;
          node = held.made.node;
          origin = held.made.origin;
          hears = record {
            hearing = held.p;
            copy = held.copy;
            there = tagged run held.p follow.tag (IsIn-within run p held.p there held.there) (ap (λ (f : FollowValue). f.tag) value);
            event = held.event;
            made_by = held.made.there;
          };
          event = held.made.event;
          waiting = held.made.waiting;
          is = refl;
        };
        is = ap (λ (f : FollowValue). sync_bracket h.t2 f.precise f.correction h.m.header.correction.0) value
            ∙ two_step_bracket network p.earlier held.p.earlier at.copy held.copy h.m held.m h.t2 (reading p) held.precise drawn held.made held.body at.used.small at.t2_is;
      }

  timed_by_follow_up : (h : HeardFollowUp (criteria (slave_setup port) (history_of network port slave p.earlier)) call) (sync : SyncValue)
      → first_value h.m.header.sequence.0 (held_syncs (slave_setup port) (history_of network port slave p.earlier)) ≡ Some sync
      → IsTimedSync run slave (pair h.m.header.sequence.0 sync (follow_value h))
  timed_by_follow_up h sync found =
      let before = IsRun-place_at network run (tag_of p) p accepted there in
      let at = heard_by network port slave p call slave_is before (accepted-place_at network run (tag_of p) p accepted there) site made answered h.m h.tag h.call_is h.passes in
      let follow = follow_up_copy network p.earlier at.copy h.m h.precise at.used.m_is h.body in
      let e = found_in (IsHeldSync network port slave p.earlier) (held_syncs (slave_setup port) (history_of network port slave p.earlier)) h.m.header.sequence.0 sync
      (held_syncs_are network port slave slave_is p.earlier before) found in
      let held = e.1 in
      let value : sync ≡ record { t2 = reading held.p; correction = held.m.header.correction.0; tag = tag_of held.p } =
      sym e.3 ∙ ap (λ (e : Entry SyncValue). e.value) held.is in
      record {
        arrival = held.p;
        journey = held.drawn.journey;
        t1 = reading follow.origin;
        there = IsIn-within run p held.p there held.there;
        timed = ap (λ (e : Event). is_some (true_moment e)) held.event;
        arrives = record {
          copy = held.copy;
          moment = held.moment;
          there = tagged run held.p sync.tag (IsIn-within run p held.p there held.there) (ap (λ (s : SyncValue). s.tag) value);
          event = held.event;
          journey_is = held.drawn.made;
        };
        departs = record {
          made = follow.made;
          node = follow.node;
          origin = follow.origin;
          hears = record { hearing = p; copy = at.copy; there = tagged run p h.tag there at.tag_is; event = at.event; made_by = follow.there };
          event = follow.event;
          waiting = follow.waiting;
          is = refl;
        };
        is = ap (λ (s : SyncValue). sync_bracket s.t2 h.precise h.m.header.correction.0 s.correction) value
            ∙ two_step_bracket network held.p.earlier p.earlier held.copy at.copy held.m h.m (reading held.p) (reading held.p) h.precise held.drawn follow h.body held.used.small refl;
      }

  timed_by_itself : (h : HeardSync (criteria (slave_setup port) (history_of network port slave p.earlier)) call) → is_two_step h.m.header ≡ false
      → IsTimedSync run slave (alone h.m.header.sequence.0 (one_step_value h))
  timed_by_itself h flag =
      let before = IsRun-place_at network run (tag_of p) p accepted there in
      let at = arrived network port slave p call slave_is before (accepted-place_at network run (tag_of p) p accepted there) site made answered h.m h.t2 h.tag h.call_is h.passes in
      let drawn = one_step_copy network p.earlier at.copy h.m h.origin at.used.m_is h.body flag in
      let t1 : ℕ = reading drawn.journey.origin in
      let correction : h.m.header.correction.0 ≡ with_residence (pos (fraction_of t1)) (residence drawn.journey) = ap (λ (m : Contents). m.header.correction.0) drawn.is in
      record {
        arrival = p;
        journey = drawn.journey;
        t1 = t1;
        there = there;
        timed = ap (λ (e : Event). is_some (true_moment e)) at.event;
        arrives = record { copy = at.copy; moment = at.moment; there = tagged run p h.tag there at.tag_is; event = at.event; journey_is = drawn.made };
        departs = refl;
        is = of_parts h.t2 (reading p) h.origin (stamp_of t1) (pos 0) (pos 0) h.m.header.correction.0 (with_residence (pos (fraction_of t1)) (residence drawn.journey))
            at.t2_is (sync_parts (sym h.body ∙ ap (λ (m : Contents). m.body) drawn.is)) refl correction
            ∙ one_step_bracket-exact (reading p) t1 (residence drawn.journey) (subst (λ (c : ℤ). int_lt c too_big ≡ true) correction at.used.small);
      }

-- each completion of a Sync
timed_sync : (network : Network) (port : PortSetup) (slave : NodeName) → slave_at network slave ≡ Some port → (run : Run) → IsRun network run
    → (p : Place) → IsIn run p → site_of p.event ≡ slave → (call : Call) → call_made network port p.event p.earlier ≡ Some call
    → (c : SyncCompletion) → sync_completion (slave_setup port) (history_of network port slave p.earlier) call ≡ Some c → IsTimedSync run slave c
timed_sync network port slave slave_is run accepted p there site call made c brought =
    let completes = sync_completion_of (slave_setup port) (history_of network port slave p.earlier) call c brought in by completes.0 completes.1
  where
    by : IsSyncCompletion (slave_setup port) (history_of network port slave p.earlier) call c
        → answer (slave_setup port) (history_of network port slave p.earlier) call ≡ used (slave_setup port) (history_of network port slave p.earlier) call
        → IsTimedSync run slave c
    by (BySync h follow flag found is) answered =
        subst (λ (c : SyncCompletion). IsTimedSync run slave c) (sym is) (timed_by_sync network port slave slave_is run accepted p there site call made answered h follow flag found)
    by (Alone h flag is) answered =
        subst (λ (c : SyncCompletion). IsTimedSync run slave c) (sym is) (timed_by_itself network port slave slave_is run accepted p there site call made answered h flag)
    by (ByFollowUp h sync found is) answered =
        subst (λ (c : SyncCompletion). IsTimedSync run slave c) (sym is) (timed_by_follow_up network port slave slave_is run accepted p there site call made answered h sync found)

-- a completion of a request: its bracket over the readings and the residence
pub record IsTimedRequest (run : Run) (slave : NodeName) (c : DelayCompletion) : Type 0 where
  pub arrival : Place
  pub journey : Journey
  pub left : Place
  pub node : NodeName
  pub asked : ℕ
  pub moment : ℕ
  pub there : IsIn run arrival
  pub event : arrival.event ≡ Arrive node asked moment
  pub journey_is : journey_of arrival.earlier asked ≡ Some journey
  pub requested : place_at run c.request_tag ≡ Some left
  pub hears : HearsOf run c.response_tag slave arrival
  pub is : bracket_of_delay c ≡ (pos (reading arrival) -ℤ pos (reading left)) -ℤ pos (residence journey)

timed_request : (network : Network) (port : PortSetup) (slave : NodeName) → slave_at network slave ≡ Some port → (run : Run) → IsAcceptedRun network run
    → (p : Place) → IsIn run p → site_of p.event ≡ slave → (call : Call) → call_made network port p.event p.earlier ≡ Some call
    → (c : DelayCompletion) → delay_completion (slave_setup port) (history_of network port slave p.earlier) call ≡ Some c → IsTimedRequest run slave c
timed_request network port slave slave_is run premise p there site call made c brought =
    let before : IsRun network p.earlier = IsRun-place_at network run (tag_of p) p premise.accepted there in
    let done = delay_completion_of (slave_setup port) (history_of network port slave p.earlier) call c brought in
    let at = heard_by network port slave p call slave_is before (accepted-place_at network run (tag_of p) p premise.accepted there) site made done.used
    done.h.m done.h.tag done.h.call_is done.h.passes in
    let answer = answer_to_slave network port slave p.earlier at.copy done.h.m done.h.receive done.h.requesting premise.apart slave_is at.used.m_is done.h.body done.h.own in
    let found = request_found port slave p.earlier done.h.m.header.sequence.0 done.request table_capacity (count_by (is_at is_request slave) p.earlier)
    (requests (slave_setup port) (history_of network port slave p.earlier)) (requests_are network port slave p.earlier before) done.found in
    let held = found.2 in
    let made_in : IsIn p.earlier answer.made = IsIn-place_at p.earlier at.copy answer.made answer.there in
    let request_tag : c.request_tag ≡ tag_of held.u = ap (λ (c : DelayCompletion). c.request_tag) done.is ∙ ap (λ (r : RequestValue). r.tag) (sym found.5) ∙ held.tag in
    let response_tag : c.response_tag ≡ tag_of p = ap (λ (c : DelayCompletion). c.response_tag) done.is ∙ at.tag_is in
    let t3 : done.t3 ≡ reading held.u = held.left done.t3 (ap (λ (r : RequestValue). r.t3) found.5 ∙ done.left) in
    let correction : done.h.m.header.correction.0 ≡ less_fraction (with_residence (pos 0) (residence answer.journey)) (fraction_of (reading answer.made)) = answer.correction_is in
    record {
      arrival = answer.made;
      journey = answer.journey;
      left = held.u;
      node = answer.node;
      asked = answer.asked;
      moment = answer.moment;
      there = IsIn-within run p answer.made there made_in;
      event = answer.event;
      journey_is = answer.journey_is;
      requested = subst (λ (t : ℕ). place_at run t ≡ Some held.u) (sym request_tag) (IsIn-within run p held.u there held.there);
      hears = record {
        hearing = p;
        copy = at.copy;
        there = subst (λ (t : ℕ). place_at run t ≡ Some p) (sym response_tag) there;
        event = at.event;
        made_by = answer.there;
      };
      is = ap bracket_of_delay done.is
          ∙ ap (λ (s : Stamp). delay_bracket s done.h.m.header.correction.0 done.t3) answer.receive_is
          ∙ ap (λ (d : ℤ). delay_bracket (stamp_of (reading answer.made)) d done.t3) correction
          ∙ ap (λ (t : ℕ). delay_bracket (stamp_of (reading answer.made)) (less_fraction (with_residence (pos 0) (residence answer.journey)) (fraction_of (reading answer.made))) t) t3
          ∙ delay_bracket-exact (reading answer.made) (reading held.u) (residence answer.journey)
          (small_request (with_residence (pos 0) (residence answer.journey)) (fraction_of (reading answer.made))
          (subst (λ (d : ℤ). int_lt d too_big ≡ true) correction at.used.small));
    }

-- the reading at which the Sync of a report left
departure_is : (run : Run) (slave master : NodeName) (tag : Option ℕ) (origin : Place) (t1 : ℕ) → LearnsDeparture run slave master tag origin → TakesDeparture run slave tag origin t1
    → (is_at draws_sync master origin.event ≡ true) × (t1 ≡ reading origin)
departure_is run slave master None origin t1 learns takes = (one_step_draws master origin.event learns, takes)
departure_is run slave master (Some tag) origin t1 learns takes =
    let made : takes.made ≡ learns.follow = one_hearing run tag slave takes.made learns.follow takes.hears learns.hears in
    let nodes : Follow takes.node ≡ Follow master = sym takes.event ∙ ap (λ (o : Place). o.event) made ∙ learns.follows in
    let node : takes.node ≡ master = cc in
    let origins : Some takes.origin ≡ Some origin =
    sym takes.waiting ∙ ap (λ (o : Place). waiting_sync takes.node o.earlier) made ∙ ap (λ (n : NodeName). waiting_sync n learns.follow.earlier) node ∙ learns.followed in
    let one : takes.origin ≡ origin = cc in
    (two_step_draws master origin.event learns.drawn, takes.is ∙ ap reading one)

-- both halves are brackets
pub each_twice : EachReportIsTwice IsAcceptedRun
each_twice network answered report premise reports sync request =
    let run : Run = until answered in
    let slave : NodeName = site_of answered.event in
    let made = made_of network answered report premise.accepted reports in
    let a = timed_sync network made.port slave made.slave_is run premise.accepted made.sync_is.p made.sync_is.there made.sync_is.site made.sync_is.call made.sync_is.made made.sync made.sync_is.brought in
    let b = timed_request network made.port slave made.slave_is run premise made.delay_is.p made.delay_is.there made.delay_is.site made.delay_is.call made.delay_is.made made.delay made.delay_is.brought in
    let arrives : Arrives run made.sync.sync_tag slave sync.arrival sync.journey =
    subst (λ (r : Report). Arrives run r.sync_tag slave sync.arrival sync.journey) made.is sync.sync.arrives in
    let learns : LearnsDeparture run slave sync.master made.sync.follow_tag sync.journey.origin =
    subst (λ (r : Report). LearnsDeparture run slave sync.master r.follow_tag sync.journey.origin) made.is sync.sync.departure in
    let one = one_arrival run made.sync.sync_tag slave a.arrival sync.arrival a.journey sync.journey a.arrives arrives in
    let departs : TakesDeparture run slave made.sync.follow_tag sync.journey.origin a.t1 =
    subst (λ (j : Journey). TakesDeparture run slave made.sync.follow_tag j.origin a.t1) one.1 a.departs in
    let departure = departure_is run slave sync.master made.sync.follow_tag sync.journey.origin a.t1 learns departs in
    let sync_origin_in : IsIn run sync.journey.origin =
    IsIn-within run sync.arrival sync.journey.origin (IsIn-place_at run made.sync.sync_tag sync.arrival arrives.there)
    (IsIn-origin sync.arrival.earlier arrives.copy sync.journey arrives.journey_is) in
    let requested : place_at run made.delay.request_tag ≡ Some request.journey.origin =
    subst (λ (r : Report). place_at run r.request_tag ≡ Some request.journey.origin) made.is request.request.requested in
    let hears : HearsOf run made.delay.response_tag slave request.arrival = subst (λ (r : Report). HearsOf run r.response_tag slave request.arrival) made.is request.request.hears in
    let answer : b.arrival ≡ request.arrival = one_hearing run made.delay.response_tag slave b.arrival request.arrival b.hears hears in
    let left : Some b.left ≡ Some request.journey.origin = sym b.requested ∙ requested in
    let left_is : b.left ≡ request.journey.origin = cc in
    let journeys = request_journey run b.arrival request.arrival b.node request.master b.asked b.moment b.journey request.journey answer b.event b.journey_is request.request.arrives in
    record {
      a = bracket_of_sync made.sync;
      b = bracket_of_delay made.delay;
      of_sync = record {
        arrived = pos (reading sync.arrival);
        left = pos (reading sync.journey.origin);
        arrival_shown = shown_reading network run sync.arrival premise.accepted (IsIn-place_at run made.sync.sync_tag sync.arrival arrives.there)
            (subst (λ (o : Place). is_some (true_moment o.event) ≡ true) one.0 a.timed);
        departure_shown = shown_reading network run sync.journey.origin premise.accepted sync_origin_in
            (sync_timed sync.journey.origin.event (at_kind draws_sync sync.master sync.journey.origin.event departure.0));
        value = a.is ∙ ap (λ (o : Place). (pos (reading o) -ℤ pos a.t1) -ℤ pos (residence a.journey)) one.0
            ∙ ap (λ (j : Journey). (pos (reading sync.arrival) -ℤ pos a.t1) -ℤ pos (residence j)) one.1
            ∙ ap (λ (t : ℕ). (pos (reading sync.arrival) -ℤ pos t) -ℤ pos (residence sync.journey)) departure.1;
      };
      of_request = record {
        arrived = pos (reading request.arrival);
        left = pos (reading request.journey.origin);
        arrival_shown = shown_reading network run request.arrival premise.accepted (subst (IsIn run) answer b.there)
            (ap (λ (e : Event). is_some (true_moment e)) request.request.arrives.event);
        departure_shown = shown_reading network run request.journey.origin premise.accepted (IsIn-place_at run made.delay.request_tag request.journey.origin requested)
            (request_timed request.journey.origin.event (at_kind is_request slave request.journey.origin.event request.request.drawn));
        value = b.is ∙ ap (λ (o : Place). (pos (reading o) -ℤ pos (reading b.left)) -ℤ pos (residence b.journey)) answer
            ∙ ap (λ (o : Place). (pos (reading request.arrival) -ℤ pos (reading o)) -ℤ pos (residence b.journey)) left_is
            ∙ ap (λ (j : Journey). (pos (reading request.arrival) -ℤ pos (reading request.journey.origin)) -ℤ pos (residence j)) journeys;
      };
      offset = ap (λ (r : Report). r.offset2) made.is;
      path = ap (λ (r : Report). r.path2) made.is;
    }
  where
    request_journey : (run : Run) (p q : Place) (node master : NodeName) (asked moment : ℕ) (j k : Journey) → p ≡ q → p.event ≡ Arrive node asked moment
        → journey_of p.earlier asked ≡ Some j → Arrives run (tag_of q) master q k → j ≡ k
    request_journey run p q node master asked moment j k one event journey_is arrives =
        let events : Arrive node asked moment ≡ Arrive master arrives.copy arrives.moment = sym event ∙ ap (λ (o : Place). o.event) one ∙ arrives.event in
        let copies : asked ≡ arrives.copy = cc in
        let journeys : Some j ≡ Some k = sym journey_is ∙ ap (λ (o : Place). journey_of o.earlier asked) one ∙ ap (journey_of q.earlier) copies ∙ arrives.journey_is in
        cc
