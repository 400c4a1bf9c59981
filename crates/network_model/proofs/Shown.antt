-- What a run shows of each half of a report: its messages were used, they are of the slave's domain, no correction is too big,
-- and the slave learnt when its request left. By these each report has its evidence.
use Rattle.std.proofs.Common.{◌≡◌, ◌∙◌, ℕ, true, false, Some, IsOk, sym, ap, subst, inl, inr, option_and_then}
use Rattle.std.specs.Prelude.{◌⊎◌, int_lt, IfSome}
use Rattle.ptp_units.specs.Interval.{too_big}
use Rattle.ptp_units.specs.Moment.{fraction_of}
use Rattle.event_codec.specs.declared.port.PortIdentity.{PortIdentity}
use Rattle.event_codec.specs.Packet.{Contents}
use Rattle.pairing.specs.Marked.{Entry, first_value}
use Rattle.slave_port.specs.History.{Call}
use Rattle.slave_port.specs.Values.{SyncValue, FollowValue}
use Rattle.slave_port.specs.Usable.{is_two_step}
use Rattle.slave_port.specs.Completion.{SyncCompletion, DelayCompletion, pair, alone}
use Rattle.slave_port.specs.Kept.{criteria, held_syncs, held_follows, sync_completion, delay_completion}
use Rattle.slave_port.specs.Requests.{requests}
use Rattle.slave_port.specs.Answer.{answer, used}
use Rattle.slave_port.proofs.Uses.{HeardSync, HeardFollowUp, two_step_value, one_step_value, follow_value, IsSyncCompletion, BySync, Alone, ByFollowUp, sync_completion_of, delay_completion_of}
use Rattle.network_model.specs.declared.event.Event.TheVariants.{Follow, Arrive}
use Rattle.network_model.specs.Network.{Network, NodeName, PortSetup}
use Rattle.network_model.specs.Run.{Run, Place, place_at, tag_of, IsIn, site_of}
use Rattle.network_model.specs.Kinds.{is_at, is_sync, is_one_step_sync, is_request, is_set_master, named_master}
use Rattle.network_model.specs.Clock.{reading}
use Rattle.network_model.specs.Journey.{Journey, journey_of}
use Rattle.network_model.specs.Truth.{master_at, slave_at, copy_of}
use Rattle.network_model.specs.SlaveHistory.{slave_setup, table_capacity, call_made, history_of}
use Rattle.network_model.specs.Outcome.{outcome_of, IsRun}
use Rattle.network_model.specs.Present.{present_master}
use Rattle.network_model.specs.Premises.{IsAcceptedRun, is_used}
use Rattle.network_model.specs.Exact.{HearsOf}
use Rattle.network_model.specs.Evidence.{is_complete, is_completing, HasOutcome, SyncWasUsed, ShareDomain, IsOfKind}
use Rattle.network_model.proofs.Places.{accepted-place_at, IsRun-place_at, IsIn-within}
use Rattle.network_model.proofs.Sites.{at_site}
use Rattle.network_model.proofs.Exactness.{small_request}
use Rattle.network_model.proofs.Told.{IsTold}
use Rattle.network_model.proofs.Entries.{UsedAt, arrived, heard_by, two_step_copy, one_step_copy, follow_up_copy}
use Rattle.network_model.proofs.Pairing.{found_in, from_master}
use Rattle.network_model.proofs.HeldMessages.{IsHeldSync, IsHeldFollow, held_syncs_are, held_follows_are, same_told}
use Rattle.network_model.proofs.OneSync.{tagged}
use Rattle.network_model.proofs.OneRequest.{answer_to_slave}
use Rattle.network_model.proofs.Completing.{hears, heard_outcome, sync_completes, delay_completes, sync_hears, delay_hears}
use Rattle.network_model.proofs.Departures.{IsLearnt, are_stamped, stamped_found}

-- of which master a copy of a Sync is
pub record IsOfMaster (network : Network) (run : Run) (copy : ℕ) (m : Contents) : Type 0 where
  pub journey : Journey
  pub node : NodeName
  pub master : PortSetup
  pub made : journey_of run copy ≡ Some journey
  pub master_is : master_at network node ≡ Some master
  pub domain : m.header.domain ≡ master.config.domain
  pub site : site_of journey.origin.event ≡ node

-- what a run shows of the Sync's half of a report
pub record IsSyncShown (network : Network) (port : PortSetup) (slave : NodeName) (run : Run) (p : Place) (c : SyncCompletion) : Type 0 where
  pub arrival : Place
  pub copy : ℕ
  pub moment : ℕ
  pub m : Contents
  pub there : place_at run c.sync_tag ≡ Some arrival
  pub event : arrival.event ≡ Arrive slave copy moment
  pub used : UsedAt network port slave arrival copy m
  pub of_master : IsOfMaster network arrival.earlier copy m
  pub kind : IsOfKind run slave of_master.node c.follow_tag of_master.journey.origin
  pub sync_used : SyncWasUsed network run c.follow_tag c.sync_tag
  pub follow_used : IfSome c.follow_tag (HasOutcome network run is_used)
  pub completed_now : (c.sync_tag ≡ tag_of p) ⊎ (c.follow_tag ≡ Some (tag_of p))
  pub unset : is_set_master p.event ≡ false
  pub under : present_master slave p.earlier ≡ Some of_master.node

-- what a run shows of the Delay_Req's half of a report
pub record IsRequestShown (network : Network) (slave : NodeName) (run : Run) (p : Place) (c : DelayCompletion) : Type 0 where
  pub completing : HasOutcome network run is_completing c.response_tag
  pub completed_now : c.response_tag ≡ tag_of p
  pub unset : is_set_master p.event ≡ false
  pub there : IsIn run p
  pub learnt : IsLearnt network slave p.earlier c.request_tag
  pub made : Place
  pub hears : HearsOf run c.response_tag slave made
  pub node : NodeName
  pub asked : ℕ
  pub moment : ℕ
  pub event : made.event ≡ Arrive node asked moment
  pub request : Contents
  pub request_is : copy_of network made.earlier asked ≡ Some request
  pub small : int_lt request.header.correction.0 too_big ≡ true
  pub journey : Journey
  pub journey_is : journey_of made.earlier asked ≡ Some journey
  pub drawn : is_at is_request slave journey.origin.event ≡ true
  pub domain : ShareDomain network slave node
  pub under : present_master slave p.earlier ≡ Some node

-- the master that a slave is told is its present one
told_present : (network : Network) (slave : NodeName) (run : Run) (source : PortIdentity) (told : IsTold network slave run source) (node : NodeName) → node ≡ told.master
    → present_master slave run ≡ Some node
told_present network slave run source told node is =
    ap (option_and_then (λ (set : Place). named_master set.event)) told.last ∙ told.named ∙ ap (λ (n : NodeName). Some n) (sym is)

module _ (network : Network) (port : PortSetup) (slave : NodeName) (slave_is : slave_at network slave ≡ Some port)
    (run : Run) (premise : IsAcceptedRun network run) (p : Place) (there : IsIn run p) (site : site_of p.event ≡ slave) (call : Call)
    (made : call_made network port p.event p.earlier ≡ Some call)
    (answered : answer (slave_setup port) (history_of network port slave p.earlier) call ≡ used (slave_setup port) (history_of network port slave p.earlier) call) where
  before : IsRun network p.earlier
  before = IsRun-place_at network run (tag_of p) p premise.accepted there

  accepted : IsOk (outcome_of network p.earlier p.event)
  accepted = accepted-place_at network run (tag_of p) p premise.accepted there

  -- an event at which something completes
  completes : hears call ≡ true → is_complete (used (slave_setup port) (history_of network port slave p.earlier) call) ≡ true
      → is_completing (outcome_of network p.earlier p.event) ≡ true
  completes heard complete =
      ap is_completing (heard_outcome network port slave p call slave_is accepted site made heard)
      ∙ ap is_complete answered ∙ complete

  -- a Sync that finds its Follow_Up held
  by_sync : (h : HeardSync (criteria (slave_setup port) (history_of network port slave p.earlier)) call) (follow : FollowValue) → is_two_step h.m.header ≡ true
      → first_value h.m.header.sequence.0 (held_follows (slave_setup port) (history_of network port slave p.earlier)) ≡ Some follow
      → IsSyncShown network port slave run p (pair h.m.header.sequence.0 (two_step_value h) follow)
  by_sync h follow flag found =
      let at = arrived network port slave p call slave_is before accepted site made answered h.m h.t2 h.tag h.call_is h.passes in
      let drawn = two_step_copy network p.earlier at.copy h.m h.origin at.used.m_is h.body flag in
      let e = found_in (IsHeldFollow network port slave p.earlier) (held_follows (slave_setup port) (history_of network port slave p.earlier)) h.m.header.sequence.0 follow
      (held_follows_are network port slave slave_is p.earlier before) found in
      let held = e.1 in
      let value = sym e.3 ∙ ap (λ (e : Entry FollowValue). e.value) held.is in
      let follow_in = tagged run held.p follow.tag (IsIn-within run p held.p there held.there) (ap (λ (f : FollowValue). f.tag) value) in
      let of_now = from_master network slave p.earlier h.m.header.source drawn.node drawn.port premise.apart at.used.told drawn.port_is (ap (λ (m : Contents). m.header.source) drawn.is) in
      let of_held = from_master network slave held.p.earlier held.m.header.source held.made.node held.made.port premise.apart held.used.told held.made.port_is
      (ap (λ (m : Contents). m.header.source) held.made.is) in
      let same = same_told network slave p.earlier held.p h.m.header.source held.m.header.source held.there (ap is_set_master held.event) held.window.masters at.used.told held.used.told in
      record {
        arrival = p;
        copy = at.copy;
        moment = at.moment;
        m = h.m;
        there = tagged run p h.tag there at.tag_is;
        event = at.event;
        used = at.used;
        of_master = record {
          journey = drawn.journey;
          node = drawn.node;
          master = drawn.port;
          made = drawn.made;
          master_is = drawn.port_is;
          domain = ap (λ (m : Contents). m.header.domain) drawn.is;
          site = at_site is_sync drawn.node drawn.journey.origin.event drawn.drawn;
        };
        kind = (
          drawn.drawn,
          record {
            follow = held.made.made;
            hears = record { hearing = held.p; copy = held.copy; there = follow_in; event = held.event; made_by = held.made.there };
            event = held.made.event ∙ ap Follow (of_held.0 ∙ sym same.1 ∙ sym of_now.0);
          },
        );
        sync_used = record { p = p; there = tagged run p h.tag there at.tag_is; outcome = at.used.used };
        follow_used = record {
          p = held.p;
          there = follow_in;
          outcome = held.used.used;
        };
        completed_now = inl at.tag_is;
        unset = ap is_set_master at.event;
        under = told_present network slave p.earlier h.m.header.source at.used.told drawn.node of_now.0;
      }

  -- a Follow_Up that finds its Sync held
  by_follow_up : (h : HeardFollowUp (criteria (slave_setup port) (history_of network port slave p.earlier)) call) (sync : SyncValue)
      → first_value h.m.header.sequence.0 (held_syncs (slave_setup port) (history_of network port slave p.earlier)) ≡ Some sync
      → IsSyncShown network port slave run p (pair h.m.header.sequence.0 sync (follow_value h))
  by_follow_up h sync found =
      let at = heard_by network port slave p call slave_is before accepted site made answered h.m h.tag h.call_is h.passes in
      let e = found_in (IsHeldSync network port slave p.earlier) (held_syncs (slave_setup port) (history_of network port slave p.earlier)) h.m.header.sequence.0 sync
      (held_syncs_are network port slave slave_is p.earlier before) found in
      let held = e.1 in
      let value = sym e.3 ∙ ap (λ (e : Entry SyncValue). e.value) held.is in
      let arrives = tagged run held.p sync.tag (IsIn-within run p held.p there held.there) (ap (λ (s : SyncValue). s.tag) value) in
      let follow = follow_up_copy network p.earlier at.copy h.m h.precise at.used.m_is h.body in
      let of_now = from_master network slave p.earlier h.m.header.source follow.node follow.port premise.apart at.used.told follow.port_is (ap (λ (m : Contents). m.header.source) follow.is) in
      let of_held = from_master network slave held.p.earlier held.m.header.source held.drawn.node held.drawn.port premise.apart held.used.told held.drawn.port_is
      (ap (λ (m : Contents). m.header.source) held.drawn.is) in
      let same = same_told network slave p.earlier held.p h.m.header.source held.m.header.source held.there (ap is_set_master held.event) held.window.masters at.used.told held.used.told in
      record {
        arrival = held.p;
        copy = held.copy;
        moment = held.moment;
        m = held.m;
        there = arrives;
        event = held.event;
        used = held.used;
        of_master = record {
          journey = held.drawn.journey;
          node = held.drawn.node;
          master = held.drawn.port;
          made = held.drawn.made;
          master_is = held.drawn.port_is;
          domain = ap (λ (m : Contents). m.header.domain) held.drawn.is;
          site = at_site is_sync held.drawn.node held.drawn.journey.origin.event held.drawn.drawn;
        };
        kind = (
          held.drawn.drawn,
          record {
            follow = follow.made;
            hears = record { hearing = p; copy = at.copy; there = tagged run p h.tag there at.tag_is; event = at.event; made_by = follow.there };
            event = follow.event ∙ ap Follow (of_now.0 ∙ same.1 ∙ sym of_held.0);
          },
        );
        sync_used = record { p = held.p; there = arrives; outcome = held.used.used };
        follow_used = record { p = p; there = tagged run p h.tag there at.tag_is; outcome = at.used.used };
        completed_now = inr (ap (λ (tag : ℕ). Some tag) at.tag_is);
        unset = ap is_set_master at.event;
        under = told_present network slave p.earlier h.m.header.source at.used.told held.drawn.node (of_held.0 ∙ sym same.1);
      }

  -- a one-step Sync
  by_itself : (h : HeardSync (criteria (slave_setup port) (history_of network port slave p.earlier)) call) → is_two_step h.m.header ≡ false
      → is_completing (outcome_of network p.earlier p.event) ≡ true
      → IsSyncShown network port slave run p (alone h.m.header.sequence.0 (one_step_value h))
  by_itself h flag completing =
      let at = arrived network port slave p call slave_is before accepted site made answered h.m h.t2 h.tag h.call_is h.passes in
      let drawn = one_step_copy network p.earlier at.copy h.m h.origin at.used.m_is h.body flag in
      let of_now = from_master network slave p.earlier h.m.header.source drawn.node drawn.port premise.apart at.used.told drawn.port_is (ap (λ (m : Contents). m.header.source) drawn.is) in
      record {
        arrival = p;
        copy = at.copy;
        moment = at.moment;
        m = h.m;
        there = tagged run p h.tag there at.tag_is;
        event = at.event;
        used = at.used;
        of_master = record {
          journey = drawn.journey;
          node = drawn.node;
          master = drawn.port;
          made = drawn.made;
          master_is = drawn.port_is;
          domain = ap (λ (m : Contents). m.header.domain) drawn.is;
          site = at_site is_one_step_sync drawn.node drawn.journey.origin.event drawn.drawn;
        };
        kind = drawn.drawn;
        sync_used = record { p = p; there = tagged run p h.tag there at.tag_is; outcome = completing };
        follow_used = tt;
        completed_now = inl at.tag_is;
        unset = ap is_set_master at.event;
        under = told_present network slave p.earlier h.m.header.source at.used.told drawn.node of_now.0;
      }

-- each completion of a Sync
pub sync_shown : (network : Network) (port : PortSetup) (slave : NodeName) → slave_at network slave ≡ Some port → (run : Run) → IsAcceptedRun network run
    → (p : Place) → IsIn run p → site_of p.event ≡ slave → (call : Call) → call_made network port p.event p.earlier ≡ Some call
    → (c : SyncCompletion) → sync_completion (slave_setup port) (history_of network port slave p.earlier) call ≡ Some c → IsSyncShown network port slave run p c
sync_shown network port slave slave_is run premise p there site call made c brought =
    let done = sync_completion_of (slave_setup port) (history_of network port slave p.earlier) call c brought in by done.0 done.1
  where
    by : IsSyncCompletion (slave_setup port) (history_of network port slave p.earlier) call c
        → answer (slave_setup port) (history_of network port slave p.earlier) call ≡ used (slave_setup port) (history_of network port slave p.earlier) call
        → IsSyncShown network port slave run p c
    by (BySync h follow flag found is) answered =
        subst (λ (c : SyncCompletion). IsSyncShown network port slave run p c) (sym is)
        (by_sync network port slave slave_is run premise p there site call made answered h follow flag found)
    by (Alone h flag is) answered =
        subst (λ (c : SyncCompletion). IsSyncShown network port slave run p c) (sym is)
        (by_itself network port slave slave_is run premise p there site call made answered h flag
        (completes network port slave slave_is run premise p there site call made answered
        (sync_hears (slave_setup port) (history_of network port slave p.earlier) call c brought)
        (sync_completes (slave_setup port) (history_of network port slave p.earlier) call c brought)))
    by (ByFollowUp h sync found is) answered =
        subst (λ (c : SyncCompletion). IsSyncShown network port slave run p c) (sym is)
        (by_follow_up network port slave slave_is run premise p there site call made answered h sync found)

-- each completion of a request
pub request_shown : (network : Network) (port : PortSetup) (slave : NodeName) → slave_at network slave ≡ Some port → (run : Run) → IsAcceptedRun network run
    → (p : Place) → IsIn run p → site_of p.event ≡ slave → (call : Call) → call_made network port p.event p.earlier ≡ Some call
    → (c : DelayCompletion) → delay_completion (slave_setup port) (history_of network port slave p.earlier) call ≡ Some c → IsRequestShown network slave run p c
request_shown network port slave slave_is run premise p there site call made c brought =
    let before : IsRun network p.earlier = IsRun-place_at network run (tag_of p) p premise.accepted there in
    let done = delay_completion_of (slave_setup port) (history_of network port slave p.earlier) call c brought in
    let at = heard_by network port slave p call slave_is before (accepted-place_at network run (tag_of p) p premise.accepted there) site made done.used
    done.h.m done.h.tag done.h.call_is done.h.passes in
    let answer = answer_to_slave network port slave p.earlier at.copy done.h.m done.h.receive done.h.requesting premise.apart slave_is at.used.m_is done.h.body done.h.own in
    let response_tag : c.response_tag ≡ tag_of p = ap (λ (c : DelayCompletion). c.response_tag) done.is ∙ at.tag_is in
    let request_tag : done.request.tag ≡ c.request_tag = sym (ap (λ (c : DelayCompletion). c.request_tag) done.is) in
    let learnt = stamped_found network slave p.earlier done.h.m.header.sequence.0 done.request table_capacity
    (requests (slave_setup port) (history_of network port slave p.earlier)) (are_stamped network port slave slave_is p.earlier before) done.found done.t3 done.left in
    record {
      completing = record {
        p = p;
        there = tagged run p c.response_tag there response_tag;
        outcome = completes network port slave slave_is run premise p there site call made done.used
            (delay_hears (slave_setup port) (history_of network port slave p.earlier) call c brought)
            (delay_completes (slave_setup port) (history_of network port slave p.earlier) call c brought);
      };
      completed_now = response_tag;
      unset = ap is_set_master at.event;
      there = there;
      learnt = subst (IsLearnt network slave p.earlier) request_tag learnt;
      made = answer.made;
      hears = record { hearing = p; copy = at.copy; there = tagged run p c.response_tag there response_tag; event = at.event; made_by = answer.there };
      node = answer.node;
      asked = answer.asked;
      moment = answer.moment;
      event = answer.event;
      request = answer.request;
      request_is = answer.request_is;
      small = small_request answer.request.header.correction.0 (fraction_of (reading answer.made))
          (subst (λ (c : _). int_lt c too_big ≡ true) answer.lessened at.used.small);
      journey = answer.journey;
      journey_is = answer.journey_is;
      drawn = answer.drawn;
      domain = record {
        own = port;
        other = answer.answering;
        slave_port = slave_is;
        master_port = answer.answering_is;
        domain = sym at.used.domain ∙ answer.domain_is;
      };
      under = told_present network slave p.earlier done.h.m.header.source at.used.told answer.node
          (from_master network slave p.earlier done.h.m.header.source answer.node answer.answering premise.apart at.used.told answer.answering_is answer.source_is).0;
    }
