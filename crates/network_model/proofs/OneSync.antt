-- Each completion of a Sync is of one Sync event of the present master: the Sync that arrived is a copy of it, and the
-- Follow_Up is the one of it. A report takes its Sync from such a completion.
use Rattle.std.proofs.Common.{◌≡◌, ◌∙◌, ℕ, ◌<◌, ◌≤◌, true, false, Some, IsOk, sym, ap, subst, arith}
use Rattle.std.specs.Prelude.{IfSome, max}
use Rattle.std.specs.Option.{option_map_or}
use Rattle.ptp_units.specs.Sequence.{of_count}
use Rattle.event_codec.specs.declared.port.PortIdentity.{PortIdentity}
use Rattle.event_codec.specs.Packet.{Contents}
use Rattle.pairing.specs.Marked.{Entry, first_value}
use Rattle.slave_port.specs.History.{Call}
use Rattle.slave_port.specs.Usable.{is_two_step}
use Rattle.slave_port.specs.Values.{SyncValue, FollowValue}
use Rattle.slave_port.specs.Completion.{SyncCompletion, pair, alone}
use Rattle.slave_port.specs.Kept.{criteria, sync_completion, held_syncs, held_follows}
use Rattle.slave_port.specs.Answer.{answer, used}
use Rattle.slave_port.proofs.Uses.{HeardSync, HeardFollowUp, two_step_value, one_step_value, follow_value, IsSyncCompletion, BySync, Alone, ByFollowUp, sync_completion_of}
use Rattle.network_model.specs.declared.event.Event.TheVariants.{Follow, Hear}
use Rattle.network_model.specs.Network.{Network, NodeName, PortSetup}
use Rattle.network_model.specs.Run.{Run, Place, place_at, tag_of, IsIn, site_of}
use Rattle.network_model.specs.Kinds.{is_at, is_sync, is_one_step_sync, draws_sync, is_set_master}
use Rattle.network_model.specs.Numbering.{number_of, waiting_sync}
use Rattle.network_model.specs.Journey.{Journey}
use Rattle.network_model.specs.Truth.{slave_at, origin_heard}
use Rattle.network_model.specs.SlaveHistory.{slave_setup, call_made, history_of}
use Rattle.network_model.specs.Outcome.{outcome_of, IsRun}
use Rattle.network_model.specs.Premises.{is_used}
use Rattle.network_model.specs.Exact.{Arrives, HearsFollowUp, LearnsDeparture}
use Rattle.network_model.proofs.Places.{accepted-place_at, IsRun-place_at, place_at-bound, IsIn-within}
use Rattle.network_model.proofs.Copies.{IsFollowUp}
use Rattle.network_model.proofs.Told.{IsTold}
use Rattle.network_model.proofs.Masters.{last_set_master-in, waiting_sync-is}
use Rattle.network_model.proofs.Entries.{arrived, heard_by, two_step_copy, one_step_copy, follow_up_copy}
use Rattle.network_model.proofs.Pairing.{NumbersMeet, found_in, from_master}
use Rattle.network_model.proofs.HeldMessages.{IsHeldSync, IsHeldFollow, held_syncs_are, held_follows_are, of_two_step, of_one_step, of_follow, same_told, one_origin_of}

-- a completion at an event is of one Sync event of the present master
pub record IsOneSync (network : Network) (slave : NodeName) (run : Run) (p : Place) (c : SyncCompletion) : Type 0 where
  pub source : PortIdentity
  pub told : IsTold network slave p.earlier source
  pub arrival : Place
  pub journey : Journey
  pub arrives : Arrives run c.sync_tag slave arrival journey
  pub departure : LearnsDeparture run slave told.master c.follow_tag journey.origin
  pub later_sync : tag_of told.set < c.sync_tag
  pub later_follow : IfSome c.follow_tag (λ tag. tag_of told.set < tag)
  pub unset : is_set_master p.event ≡ false
  pub heard : origin_heard arrival ≡ Some journey.origin
  pub there : IsIn p.earlier journey.origin
  pub drawn : is_at draws_sync told.master journey.origin.event ≡ true
  pub number_is : c.number ≡ of_count (number_of told.port journey.origin)
  pub heard_now : origin_heard p ≡ Some journey.origin
  pub used_now : is_used (outcome_of network p.earlier p.event) ≡ true
  pub completed : option_map_or (λ tag. max c.sync_tag tag) c.follow_tag c.sync_tag ≡ tag_of p

-- the event of a tag, by another name of the tag
pub tagged : (run : Run) (p : Place) (tag : ℕ) → IsIn run p → tag ≡ tag_of p → place_at run tag ≡ Some p
tagged run p tag there is = subst (λ (t : ℕ). place_at run t ≡ Some p) (sym is) there

-- the SetMaster is earlier than what was heard under it
set_before : (network : Network) (slave : NodeName) (p : Place) (source : PortIdentity) (tag : ℕ) (told : IsTold network slave p.earlier source) → tag ≡ tag_of p
    → tag_of told.set < tag
set_before network slave p source tag told is =
    let before = place_at-bound p.earlier (tag_of told.set) told.set (last_set_master-in slave p.earlier told.set told.last) in omega arith

-- the Follow_Up that was heard is the one of this origin
follow_up_of : (network : Network) (run : Run) (slave master : NodeName) (p : Place) (copy : ℕ) (m : Contents) (tag : ℕ) (origin : Place) → IsIn run p → tag ≡ tag_of p
    → p.event ≡ Hear slave copy → (made : IsFollowUp network p.earlier copy m) → made.node ≡ master → made.origin ≡ origin
    → HearsFollowUp run slave master tag origin
follow_up_of network run slave master p copy m tag origin there is event made node one =
    let waited = waiting_sync-is made.node made.made.earlier made.origin made.waiting in
    record {
      drawn = subst (λ (o : Place). is_at is_sync master o.event ≡ true) one (subst (λ (n : NodeName). is_at is_sync n made.origin.event ≡ true) node waited.1);
      follow = made.made;
      hears = record { hearing = p; copy = copy; there = tagged run p tag there is; event = event; made_by = made.there };
      follows = made.event ∙ ap Follow node;
      followed = subst (λ (n : NodeName). waiting_sync n made.made.earlier ≡ Some origin) node (made.waiting ∙ ap (λ (o : Place). Some o) one);
    }

module _ (reach : ℕ) (fits : reach ≤ 65536) (network : Network) (port : PortSetup) (slave : NodeName) (slave_is : slave_at network slave ≡ Some port)
    (run : Run) (meet : NumbersMeet reach network slave run) (p : Place) (there : IsIn run p) (site : site_of p.event ≡ slave) (call : Call)
    (made : call_made network port p.event p.earlier ≡ Some call)
    (answered : answer (slave_setup port) (history_of network port slave p.earlier) call ≡ used (slave_setup port) (history_of network port slave p.earlier) call) where
  before : IsRun network p.earlier
  before = IsRun-place_at network run (tag_of p) p meet.accepted there

  accepted : IsOk (outcome_of network p.earlier p.event)
  accepted = accepted-place_at network run (tag_of p) p meet.accepted there

  -- a Sync that finds its Follow_Up held
  by_sync : (h : HeardSync (criteria (slave_setup port) (history_of network port slave p.earlier)) call) (follow : FollowValue) → is_two_step h.m.header ≡ true
      → first_value h.m.header.sequence.0 (held_follows (slave_setup port) (history_of network port slave p.earlier)) ≡ Some follow
      → IsOneSync network slave run p (pair h.m.header.sequence.0 (two_step_value h) follow)
  by_sync h follow flag found =
      let at = arrived network port slave p call slave_is before accepted site made answered h.m h.t2 h.tag h.call_is h.passes in
      let drawn = two_step_copy network p.earlier at.copy h.m h.origin at.used.m_is h.body flag in
      let now = of_two_step network port slave p at.copy h.m meet.apart at.used drawn in
      let e = found_in (IsHeldFollow network port slave p.earlier) (held_follows (slave_setup port) (history_of network port slave p.earlier)) h.m.header.sequence.0 follow
      (held_follows_are network port slave slave_is p.earlier before) found in
      let held = e.1 in
      let number : held.m.header.sequence.0 ≡ h.m.header.sequence.0 = sym (ap (λ (e : Entry FollowValue). e.number) held.is) ∙ e.2 in
      let follow_tag : follow.tag ≡ tag_of held.p = ap (λ (f : FollowValue). f.tag) (sym e.3 ∙ ap (λ (e : Entry FollowValue). e.value) held.is) in
      let then = of_follow network port slave held.p held.copy held.m meet.apart held.used held.made in
      let not_set : is_set_master held.p.event ≡ false = ap is_set_master held.event in
      let master = from_master network slave held.p.earlier held.m.header.source held.made.node held.made.port meet.apart held.used.told held.made.port_is
      (ap (λ (m : Contents). m.header.source) held.made.is) in
      let same = same_told network slave p.earlier held.p h.m.header.source held.m.header.source held.there not_set held.window.masters at.used.told held.used.told in
      let one : drawn.journey.origin ≡ held.made.origin =
      one_origin_of reach network slave run p held.p h.m.header.source held.m.header.source h.m.header.sequence.0 drawn.journey.origin held.made.origin fits meet there site held.there not_set
      (ap site_of held.event) held.window at.used.told held.used.told now
      (record { used = then.used; heard = then.heard; there = then.there; drawn = then.drawn; number_is = sym number ∙ then.number_is }) in
      record {
        source = h.m.header.source;
        told = at.used.told;
        arrival = p;
        journey = drawn.journey;
        arrives = record { copy = at.copy; moment = at.moment; there = tagged run p h.tag there at.tag_is; event = at.event; journey_is = drawn.made };
        departure = follow_up_of network run slave at.used.told.master held.p held.copy held.m follow.tag drawn.journey.origin (IsIn-within run p held.p there held.there) follow_tag
            held.event held.made (master.0 ∙ sym same.1) (sym one);
        later_sync = set_before network slave p h.m.header.source h.tag at.used.told at.tag_is;
        later_follow = subst (λ (s : Place). tag_of s < follow.tag) (sym same.0) (set_before network slave held.p held.m.header.source follow.tag held.used.told follow_tag);
        unset = ap is_set_master at.event;
        heard = now.heard;
        there = now.there;
        drawn = now.drawn;
        number_is = now.number_is;
        heard_now = now.heard;
        used_now = at.used.used;
        completed = let below = place_at-bound p.earlier (tag_of held.p) held.p held.there in let tag = at.tag_is in omega arith;
      }

  -- a Follow_Up that finds its Sync held
  by_follow_up : (h : HeardFollowUp (criteria (slave_setup port) (history_of network port slave p.earlier)) call) (sync : SyncValue)
      → first_value h.m.header.sequence.0 (held_syncs (slave_setup port) (history_of network port slave p.earlier)) ≡ Some sync
      → IsOneSync network slave run p (pair h.m.header.sequence.0 sync (follow_value h))
  by_follow_up h sync found =
      let at = heard_by network port slave p call slave_is before accepted site made answered h.m h.tag h.call_is h.passes in
      let follow = follow_up_copy network p.earlier at.copy h.m h.precise at.used.m_is h.body in
      let now = of_follow network port slave p at.copy h.m meet.apart at.used follow in
      let e = found_in (IsHeldSync network port slave p.earlier) (held_syncs (slave_setup port) (history_of network port slave p.earlier)) h.m.header.sequence.0 sync
      (held_syncs_are network port slave slave_is p.earlier before) found in
      let held = e.1 in
      let number : held.m.header.sequence.0 ≡ h.m.header.sequence.0 = sym (ap (λ (e : Entry SyncValue). e.number) held.is) ∙ e.2 in
      let sync_tag : sync.tag ≡ tag_of held.p = ap (λ (s : SyncValue). s.tag) (sym e.3 ∙ ap (λ (e : Entry SyncValue). e.value) held.is) in
      let then = of_two_step network port slave held.p held.copy held.m meet.apart held.used held.drawn in
      let not_set : is_set_master held.p.event ≡ false = ap is_set_master held.event in
      let master = from_master network slave p.earlier h.m.header.source follow.node follow.port meet.apart at.used.told follow.port_is
      (ap (λ (m : Contents). m.header.source) follow.is) in
      let same = same_told network slave p.earlier held.p h.m.header.source held.m.header.source held.there not_set held.window.masters at.used.told held.used.told in
      let one : follow.origin ≡ held.drawn.journey.origin =
      one_origin_of reach network slave run p held.p h.m.header.source held.m.header.source h.m.header.sequence.0 follow.origin held.drawn.journey.origin fits meet there site held.there not_set
      (ap site_of held.event) held.window at.used.told held.used.told now
      (record { used = then.used; heard = then.heard; there = then.there; drawn = then.drawn; number_is = sym number ∙ then.number_is }) in
      record {
        source = h.m.header.source;
        told = at.used.told;
        arrival = held.p;
        journey = held.drawn.journey;
        arrives = record {
          copy = held.copy;
          moment = held.moment;
          there = tagged run held.p sync.tag (IsIn-within run p held.p there held.there) sync_tag;
          event = held.event;
          journey_is = held.drawn.made;
        };
        departure = follow_up_of network run slave at.used.told.master p at.copy h.m h.tag held.drawn.journey.origin there at.tag_is at.event follow master.0 one;
        later_sync = subst (λ (s : Place). tag_of s < sync.tag) (sym same.0) (set_before network slave held.p held.m.header.source sync.tag held.used.told sync_tag);
        later_follow = set_before network slave p h.m.header.source h.tag at.used.told at.tag_is;
        unset = ap is_set_master at.event;
        heard = then.heard;
        there = subst (λ (o : Place). IsIn p.earlier o) one now.there;
        drawn = subst (λ (o : Place). is_at draws_sync at.used.told.master o.event ≡ true) one now.drawn;
        number_is = now.number_is ∙ ap (λ (o : Place). of_count (number_of at.used.told.port o)) one;
        heard_now = now.heard ∙ ap (λ (o : Place). Some o) one;
        used_now = at.used.used;
        completed = let below = place_at-bound p.earlier (tag_of held.p) held.p held.there in let tag = at.tag_is in omega arith;
      }

  -- a one-step Sync
  by_itself : (h : HeardSync (criteria (slave_setup port) (history_of network port slave p.earlier)) call) → is_two_step h.m.header ≡ false
      → IsOneSync network slave run p (alone h.m.header.sequence.0 (one_step_value h))
  by_itself h flag =
      let at = arrived network port slave p call slave_is before accepted site made answered h.m h.t2 h.tag h.call_is h.passes in
      let drawn = one_step_copy network p.earlier at.copy h.m h.origin at.used.m_is h.body flag in
      let now = of_one_step network port slave p at.copy h.m meet.apart at.used drawn in
      let master = from_master network slave p.earlier h.m.header.source drawn.node drawn.port meet.apart at.used.told drawn.port_is (ap (λ (m : Contents). m.header.source) drawn.is) in
      record {
        source = h.m.header.source;
        told = at.used.told;
        arrival = p;
        journey = drawn.journey;
        arrives = record { copy = at.copy; moment = at.moment; there = tagged run p h.tag there at.tag_is; event = at.event; journey_is = drawn.made };
        departure = subst (λ (n : NodeName). is_at is_one_step_sync n drawn.journey.origin.event ≡ true) master.0 drawn.drawn;
        later_sync = set_before network slave p h.m.header.source h.tag at.used.told at.tag_is;
        later_follow = tt;
        unset = ap is_set_master at.event;
        heard = now.heard;
        there = now.there;
        drawn = now.drawn;
        number_is = now.number_is;
        heard_now = now.heard;
        used_now = at.used.used;
        completed = at.tag_is;
      }

-- each completion
pub one_sync : (reach : ℕ) → reach ≤ 65536 → (network : Network) (port : PortSetup) (slave : NodeName) → slave_at network slave ≡ Some port
    → (run : Run) → NumbersMeet reach network slave run → (p : Place) → IsIn run p → site_of p.event ≡ slave → (call : Call) → call_made network port p.event p.earlier ≡ Some call
    → (c : SyncCompletion) → sync_completion (slave_setup port) (history_of network port slave p.earlier) call ≡ Some c → IsOneSync network slave run p c
one_sync reach fits network port slave slave_is run meet p there site call made c brought =
    let completes = sync_completion_of (slave_setup port) (history_of network port slave p.earlier) call c brought in by completes.0 completes.1
  where
    by : IsSyncCompletion (slave_setup port) (history_of network port slave p.earlier) call c
        → answer (slave_setup port) (history_of network port slave p.earlier) call ≡ used (slave_setup port) (history_of network port slave p.earlier) call
        → IsOneSync network slave run p c
    by (BySync h follow flag found is) answered =
        subst (λ (c : SyncCompletion). IsOneSync network slave run p c) (sym is) (by_sync reach fits network port slave slave_is run meet p there site call made answered h follow flag found)
    by (Alone h flag is) answered =
        subst (λ (c : SyncCompletion). IsOneSync network slave run p c) (sym is) (by_itself reach fits network port slave slave_is run meet p there site call made answered h flag)
    by (ByFollowUp h sync found is) answered =
        subst (λ (c : SyncCompletion). IsOneSync network slave run p c) (sym is) (by_follow_up reach fits network port slave slave_is run meet p there site call made answered h sync found)
