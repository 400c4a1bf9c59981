-- The Syncs and Follow_Ups that a slave holds: each is a copy that it used, with at most a tick and no SetMaster since, of
-- its present master, and with the number that one Sync event drew.
use Rattle.std.proofs.Common.{◌≡◌, ◌∙◌, ℕ, ◌≤◌, true, false, List, ◌++◌, take, Option, Some, refl, sym, ap, subst, arith, option_and_then}
use Rattle.std.specs.Prelude.{count_by}
use Rattle.std.specs.List.{All}
use Rattle.std.proofs.lemmas.List.Elements.{All-append, All-take, All-weaker}
use Rattle.ptp_units.specs.Moment.{Stamp}
use Rattle.ptp_units.specs.Sequence.{of_count}
use Rattle.event_codec.specs.declared.message.Body.TheVariants as bodies
use Rattle.event_codec.specs.declared.port.PortIdentity.{PortIdentity}
use Rattle.event_codec.specs.Packet.{Contents}
use Rattle.pairing.specs.Marked.{Entry, entry}
use Rattle.slave_port.specs.History.{Call}
use Rattle.slave_port.specs.Window.{Window}
use Rattle.slave_port.specs.Values.{SyncValue, FollowValue}
use Rattle.slave_port.specs.Kept.{kept, held, held_syncs, held_follows, usable_two_step_sync, usable_follow_up, sync_completion, delay_completion, delay_completions}
use Rattle.slave_port.proofs.Uses.{two_step_entry, follow_entry}
use Rattle.network_model.specs.declared.event.Event.{Event}
use Rattle.network_model.specs.declared.event.Event.TheVariants.{Arrive, Hear}
use Rattle.network_model.specs.Network.{Network, NodeName, PortSetup, IsNetwork}
use Rattle.network_model.specs.Run.{Run, Place, tag_of, IsIn, site_of, events_after}
use Rattle.network_model.specs.Kinds.{is_at, draws_sync, is_set_master, named_master}
use Rattle.network_model.specs.Clock.{reading}
use Rattle.network_model.specs.Numbering.{number_of}
use Rattle.network_model.specs.Truth.{master_at, slave_at, origin_of, origin_made, origin_heard}
use Rattle.network_model.specs.SlaveHistory.{slave_setup, history_of, table_capacity}
use Rattle.network_model.specs.Outcome.{outcome_of, IsRun}
use Rattle.network_model.specs.Present.{present_master}
use Rattle.network_model.specs.Premises.{is_used}
use Rattle.network_model.specs.Order.{IsOneWindow}
use Rattle.network_model.proofs.Places.{accepted-place_at, IsRun-place_at, IsIn-place_at, IsIn-within}
use Rattle.network_model.proofs.Made.{origin_of-place_at}
use Rattle.network_model.proofs.Journeys.{origin_of-journey}
use Rattle.network_model.proofs.Copies.{IsTwoStep, IsOneStep, IsFollowUp}
use Rattle.network_model.proofs.Windows.{CameFrom, window_came}
use Rattle.network_model.proofs.Told.{IsTold}
use Rattle.network_model.proofs.Masters.{last_set_master-since, waiting_sync-is}
use Rattle.network_model.proofs.Entries.{UsedAt, arrived, heard_by, two_step_copy, follow_up_copy}
use Rattle.network_model.proofs.Pairing.{two_step_draws, one_step_draws, from_master, one_sync_event, used_near, NumbersMeet}

-- a Sync that is held
pub record IsHeldSync (network : Network) (port : PortSetup) (slave : NodeName) (run : Run) (e : Entry SyncValue) : Type 0 where
  pub p : Place
  pub m : Contents
  pub copy : ℕ
  pub moment : ℕ
  pub there : IsIn run p
  pub event : p.event ≡ Arrive slave copy moment
  pub used : UsedAt network port slave p copy m
  pub drawn : IsTwoStep network p.earlier copy m
  pub is : e ≡ entry m.header.sequence.0 (record { t2 = reading p; correction = m.header.correction.0; tag = tag_of p })
  pub window : IsOneWindow run slave (tag_of p)

-- a Follow_Up that is held
pub record IsHeldFollow (network : Network) (port : PortSetup) (slave : NodeName) (run : Run) (e : Entry FollowValue) : Type 0 where
  pub p : Place
  pub m : Contents
  pub copy : ℕ
  pub precise : Stamp
  pub there : IsIn run p
  pub event : p.event ≡ Hear slave copy
  pub used : UsedAt network port slave p copy m
  pub made : IsFollowUp network p.earlier copy m
  pub body : m.body ≡ bodies.FollowUp precise
  pub is : e ≡ entry m.header.sequence.0 (record { precise = precise; correction = m.header.correction.0; tag = tag_of p })
  pub window : IsOneWindow run slave (tag_of p)

module _ (network : Network) (port : PortSetup) (slave : NodeName) (slave_is : slave_at network slave ≡ Some port) where
  -- all of a window came at events with at most one tick since
  whole_window : {E : Type 0} (brings : List Call → Call → Option E) (run : Run) (window : Window E)
      → All (CameFrom network port slave brings 0 run) window.since × All (CameFrom network port slave brings 1 run) window.before
      → All (CameFrom network port slave brings 1 run) (window.since ++ window.before)
  whole_window brings run window came =
      All-append (CameFrom network port slave brings 1 run) window.since window.before
      (All-weaker (CameFrom network port slave brings 0 run) (CameFrom network port slave brings 1 run)
      (λ e c. record {
        p = c.p;
        call = c.call;
        there = c.there;
        site = c.site;
        made = c.made;
        brought = c.brought;
        few_ticks = let few = c.few_ticks in omega arith;
        no_master = c.no_master;
      }) window.since came.0)
      came.1

  pub held_sync : (run : Run) (e : Entry SyncValue) → IsRun network run → CameFrom network port slave (usable_two_step_sync (slave_setup port)) 1 run e
      → IsHeldSync network port slave run e
  held_sync run e accepted c =
      let brought = two_step_entry (slave_setup port) (history_of network port slave c.p.earlier) c.call e c.brought in
      let at = arrived network port slave c.p c.call slave_is (IsRun-place_at network run (tag_of c.p) c.p accepted c.there)
      (accepted-place_at network run (tag_of c.p) c.p accepted c.there) c.site c.made brought.used brought.h.m brought.h.t2 brought.h.tag brought.h.call_is brought.h.passes in
      record {
        p = c.p;
        m = brought.h.m;
        copy = at.copy;
        moment = at.moment;
        there = c.there;
        event = at.event;
        used = at.used;
        drawn = two_step_copy network c.p.earlier at.copy brought.h.m brought.h.origin at.used.m_is brought.h.body brought.flag;
        is = brought.is ∙ ap (λ (t2 : ℕ). entry brought.h.m.header.sequence.0 (record { t2 = t2; correction = brought.h.m.header.correction.0; tag = brought.h.tag })) at.t2_is
            ∙ ap (λ (tag : ℕ). entry brought.h.m.header.sequence.0 (record { t2 = reading c.p; correction = brought.h.m.header.correction.0; tag = tag })) at.tag_is;
        window = record { ticks = c.few_ticks; masters = c.no_master };
      }

  pub held_follow : (run : Run) (e : Entry FollowValue) → IsRun network run → CameFrom network port slave (usable_follow_up (slave_setup port)) 1 run e
      → IsHeldFollow network port slave run e
  held_follow run e accepted c =
      let brought = follow_entry (slave_setup port) (history_of network port slave c.p.earlier) c.call e c.brought in
      let at = heard_by network port slave c.p c.call slave_is (IsRun-place_at network run (tag_of c.p) c.p accepted c.there)
      (accepted-place_at network run (tag_of c.p) c.p accepted c.there) c.site c.made brought.used brought.h.m brought.h.tag brought.h.call_is brought.h.passes in
      record {
        p = c.p;
        m = brought.h.m;
        copy = at.copy;
        precise = brought.h.precise;
        there = c.there;
        event = at.event;
        used = at.used;
        made = follow_up_copy network c.p.earlier at.copy brought.h.m brought.h.precise at.used.m_is brought.h.body;
        body = brought.h.body;
        is = brought.is ∙ ap (λ (tag : ℕ). entry brought.h.m.header.sequence.0 (record { precise = brought.h.precise; correction = brought.h.m.header.correction.0; tag = tag })) at.tag_is;
        window = record { ticks = c.few_ticks; masters = c.no_master };
      }

  -- all that are held
  pub held_syncs_are : (run : Run) → IsRun network run → All (IsHeldSync network port slave run) (held_syncs (slave_setup port) (history_of network port slave run))
  held_syncs_are run accepted =
      let window = (kept (slave_setup port) (history_of network port slave run)).syncs in
      All-weaker (CameFrom network port slave (usable_two_step_sync (slave_setup port)) 1 run) (IsHeldSync network port slave run) (λ e. held_sync run e accepted)
      (take table_capacity (window.since ++ window.before))
      (All-take (CameFrom network port slave (usable_two_step_sync (slave_setup port)) 1 run) table_capacity (window.since ++ window.before)
      (whole_window (usable_two_step_sync (slave_setup port)) run window
      (window_came network port slave (usable_two_step_sync (slave_setup port)) (λ h. (kept (slave_setup port) h).syncs) refl (λ call earlier. refl) run accepted)))

  pub held_follows_are : (run : Run) → IsRun network run → All (IsHeldFollow network port slave run) (held_follows (slave_setup port) (history_of network port slave run))
  held_follows_are run accepted =
      let window = (kept (slave_setup port) (history_of network port slave run)).follows in
      All-weaker (CameFrom network port slave (usable_follow_up (slave_setup port)) 1 run) (IsHeldFollow network port slave run) (λ e. held_follow run e accepted)
      (take table_capacity (window.since ++ window.before))
      (All-take (CameFrom network port slave (usable_follow_up (slave_setup port)) 1 run) table_capacity (window.since ++ window.before)
      (whole_window (usable_follow_up (slave_setup port)) run window
      (window_came network port slave (usable_follow_up (slave_setup port)) (λ h. (kept (slave_setup port) h).follows) refl (λ call earlier. refl) run accepted)))

  -- the completions in the window
  pub completions_came : (run : Run) → IsRun network run
      → All (CameFrom network port slave (sync_completion (slave_setup port)) 1 run)
      ((kept (slave_setup port) (history_of network port slave run)).completions.since ++ (kept (slave_setup port) (history_of network port slave run)).completions.before)
  completions_came run accepted =
      whole_window (sync_completion (slave_setup port)) run (kept (slave_setup port) (history_of network port slave run)).completions
      (window_came network port slave (sync_completion (slave_setup port)) (λ h. (kept (slave_setup port) h).completions) refl (λ call earlier. refl) run accepted)

  pub delay_completions_came : (run : Run) → IsRun network run
      → All (CameFrom network port slave (delay_completion (slave_setup port)) 1 run)
      ((delay_completions (slave_setup port) (history_of network port slave run)).since ++ (delay_completions (slave_setup port) (history_of network port slave run)).before)
  delay_completions_came run accepted =
      whole_window (delay_completion (slave_setup port)) run (delay_completions (slave_setup port) (history_of network port slave run))
      (window_came network port slave (delay_completion (slave_setup port)) (delay_completions (slave_setup port)) refl (λ call earlier. refl) run accepted)

-- A message of the Sync's sequence that a slave used: the Sync event that drew its number, at the present master.
pub record IsOfSync (network : Network) (slave : NodeName) (p : Place) (source : PortIdentity) (number : ℕ) (told : IsTold network slave p.earlier source) (origin : Place) : Type 0 where
  pub used : is_used (outcome_of network p.earlier p.event) ≡ true
  pub heard : origin_heard p ≡ Some origin
  pub there : IsIn p.earlier origin
  pub drawn : is_at draws_sync told.master origin.event ≡ true
  pub number_is : number ≡ of_count (number_of told.port origin)

-- of a Sync, two-step or one-step
pub of_two_step : (network : Network) (port : PortSetup) (slave : NodeName) (p : Place) (copy : ℕ) (m : Contents) → IsNetwork network
    → (used : UsedAt network port slave p copy m) → (drawn : IsTwoStep network p.earlier copy m) → IsOfSync network slave p m.header.source m.header.sequence.0 used.told drawn.journey.origin
of_two_step network port slave p copy m apart used drawn =
    let master = from_master network slave p.earlier m.header.source drawn.node drawn.port apart used.told drawn.port_is (ap (λ (m : Contents). m.header.source) drawn.is) in
    record {
      used = used.used;
      heard = ap (option_and_then (origin_of p.earlier)) used.heard ∙ origin_of-journey p.earlier copy drawn.journey drawn.made;
      there = drawn.there;
      drawn = subst (λ (n : NodeName). is_at draws_sync n drawn.journey.origin.event ≡ true) master.0 (two_step_draws drawn.node drawn.journey.origin.event drawn.drawn);
      number_is = ap (λ (m : Contents). m.header.sequence.0) drawn.is ∙ ap (λ (o : PortSetup). of_count (number_of o drawn.journey.origin)) master.1;
    }

pub of_one_step : (network : Network) (port : PortSetup) (slave : NodeName) (p : Place) (copy : ℕ) (m : Contents) → IsNetwork network
    → (used : UsedAt network port slave p copy m) → (drawn : IsOneStep network p.earlier copy m) → IsOfSync network slave p m.header.source m.header.sequence.0 used.told drawn.journey.origin
of_one_step network port slave p copy m apart used drawn =
    let master = from_master network slave p.earlier m.header.source drawn.node drawn.port apart used.told drawn.port_is (ap (λ (m : Contents). m.header.source) drawn.is) in
    record {
      used = used.used;
      heard = ap (option_and_then (origin_of p.earlier)) used.heard ∙ origin_of-journey p.earlier copy drawn.journey drawn.made;
      there = drawn.there;
      drawn = subst (λ (n : NodeName). is_at draws_sync n drawn.journey.origin.event ≡ true) master.0 (one_step_draws drawn.node drawn.journey.origin.event drawn.drawn);
      number_is = ap (λ (m : Contents). m.header.sequence.0) drawn.is ∙ ap (λ (o : PortSetup). of_count (number_of o drawn.journey.origin)) master.1;
    }

-- the origin of a Follow_Up
pub origin_of_follow : (network : Network) (run : Run) (copy : ℕ) (m : Contents) → (made : IsFollowUp network run copy m) → origin_of run copy ≡ Some made.origin
origin_of_follow network run copy m made =
    origin_of-place_at run copy ∙ ap (option_and_then (λ (p : Place). origin_made p.event p.earlier (origin_of p.earlier))) made.there
    ∙ ap (λ (e : Event). origin_made e made.made.earlier (origin_of made.made.earlier)) made.event ∙ made.waiting

-- of a Follow_Up
pub of_follow : (network : Network) (port : PortSetup) (slave : NodeName) (p : Place) (copy : ℕ) (m : Contents) → IsNetwork network
    → (used : UsedAt network port slave p copy m) → (made : IsFollowUp network p.earlier copy m) → IsOfSync network slave p m.header.source m.header.sequence.0 used.told made.origin
of_follow network port slave p copy m apart used made =
    let master = from_master network slave p.earlier m.header.source made.node made.port apart used.told made.port_is (ap (λ (m : Contents). m.header.source) made.is) in
    let waited = waiting_sync-is made.node made.made.earlier made.origin made.waiting in
    record {
      used = used.used;
      heard = ap (option_and_then (origin_of p.earlier)) used.heard ∙ origin_of_follow network p.earlier copy m made;
      there = IsIn-within p.earlier made.made made.origin (IsIn-place_at p.earlier copy made.made made.there) waited.0;
      drawn = subst (λ (n : NodeName). is_at draws_sync n made.origin.event ≡ true) master.0 (two_step_draws made.node made.origin.event waited.1);
      number_is = ap (λ (m : Contents). m.header.sequence.0) made.is ∙ ap (λ (o : PortSetup). of_count (number_of o made.origin)) master.1;
    }

-- the master that a slave followed when it used a message is the present one, if it was told none since
pub same_told : (network : Network) (slave : NodeName) (run : Run) (p : Place) (source other : PortIdentity) → IsIn run p → is_set_master p.event ≡ false
    → count_by (is_at is_set_master slave) (events_after (tag_of p) run) ≡ 0
    → (now : IsTold network slave run source) → (then : IsTold network slave p.earlier other)
    → (now.set ≡ then.set) × (now.master ≡ then.master) × (now.port ≡ then.port)
same_told network slave run p source other there unset none now then =
    let same = last_set_master-since slave run p there unset none in
    let one : Some now.set ≡ Some then.set = sym now.last ∙ same ∙ then.last in
    let sets : now.set ≡ then.set = cc in
    let names : Some now.master ≡ Some then.master = sym now.named ∙ ap (λ (s : Place). named_master s.event) sets ∙ then.named in
    let masters : now.master ≡ then.master = cc in
    let ports : Some now.port ≡ Some then.port = sym now.port_is ∙ ap (master_at network) masters ∙ then.port_is in
    (sets, masters, cc)

-- a message that is used now and one that is held, with one sequenceId, are of one Sync event
pub one_origin_of : (reach : ℕ) (network : Network) (slave : NodeName) (run : Run) (p then : Place) (source other : PortIdentity) (number : ℕ) (origin origin_then : Place) → reach ≤ 65536 → NumbersMeet reach network slave run
    → IsIn run p → site_of p.event ≡ slave → IsIn p.earlier then → is_set_master then.event ≡ false → site_of then.event ≡ slave → IsOneWindow p.earlier slave (tag_of then)
    → (told : IsTold network slave p.earlier source) → (told_then : IsTold network slave then.earlier other)
    → (now : IsOfSync network slave p source number told origin) → (held : IsOfSync network slave then other number told_then origin_then)
    → (origin ≡ origin_then)
one_origin_of reach network slave run p then source other number origin origin_then fits meet there here before unset site window told told_then now held =
    let same = same_told network slave p.earlier then source other before unset window.masters told told_then in
    let drawn : is_at draws_sync told.master origin_then.event ≡ true = subst (λ (n : NodeName). is_at draws_sync n origin_then.event ≡ true) (sym same.1) held.drawn in
    let present : present_master slave p.earlier ≡ Some told.master = ap (option_and_then (λ (set : Place). named_master set.event)) told.last ∙ told.named in
    let near = used_near told.master p.earlier origin reach now.drawn (meet.used p origin there here now.used now.heard) in
    let near_too = meet.held p there then told.master origin_then before site held.used window present held.heard drawn in
    one_sync_event told.master told.port p.earlier origin origin_then now.there (IsIn-within p.earlier then origin_then before held.there) now.drawn drawn
    (omega arith) (omega arith)
    (sym now.number_is ∙ held.number_is ∙ ap (λ (o : PortSetup). of_count (number_of o origin_then)) (sym same.2))
