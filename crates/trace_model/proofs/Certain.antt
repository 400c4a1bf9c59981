-- Events that always take effect once they are accepted: all but those that a port or a clock may refuse, or a
-- slave ignore.
use Rattle.std.proofs.Common.{◌≡◌, Bool, true, false, Ok, Err, Result, refl, subst, if◌then◌else◌}
use Rattle.std.specs.Prelude.{ok_or, unsigned_abs, nat_lt}
use Rattle.ptp_units.specs.Moment.{bound}
use Rattle.network_model.specs.declared.event.Event.{Event}
use Rattle.network_model.specs.declared.event.Event.TheVariants.{Sync, SyncOne, Follow, Enter, Leave, Arrive, Hear}
use Rattle.network_model.specs.declared.event.Event.TheVariants.{Request, Stamped, Tick, SetMaster, StepClock}
use Rattle.network_model.specs.declared.refusal.WorldRefusal.{WorldRefusal}
use Rattle.network_model.specs.declared.refusal.WorldRefusal.TheVariants.{NoNode, WrongKind, NoCopy}
use Rattle.network_model.specs.declared.refusal.WorldRefusal.TheVariants.{ReadingOutOfRange, NothingWaiting}
use Rattle.network_model.specs.declared.stepped.Outcome.{Outcome}
use Rattle.network_model.specs.declared.stepped.Outcome.TheVariants as outcomes
use Rattle.network_model.specs.Network.{Network, kind_of, master_port, slave_port}
use Rattle.network_model.specs.Run.{Run}
use Rattle.network_model.specs.Numbering.{waiting_sync}
use Rattle.network_model.specs.Truth.{copy_of}
use Rattle.network_model.specs.Outcome.{◌>>=◌, node_as, clock_of, reads, outcome_of}
use Rattle.network_model.proofs.Options.{ok_step}
use Rattle.network_model.specs.Kinds.{is_sync, draws_sync}
use Rattle.network_model.specs.Kinds.{is_request, is_set_master, is_step}
use Rattle.trace_model.specs.Faithful.{is_effective}

-- no port and no clock refuses such an event, and no slave ignores it
abbrev pub is_certain : Event → Bool
is_certain (Sync node at) = true
is_certain (SyncOne node at) = true
is_certain (Follow node) = true
is_certain (Enter node copy at) = true
is_certain (Leave node transit at) = false
is_certain (Arrive node copy at) = false
is_certain (Hear node copy) = false
is_certain (Request node at) = true
is_certain (Stamped node) = false
is_certain (Tick node) = true
is_certain (SetMaster node master) = true
is_certain (StepClock node diff) = true

ends : (one other : Outcome) → ◌≡◌ {A = Result Outcome WorldRefusal} (Ok one) (Ok other) → is_effective one ≡ true
    → is_effective other ≡ true
ends one other is effective =
    let same : one ≡ other = cc in subst (λ (o : Outcome). is_effective o ≡ true) same effective

step_ends : (small : Bool) (outcome : Outcome)
    → (if small then Ok outcomes.Done else Err ReadingOutOfRange) ≡ Ok outcome → is_effective outcome ≡ true
step_ends true outcome is = ends outcomes.Done outcome is refl
step_ends false outcome is = cc

pub certain_takes : (network : Network) (earlier : Run) (event : Event) (outcome : Outcome) → is_certain event ≡ true
    → outcome_of network earlier event ≡ Ok outcome
    → is_effective outcome ≡ true
certain_takes network earlier (Sync node at) outcome certain is =
    let port = ok_step (node_as master_port network node)
    (λ port. reads (Sync node at) earlier >>= (λ now. Ok outcomes.Made)) is in
    let now = ok_step (reads (Sync node at) earlier) (λ now. Ok outcomes.Made) port.2 in
    ends outcomes.Made outcome now.2 refl
certain_takes network earlier (SyncOne node at) outcome certain is =
    let port = ok_step (node_as master_port network node)
    (λ port. reads (SyncOne node at) earlier >>= (λ now. Ok outcomes.Made)) is in
    let now = ok_step (reads (SyncOne node at) earlier) (λ now. Ok outcomes.Made) port.2 in
    ends outcomes.Made outcome now.2 refl
certain_takes network earlier (Follow node) outcome certain is =
    let port = ok_step (node_as master_port network node)
    (λ port. ok_or (waiting_sync node earlier) NothingWaiting >>= (λ waiting. Ok outcomes.Made)) is in
    let waiting = ok_step (ok_or (waiting_sync node earlier) NothingWaiting) (λ waiting. Ok outcomes.Made) port.2 in
    ends outcomes.Made outcome waiting.2 refl
certain_takes network earlier (Enter node tag at) outcome certain is =
    let clock = ok_step (node_as clock_of network node)
    (λ clock. ok_or (copy_of network earlier tag)
    NoCopy >>= (λ m. reads (Enter node tag at) earlier >>= (λ now. Ok outcomes.Entered))) is in
    let message = ok_step (ok_or (copy_of network earlier tag) NoCopy)
    (λ m. reads (Enter node tag at) earlier >>= (λ now. Ok outcomes.Entered)) clock.2 in
    let now = ok_step (reads (Enter node tag at) earlier) (λ now. Ok outcomes.Entered) message.2 in
    ends outcomes.Entered outcome now.2 refl
certain_takes network earlier (Request node at) outcome certain is =
    let port = ok_step (node_as slave_port network node)
    (λ port. reads (Request node at) earlier >>= (λ now. Ok outcomes.Made)) is in
    let now = ok_step (reads (Request node at) earlier) (λ now. Ok outcomes.Made) port.2 in
    ends outcomes.Made outcome now.2 refl
certain_takes network earlier (Tick node) outcome certain is =
    let port = ok_step (node_as slave_port network node) (λ port. Ok outcomes.Done) is in
    ends outcomes.Done outcome port.2 refl
certain_takes network earlier (SetMaster node master) outcome certain is =
    let kind = ok_step (ok_or (kind_of network node) NoNode)
    (λ kind. ok_or (kind_of network master)
    NoNode >>= (λ other. ok_or (slave_port kind)
    WrongKind >>= (λ port. ok_or (master_port other) WrongKind >>= (λ present. Ok outcomes.Done)))) is in
    let other = ok_step (ok_or (kind_of network master) NoNode)
    (λ other. ok_or (slave_port kind.0)
    WrongKind >>= (λ port. ok_or (master_port other) WrongKind >>= (λ present. Ok outcomes.Done))) kind.2 in
    let port = ok_step (ok_or (slave_port kind.0) WrongKind)
    (λ port. ok_or (master_port other.0) WrongKind >>= (λ present. Ok outcomes.Done)) other.2 in
    let present = ok_step (ok_or (master_port other.0) WrongKind) (λ present. Ok outcomes.Done) port.2 in
    ends outcomes.Done outcome present.2 refl
certain_takes network earlier (StepClock node diff) outcome certain is =
    let kind = ok_step (ok_or (kind_of network node) NoNode)
    (λ kind. if nat_lt (unsigned_abs diff) bound then Ok outcomes.Done else Err ReadingOutOfRange) is in
    step_ends (nat_lt (unsigned_abs diff) bound) outcome kind.2
certain_takes network earlier _ outcome certain is = cc

-- each of these kinds is of them
pub sync_certain : (event : Event) → is_sync event ≡ true → is_certain event ≡ true
sync_certain (Sync node at) is = refl
sync_certain _ is = cc

pub draws_certain : (event : Event) → draws_sync event ≡ true → is_certain event ≡ true
draws_certain (Sync node at) is = refl
draws_certain (SyncOne node at) is = refl
draws_certain _ is = cc

pub request_certain : (event : Event) → is_request event ≡ true → is_certain event ≡ true
request_certain (Request node at) is = refl
request_certain _ is = cc

pub set_master_certain : (event : Event) → is_set_master event ≡ true → is_certain event ≡ true
set_master_certain (SetMaster node master) is = refl
set_master_certain _ is = cc

pub step_certain : (event : Event) → is_step event ≡ true → is_certain event ≡ true
step_certain (StepClock node diff) is = refl
step_certain _ is = cc
