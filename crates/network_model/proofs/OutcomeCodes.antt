-- The numbers of refusals and reasons in outcomes have 16 bits.
use Rattle.std.proofs.Common.{ℕ, ◌<◌, Bool, true, false, Result, Ok, Err, arith, nat_lt, option_and_then, if◌then◌else◌}
use Rattle.std.specs.Prelude.{ok_or, unsigned_abs}
use Rattle.ptp_units.specs.Moment.{bound}
use Rattle.event_codec.specs.Packet.{Contents}
use Rattle.master_port.specs.declared.refusal.MasterRefusal.{MasterRefusal}
use Rattle.master_port.specs.declared.refusal.MasterRefusal.TheVariants as masters
use Rattle.master_port.specs.Refusal.{code_of as master_code}
use Rattle.master_port.specs.Written.{answer}
use Rattle.transparent_clock.specs.declared.refusal.ClockRefusal.{ClockRefusal}
use Rattle.transparent_clock.specs.declared.refusal.ClockRefusal.TheVariants as clocks
use Rattle.transparent_clock.specs.Refusal.{code_of as clock_code}
use Rattle.transparent_clock.specs.Forwarding.{forwarded}
use Rattle.slave_port.specs.declared.reason.Reason.{Reason}
use Rattle.slave_port.specs.declared.reason.Reason.TheVariants.{Decode, WrongType, OtherDomain, NoMaster, OtherMaster, TooBig, OtherRequester, UnknownRequest, EgressUnknown, NotNewer}
use Rattle.slave_port.specs.declared.reason.SlaveRefusal.TheVariants.{NotHeld}
use Rattle.slave_port.specs.Refusal.{code_of_reason, code_of as slave_code}
use Rattle.slave_port.specs.Requests.{is_held}
use Rattle.network_model.specs.declared.event.Event.{Event}
use Rattle.network_model.specs.declared.event.Event.TheVariants.{Sync, SyncOne, Follow, Enter, Leave, Arrive, Hear, Request, Stamped, Tick, SetMaster, StepClock}
use Rattle.network_model.specs.declared.node.NodeKind.{NodeKind}
use Rattle.network_model.specs.declared.node.NodeKind.TheVariants as kinds
use Rattle.network_model.specs.declared.stepped.Outcome.{Outcome}
use Rattle.network_model.specs.declared.stepped.Outcome.TheVariants as outcomes
use Rattle.network_model.specs.declared.refusal.WorldRefusal.{WorldRefusal}
use Rattle.network_model.specs.declared.refusal.WorldRefusal.TheVariants.{NoNode, WrongKind, NoCopy, NoTransit, ReadingOutOfRange, NothingWaiting}
use Rattle.network_model.specs.Network.{Network, NodeName, kind_of, master_port, slave_port}
use Rattle.network_model.specs.Run.{Run, place_at}
use Rattle.network_model.specs.Clock.{reading}
use Rattle.network_model.specs.Numbering.{waiting_sync, waiting_request}
use Rattle.network_model.specs.Truth.{copy_of}
use Rattle.network_model.specs.SlaveHistory.{slave_setup, history_of, request_sequence}
use Rattle.network_model.specs.Outcome.{◌>>=◌, node_as, clock_of, port_of, reads, open_transit, copy_in, left_outcome, answered_outcome, arrived_outcome, outcome_of}

-- the number of a refusal, where an outcome is one
abbrev pub IsCoded : Result Outcome WorldRefusal → Type 0
IsCoded (Ok outcomes.Done) = Unit {0}
IsCoded (Ok outcomes.Made) = Unit {0}
IsCoded (Ok outcomes.Entered) = Unit {0}
IsCoded (Ok (outcomes.Heard heard)) = Unit {0}
IsCoded (Ok (outcomes.Refused code)) = code < 65536
IsCoded (Err refusal) = Unit {0}

coded_step : {A : Type 0} (o : Result A WorldRefusal) (f : A → Result Outcome WorldRefusal) → ((a : A) → IsCoded (f a)) → IsCoded (o >>= f)
coded_step (Ok a) f each = each a
coded_step (Err refusal) f each = tt

coded_clock : (refusal : ClockRefusal) → clock_code refusal < 65536
coded_clock (clocks.Decode refusal) = omega arith
coded_clock clocks.NotEvent = omega arith
coded_clock clocks.NegativeResidence = omega arith

coded_master : (refusal : MasterRefusal) → master_code refusal < 65536
coded_master masters.NotWaiting = omega arith
coded_master (masters.Decode refusal) = omega arith
coded_master masters.NotRequest = omega arith
coded_master masters.OtherDomain = omega arith
coded_master masters.CorrectionTooLow = omega arith

coded_left : (r : Result Contents ClockRefusal) → IsCoded (Ok (left_outcome r))
coded_left (Ok m) = tt
coded_left (Err refusal) = coded_clock refusal

coded_answer : (r : Result Contents MasterRefusal) → IsCoded (Ok (answered_outcome r))
coded_answer (Ok m) = tt
coded_answer (Err refusal) = coded_master refusal

coded_arrival : (network : Network) (kind : NodeKind) (node : NodeName) (earlier : Run) (now : ℕ) (m : Contents)
    → IsCoded (Ok (arrived_outcome network kind node earlier now m))
coded_arrival network (kinds.Master config first) node earlier now m = coded_answer (answer config (Ok m) now)
coded_arrival network (kinds.Slave config first) node earlier now m = tt
coded_arrival network kinds.Clock node earlier now m = tt

coded_if : (held : Bool) → IsCoded (Ok (if held then outcomes.Done else outcomes.Refused (slave_code NotHeld)))
coded_if true = tt
coded_if false = omega arith

coded_done : (within : Bool) → IsCoded (if within then Ok outcomes.Done else Err ReadingOutOfRange)
coded_done true = tt
coded_done false = tt

-- each outcome's number has 16 bits
pub coded_outcome : (network : Network) (earlier : Run) (event : Event) → IsCoded (outcome_of network earlier event)
coded_outcome network earlier (Sync node at) =
    coded_step (node_as master_port network node) _ (λ port. coded_step (reads (Sync node at) earlier) _ (λ now. tt))
coded_outcome network earlier (SyncOne node at) =
    coded_step (node_as master_port network node) _ (λ port. coded_step (reads (SyncOne node at) earlier) _ (λ now. tt))
coded_outcome network earlier (Follow node) =
    coded_step (node_as master_port network node) _ (λ port. coded_step (ok_or (waiting_sync node earlier) NothingWaiting) _ (λ waiting. tt))
coded_outcome network earlier (Enter node copy at) =
    coded_step (node_as clock_of network node) _ (λ clock. coded_step (ok_or (copy_of network earlier copy) NoCopy) _
    (λ m. coded_step (reads (Enter node copy at) earlier) _ (λ now. tt)))
coded_outcome network earlier (Leave node transit at) =
    coded_step (node_as clock_of network node) _
    (λ clock. coded_step (ok_or (option_and_then (open_transit node earlier transit) (place_at earlier transit)) NoTransit) _
    (λ entered. coded_step (ok_or (copy_in network entered) NoTransit) _
    (λ m. coded_step (reads (Leave node transit at) earlier) _ (λ now. coded_left (forwarded (Ok m) (reading entered) now)))))
coded_outcome network earlier (Arrive node copy at) =
    coded_step (node_as port_of network node) _ (λ kind. coded_step (ok_or (copy_of network earlier copy) NoCopy) _
    (λ m. coded_step (reads (Arrive node copy at) earlier) _ (λ now. coded_arrival network kind node earlier now m)))
coded_outcome network earlier (Hear node copy) =
    coded_step (node_as slave_port network node) _ (λ port. coded_step (ok_or (copy_of network earlier copy) NoCopy) _ (λ m. tt))
coded_outcome network earlier (Request node at) =
    coded_step (node_as slave_port network node) _ (λ port. coded_step (reads (Request node at) earlier) _ (λ now. tt))
coded_outcome network earlier (Stamped node) =
    coded_step (node_as slave_port network node) _ (λ port. coded_step (ok_or (waiting_request node earlier) NothingWaiting) _
    (λ request. coded_if (is_held (slave_setup port) (history_of network port node earlier) (request_sequence port request))))
coded_outcome network earlier (Tick node) = coded_step (node_as slave_port network node) _ (λ port. tt)
coded_outcome network earlier (SetMaster node master) =
    coded_step (ok_or (kind_of network node) NoNode) _ (λ kind. coded_step (ok_or (kind_of network master) NoNode) _
    (λ other. coded_step (ok_or (slave_port kind) WrongKind) _ (λ port. coded_step (ok_or (master_port other) WrongKind) _ (λ present. tt))))
coded_outcome network earlier (StepClock node diff) =
    coded_step (ok_or (kind_of network node) NoNode) _ (λ kind. coded_done (nat_lt (unsigned_abs diff) bound))

pub coded_reason : (reason : Reason) → code_of_reason reason < 65536
coded_reason (Decode refusal) = omega arith
coded_reason WrongType = omega arith
coded_reason OtherDomain = omega arith
coded_reason NoMaster = omega arith
coded_reason OtherMaster = omega arith
coded_reason TooBig = omega arith
coded_reason NotNewer = omega arith
coded_reason OtherRequester = omega arith
coded_reason UnknownRequest = omega arith
coded_reason EgressUnknown = omega arith
