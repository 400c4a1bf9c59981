-- Which events a world accepts after a run, with which outcome, and which refusal the others meet first.
use Rattle.std.specs.Prelude.{◌≡◌, ℕ, not, ◌&&◌, [], ◌∷◌, length, nat_lt, is_some, if◌then◌else◌, Option, Some, None}
use Rattle.std.specs.Prelude.{Ok, Err, Result, IsOk, unsigned_abs, ok_or, option_and_then}
use Rattle.std.specs.List.{list_any}
use Rattle.std.specs.Result.{result_ok}
use Rattle.ptp_units.specs.Moment.{bound}
use Rattle.event_codec.specs.Packet.{Contents}
use Rattle.master_port.specs.declared.refusal.MasterRefusal.{MasterRefusal}
use Rattle.master_port.specs.Refusal.{code_of as master_code}
use Rattle.master_port.specs.Written.{answer}
use Rattle.transparent_clock.specs.declared.refusal.ClockRefusal.{ClockRefusal}
use Rattle.transparent_clock.specs.Refusal.{code_of as clock_code}
use Rattle.transparent_clock.specs.Forwarding.{forwarded}
use Rattle.slave_port.specs.declared.reason.SlaveRefusal.TheVariants.{NotHeld}
use Rattle.slave_port.specs.Refusal.{code_of as slave_code}
use Rattle.slave_port.specs.History as calls
use Rattle.slave_port.specs.History.{Call}
use Rattle.slave_port.specs.Answer as slaves
use Rattle.slave_port.specs.Requests.{is_held}
use Rattle.network_model.specs.declared.event.Event.{Event}
use Rattle.network_model.specs.declared.event.Event.TheVariants.{Sync, SyncOne, Follow, Enter, Leave, Arrive, Hear}
use Rattle.network_model.specs.declared.event.Event.TheVariants.{Request, Stamped, Tick, SetMaster, StepClock}
use Rattle.network_model.specs.declared.node.NodeKind.{NodeKind}
use Rattle.network_model.specs.declared.node.NodeKind.TheVariants as kinds
use Rattle.network_model.specs.declared.stepped.Stepped.{Stepped}
use Rattle.network_model.specs.declared.stepped.Outcome.{Outcome}
use Rattle.network_model.specs.declared.stepped.Outcome.TheVariants.{Done, Made, Entered, Heard, Refused}
use Rattle.network_model.specs.declared.refusal.WorldRefusal.{WorldRefusal}
use Rattle.network_model.specs.declared.refusal.WorldRefusal.TheVariants.{NoNode, WrongKind, NoCopy, NoTransit}
use Rattle.network_model.specs.declared.refusal.WorldRefusal.TheVariants.{ReadingOutOfRange, NothingWaiting}
use Rattle.network_model.specs.Network.{Network, NodeName, PortSetup, kind_of, master_port, slave_port, is_named}
use Rattle.network_model.specs.Run.{Run, Place, place, place_at, site_of}
use Rattle.network_model.specs.Kinds.{entered_copy, is_leave_of}
use Rattle.network_model.specs.Clock.{reading, reading_of}
use Rattle.network_model.specs.Numbering.{waiting_sync, waiting_request}
use Rattle.network_model.specs.Truth.{copy_of}
use Rattle.network_model.specs.SlaveHistory.{slave_setup, history_of, request_sequence}

-- a step that goes on where the one before it gave a value
infixl 10 ◌>>=◌
abbrev pub ◌>>=◌ : {A B : Type 0} → Result A WorldRefusal → (A → Result B WorldRefusal) → Result B WorldRefusal
Ok x >>= f = f x
Err refusal >>= f = Err refusal

-- what a node is, where it is a node and of the wanted kind
abbrev pub node_as : {X : Type 0} → (NodeKind → Option X) → Network → NodeName → Result X WorldRefusal
node_as wanted network node = do
  kind ← ok_or (kind_of network node) NoNode
  ok_or (wanted kind) WrongKind

-- a transparent clock
abbrev pub clock_of : NodeKind → Option (Unit {0})
clock_of (kinds.Master config first) = None
clock_of (kinds.Slave config first) = None
clock_of kinds.Clock = Some tt

-- a master or a slave, at which messages arrive
abbrev pub port_of : NodeKind → Option NodeKind
port_of (kinds.Master config first) = Some (kinds.Master config first)
port_of (kinds.Slave config first) = Some (kinds.Slave config first)
port_of kinds.Clock = None

-- the reading of the node's clock at an event
abbrev pub reads : Event → Run → Result ℕ WorldRefusal
reads event earlier = ok_or (reading_of (place event earlier)) ReadingOutOfRange

-- the Enter event of this transit, where it was at this node and no Leave event has left its stay
abbrev pub open_transit : NodeName → Run → ℕ → Place → Option Place
open_transit node earlier transit entered =
    if is_some (entered_copy entered.event) && is_named (site_of entered.event) node
    && not (list_any (is_leave_of transit) earlier)
    then Some entered
    else None

-- the copy that an Enter event took in
abbrev pub copy_in : Network → Place → Option Contents
copy_in network entered = option_and_then (copy_of network entered.earlier) (entered_copy entered.event)

-- a message that leaves a clock makes a copy, or the clock refuses it
abbrev pub left_outcome : Result Contents ClockRefusal → Outcome
left_outcome (Ok m) = Made
left_outcome (Err refusal) = Refused (clock_code refusal)

-- a message that arrives at a master is answered by a copy, or the master refuses it
abbrev pub answered_outcome : Result Contents MasterRefusal → Outcome
answered_outcome (Ok m) = Made
answered_outcome (Err refusal) = Refused (master_code refusal)

-- what a slave answers to a message
abbrev pub heard : Network → PortSetup → NodeName → Run → Call → Outcome
heard network port node earlier call =
    Heard (slaves.answer (slave_setup port) (history_of network port node earlier) call)

-- the outcome of an arrival at a port, at this reading
abbrev pub arrived_outcome : Network → NodeKind → NodeName → Run → ℕ → Contents → Outcome
arrived_outcome network (kinds.Master config first) node earlier now m = answered_outcome (answer config (Ok m) now)
arrived_outcome network (kinds.Slave config first) node earlier now m =
    heard network (record { config = config; first = first.0 }) node earlier (calls.Event (Ok m) now (length earlier))
arrived_outcome network kinds.Clock node earlier now m = Done

-- a waiting request gets its departure time, where the slave still holds it
abbrev pub stamped_outcome : Network → PortSetup → NodeName → Run → Place → Outcome
stamped_outcome network port node earlier request =
    if is_held (slave_setup port) (history_of network port node earlier) (request_sequence port request)
    then Done
    else Refused (slave_code NotHeld)

-- the outcome of an event after a run, where it is accepted, or the first refusal
abbrev pub outcome_of : Network → Run → Event → Result Outcome WorldRefusal
outcome_of network earlier (Sync node at) = do
  port ← node_as master_port network node
  now ← reads (Sync node at) earlier
  Ok Made
outcome_of network earlier (SyncOne node at) = do
  port ← node_as master_port network node
  now ← reads (SyncOne node at) earlier
  Ok Made
outcome_of network earlier (Follow node) = do
  port ← node_as master_port network node
  waiting ← ok_or (waiting_sync node earlier) NothingWaiting
  Ok Made
outcome_of network earlier (Enter node copy at) = do
  clock ← node_as clock_of network node
  m ← ok_or (copy_of network earlier copy) NoCopy
  now ← reads (Enter node copy at) earlier
  Ok Entered
outcome_of network earlier (Leave node transit at) = do
  clock ← node_as clock_of network node
  entered ← ok_or (option_and_then (open_transit node earlier transit) (place_at earlier transit)) NoTransit
  m ← ok_or (copy_in network entered) NoTransit
  now ← reads (Leave node transit at) earlier
  Ok (left_outcome (forwarded (Ok m) (reading entered) now))
outcome_of network earlier (Arrive node copy at) = do
  kind ← node_as port_of network node
  m ← ok_or (copy_of network earlier copy) NoCopy
  now ← reads (Arrive node copy at) earlier
  Ok (arrived_outcome network kind node earlier now m)
outcome_of network earlier (Hear node copy) = do
  port ← node_as slave_port network node
  m ← ok_or (copy_of network earlier copy) NoCopy
  Ok (heard network port node earlier (calls.General (Ok m) (length earlier)))
outcome_of network earlier (Request node at) = do
  port ← node_as slave_port network node
  now ← reads (Request node at) earlier
  Ok Made
outcome_of network earlier (Stamped node) = do
  port ← node_as slave_port network node
  request ← ok_or (waiting_request node earlier) NothingWaiting
  Ok (stamped_outcome network port node earlier request)
outcome_of network earlier (Tick node) = do
  port ← node_as slave_port network node
  Ok Done
outcome_of network earlier (SetMaster node master) = do
  kind ← ok_or (kind_of network node) NoNode
  other ← ok_or (kind_of network master) NoNode
  port ← ok_or (slave_port kind) WrongKind
  present ← ok_or (master_port other) WrongKind
  Ok Done
outcome_of network earlier (StepClock node diff) = do
  kind ← ok_or (kind_of network node) NoNode
  if nat_lt (unsigned_abs diff) bound then Ok Done else Err ReadingOutOfRange

-- every event of a run was accepted
abbrev pub IsRun : Network → Run → Type 0
IsRun network [] = Unit {0}
IsRun network (event ∷ earlier) = IsOk (outcome_of network earlier event) × IsRun network earlier

-- what an event that is accepted answers: its tag, its reading where it has a true moment, and its outcome
pub record IsStepped (network : Network) (earlier : Run) (event : Event) (stepped : Stepped) : Type 0 where
  pub tag : stepped.tag ≡ length earlier
  pub reading : stepped.reading ≡ reading_of (place event earlier)
  pub outcome : outcome_of network earlier event ≡ Ok stepped.outcome

-- A Leave event makes what a transparent clock forwards (IEEE 1588-2019, 10.2) of the copy that its Enter event took
-- in, by the readings at both, and no copy where the clock refuses it: the copies of `copy_made`, by journeys, are
-- those that clocks write.
abbrev pub EachLeaveForwards : Type 0
EachLeaveForwards =
    (network : Network) (earlier : Run) (node : NodeName) (transit at : ℕ) (entered : Place) (m : Contents)
    → place_at earlier transit ≡ Some entered → copy_in network entered ≡ Some m
    → copy_of network (Leave node transit at ∷ earlier) (length earlier)
    ≡ result_ok (forwarded (Ok m) (reading entered) (reading (place (Leave node transit at) earlier)))
