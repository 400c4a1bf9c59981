-- What each event has, beside its kind. A definition that asks for it asks this one table.
use Rattle.std.specs.Prelude.{ℕ, ℤ, Option, Some, None}
use Rattle.network_model.specs.declared.event.Event.{Event}
use Rattle.network_model.specs.declared.event.Event.TheVariants.{Sync, SyncOne, Follow, Enter, Leave, Arrive, Hear}
use Rattle.network_model.specs.declared.event.Event.TheVariants.{Request, Stamped, Tick, SetMaster, StepClock}
use Rattle.network_model.specs.Network.{NodeName}

-- the node at which an event happens, and what else it names: its true moment, the copy that it takes, the stay that it
-- leaves, the master that it tells, the difference that it sets
pub record Parts : Type 0 where
  pub node : NodeName
  pub moment : Option ℕ
  pub copy : Option ℕ
  pub transit : Option ℕ
  pub master : Option NodeName
  pub difference : Option ℤ

-- an event that names nothing but its node
abbrev pub at_node : NodeName → Parts
at_node node = record { node = node; moment = None; copy = None; transit = None; master = None; difference = None }

-- what an event has
abbrev pub parts : Event → Parts
parts (Sync node at) = record (at_node node) { moment = Some at }
parts (SyncOne node at) = record (at_node node) { moment = Some at }
parts (Follow node) = at_node node
parts (Enter node copy at) = record (at_node node) { moment = Some at; copy = Some copy }
parts (Leave node transit at) = record (at_node node) { moment = Some at; transit = Some transit }
parts (Arrive node copy at) = record (at_node node) { moment = Some at; copy = Some copy }
parts (Hear node copy) = record (at_node node) { copy = Some copy }
parts (Request node at) = record (at_node node) { moment = Some at }
parts (Stamped node) = at_node node
parts (Tick node) = at_node node
parts (SetMaster node master) = record (at_node node) { master = Some master }
parts (StepClock node diff) = record (at_node node) { difference = Some diff }
