-- How far nodes and then events were read.
use Rattle.std.specs.Prelude.{◌≡◌, [], ◌∷◌, ◌++◌, Option, Some, None}
use Rattle.network_model.specs.declared.node.NodeSpec.{NodeSpec}
use Rattle.network_model.specs.Network.{Network}
use Rattle.schedule_reading.specs.declared.stage.Stage.{Stage}
use Rattle.schedule_reading.specs.declared.stage.Stage.TheVariants.{Nodes, Events}

-- the nodes so far, where there was no event yet
abbrev pub nodes_in : {T : Type 0} → Stage T → Option Network
nodes_in (Nodes nodes) = Some nodes.items
nodes_in (Events made) = None

-- there was no event yet, and one node more is there
abbrev pub HasOneMore : {T : Type 0} → NodeSpec → Stage T → Stage T → Type 0
HasOneMore node old new = (nodes : Network) × (nodes_in old ≡ Some nodes) × (nodes_in new ≡ Some (nodes ++ node ∷ []))

-- nothing changed
abbrev pub IsStill : {T : Type 0} → Stage T → Stage T → Type 0
IsStill (Nodes nodes) new = nodes_in new ≡ Some nodes.items
IsStill (Events made) new = new ≡ Events made
