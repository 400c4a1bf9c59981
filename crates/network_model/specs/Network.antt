-- The nodes of a network, by their names, and the ports of those that have one (IEEE 1588-2019, 5.3.5).
use Rattle.std.specs.Prelude.{◌≢◌, ℕ, Bool, List, [], ◌∷◌, map, if◌then◌else◌, Option, Some, None, option_map, AllPairs}
use Rattle.std.specs.List.{filter_map}
use Rattle.std.specs.Str.{bytes_eq}
use Rattle.event_codec.specs.declared.port.PortConfig.{PortConfig}
use Rattle.event_codec.specs.declared.port.PortIdentity.{PortIdentity}
use Rattle.network_model.specs.declared.node.NodeKind.{NodeKind}
use Rattle.network_model.specs.declared.node.NodeKind.TheVariants.{Master, Slave, Clock}
use Rattle.network_model.specs.declared.node.NodeSpec.{NodeSpec}

-- the text of a node's name
abbrev pub NodeName : Type 0
NodeName = List ℕ

-- whether two texts are one name
abbrev pub is_named : NodeName → NodeName → Bool
is_named a b = bytes_eq a b

-- the nodes, in the order in which they were given
abbrev pub Network : Type 0
Network = List NodeSpec

-- the node of this name
abbrev pub node_of : Network → NodeName → Option NodeSpec
node_of [] name = None
node_of (node ∷ others) name = if is_named name node.name then Some node else node_of others name

-- what the node of this name is
abbrev pub kind_of : Network → NodeName → Option NodeKind
kind_of nodes name = option_map (λ node. node.kind) (node_of nodes name)

-- a port: its configuration and the first number of its pool
pub record PortSetup : Type 0 where
  pub config : PortConfig
  pub first : ℕ

-- the port of a node that is a master
abbrev pub master_port : NodeKind → Option PortSetup
master_port (Master config first) = Some (record { config = config; first = first.0 })
master_port (Slave config first) = None
master_port Clock = None

-- the port of a node that is a slave
abbrev pub slave_port : NodeKind → Option PortSetup
slave_port (Master config first) = None
slave_port (Slave config first) = Some (record { config = config; first = first.0 })
slave_port Clock = None

-- the identity of a master's or a slave's port; a transparent clock has none
abbrev pub identity_of : NodeKind → Option PortIdentity
identity_of (Master config first) = Some config.identity
identity_of (Slave config first) = Some config.identity
identity_of Clock = None

-- the names of all nodes
abbrev pub names : Network → List NodeName
names nodes = map (λ node. node.name) nodes

-- the identities of all ports, of whichever kind and domain
abbrev pub identities : Network → List PortIdentity
identities nodes = filter_map (λ node. identity_of node.kind) nodes

-- no two members are one
abbrev pub AllDiffer : {X : Type 0} → List X → Type 0
AllDiffer xs = AllPairs (λ a b. a ≢ b) xs

-- no two nodes have one name, and no two ports one identity
pub record IsNetwork (nodes : Network) : Type 0 where
  pub names : AllDiffer (names nodes)
  pub identities : AllDiffer (identities nodes)
