-- An index of nodes: what is kept to find each by its name. For the proofs alone: no public clause speaks of it.
use Rattle.std.specs.Prelude.{◌≡◌, List, map}
use Rattle.std.specs.Map.{values_of}
use Rattle.network_model.specs.declared.node.NodeSpec.{NodeSpec}
use Rattle.network_model.specs.Network.{Network, NodeName, IsNetwork}

-- nodes under the names by which they are found
abbrev pub Entries : Type 0
Entries = List (NodeName × NodeSpec)

-- each node at its name
abbrev pub entries_of : Network → Entries
entries_of nodes = map (λ node. (node.name, node)) nodes

-- each node stands under its own name, and together they are a network
pub record IsIndex (entries : Entries) : Type 0 where
  pub at_names : entries ≡ entries_of (values_of entries)
  pub network : IsNetwork (values_of entries)
