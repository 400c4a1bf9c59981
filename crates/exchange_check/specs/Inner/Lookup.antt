-- Where a node stands.
use Rattle.std.specs.Prelude.{◌≡◌, ℕ, Option, is_some, slice_get, IfSome}
use Rattle.network_model.specs.Network.{Network, NodeName, IsNetwork, node_of}

-- the place of the node of a name, none where there is no such node
pub record IsPlace (network : Network) (name : NodeName) (place : Option ℕ) : Type 0 where
  pub found : is_some place ≡ is_some (node_of network name)
  pub node : IfSome place (λ index. slice_get network index ≡ node_of network name)
  pub names : IsNetwork network
