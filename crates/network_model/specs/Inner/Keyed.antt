-- The key of a network's tables. For private clauses alone.
use Rattle.std.specs.Prelude.{ℕ, List, [], ◌∷◌, ◌++◌, length, Option, None, Some}
use Rattle.std.specs.Int.{w16, to_be_bytes}
use Rattle.std.specs.List.{flat_map}
use Rattle.std.specs.declared.hash.DefaultHasher.{DefaultHasher}
use Rattle.std.specs.Hash.DefaultHasher.{initial, write}
use Rattle.sha2.specs.Sha256.{sha256}
use Rattle.event_codec.specs.declared.port.PortIdentity.{PortIdentity}
use Rattle.network_model.specs.declared.node.NodeSpec.{NodeSpec}
use Rattle.network_model.specs.Network.{Network, identity_of}

-- an identity behind the number of its octets
abbrev pub octets_of_identity : Option PortIdentity → List ℕ
octets_of_identity None = 0 ∷ []
octets_of_identity (Some identity) = 10 ∷ identity.clock ++ to_be_bytes w16 identity.port

-- a node's name behind the number of its octets, and its identity
abbrev pub octets_of_node : NodeSpec → List ℕ
octets_of_node node = length node.name ∷ node.name ++ octets_of_identity (identity_of node.kind)

-- SipHash that has taken a digest of all names and identities
abbrev pub keyed_by : Network → DefaultHasher
keyed_by nodes = write initial (sha256 (flat_map octets_of_node nodes))
