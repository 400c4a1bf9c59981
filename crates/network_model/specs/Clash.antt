-- The first node that repeats a name or an identity (IEEE 1588-2019, 5.3.5).
use Rattle.std.specs.Prelude.{Bool, List, [], ◌∷◌, ◌++◌, if◌then◌else◌, Option, Some, None, is_some}
use Rattle.std.specs.List.{list_any}
use Rattle.std.specs.Option.{option_or}
use Rattle.event_codec.specs.declared.port.PortIdentity.{PortIdentity}
use Rattle.event_codec.specs.Port.{is_same_port}
use Rattle.network_model.specs.declared.node.NodeSpec.{NodeSpec}
use Rattle.network_model.specs.declared.refusal.WorldRefusal.{WorldRefusal}
use Rattle.network_model.specs.declared.refusal.WorldRefusal.TheVariants.{SameName, SameIdentity}
use Rattle.network_model.specs.Network.{Network, NodeName, node_of, identity_of, identities}

-- whether a node has this name
abbrev pub has_name : Network → NodeName → Bool
has_name nodes name = is_some (node_of nodes name)

-- what an identity repeats of those that are taken
abbrev pub identity_clash : List PortIdentity → Option PortIdentity → Option WorldRefusal
identity_clash taken None = None
identity_clash taken (Some identity) = if list_any (is_same_port identity) taken then Some SameIdentity else None

-- what a node repeats of those before it, its name tested before its identity
abbrev pub clash : Network → NodeSpec → Option WorldRefusal
clash earlier node =
    if has_name earlier node.name then Some SameName
    else identity_clash (identities earlier) (identity_of node.kind)

-- the same for the first of more nodes that repeats something
abbrev pub clash_after : Network → Network → Option WorldRefusal
clash_after earlier [] = None
clash_after earlier (node ∷ later) = option_or (clash earlier node) (clash_after (earlier ++ node ∷ []) later)

-- the first node that repeats something decides, member by member
abbrev pub first_clash : Network → Option WorldRefusal
first_clash nodes = clash_after [] nodes
