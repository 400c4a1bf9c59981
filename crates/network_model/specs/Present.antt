-- The present master of a slave.
use Rattle.std.specs.Prelude.{[], ◌∷◌, if◌then◌else◌, Option, Some, None, option_and_then}
use Rattle.network_model.specs.Network.{NodeName}
use Rattle.network_model.specs.Run.{Run, Place, place}
use Rattle.network_model.specs.Kinds.{is_at, is_set_master, named_master}

-- a slave's last SetMaster event
abbrev pub last_set_master : NodeName → Run → Option Place
last_set_master slave [] = None
last_set_master slave (event ∷ earlier) =
    if is_at is_set_master slave event then Some (place event earlier) else last_set_master slave earlier

-- the node that is a slave's present master
abbrev pub present_master : NodeName → Run → Option NodeName
present_master slave run = option_and_then (λ set. named_master set.event) (last_set_master slave run)
