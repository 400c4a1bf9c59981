-- What a slave was told and heard in a run: the call that each of its events makes, newest first, under the event's
-- tag.
use Rattle.std.specs.Prelude.{ℕ, List, [], ◌∷◌, ◌++◌, length, if◌then◌else◌, Option, Some, None, Ok, option_map}
use Rattle.std.specs.Prelude.{option_to_list}
use Rattle.ptp_units.specs.Sequence.{of_count}
use Rattle.slave_port.specs.History as calls
use Rattle.slave_port.specs.History.{Call, Setup, setup_of}
use Rattle.network_model.specs.declared.event.Event.{Event}
use Rattle.network_model.specs.declared.event.Event.TheVariants.{Arrive, Hear, Request, Stamped, Tick, SetMaster}
use Rattle.network_model.specs.Network.{Network, NodeName, PortSetup, is_named}
use Rattle.network_model.specs.Run.{Run, Place, place, site_of}
use Rattle.network_model.specs.Clock.{reading}
use Rattle.network_model.specs.Numbering.{number_of, waiting_request}
use Rattle.network_model.specs.Truth.{copy_of, master_at}

-- how many messages of a kind a slave of the world holds
abbrev pub table_capacity : ℕ
table_capacity = 16

-- how the port of a slave of the world is set up
abbrev pub slave_setup : PortSetup → Setup
slave_setup port = setup_of port.config port.first table_capacity table_capacity table_capacity

-- the sequenceId of a request
abbrev pub request_sequence : PortSetup → Place → ℕ
request_sequence port request = of_count (number_of port request)

-- the call that an event of a slave makes
abbrev pub call_made : Network → PortSetup → Event → Run → Option Call
call_made network port (Arrive node copy at) earlier =
    option_map (λ m. calls.Event (Ok m) (reading (place (Arrive node copy at) earlier)) (length earlier))
    (copy_of network earlier copy)
call_made network port (Hear node copy) earlier =
    option_map (λ m. calls.General (Ok m) (length earlier)) (copy_of network earlier copy)
call_made network port (Request node at) earlier = Some (calls.NextRequest (length earlier))
call_made network port (Stamped node) earlier =
    option_map (λ request. calls.RequestLeft (request_sequence port request) (reading request))
    (waiting_request node earlier)
call_made network port (Tick node) earlier = Some calls.Tick
call_made network port (SetMaster node master) earlier =
    option_map (λ other. calls.SetMaster other.config.identity) (master_at network master)
call_made network port _ earlier = None

-- the calls of a slave, newest first
abbrev pub history_of : Network → PortSetup → NodeName → Run → List Call
history_of network port slave [] = []
history_of network port slave (event ∷ earlier) =
    if is_named (site_of event) slave
    then option_to_list (call_made network port event earlier) ++ history_of network port slave earlier
    else history_of network port slave earlier
