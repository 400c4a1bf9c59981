-- The nodes and events of a schedule, and the faults of its lines.
use Rattle.std.specs.Prelude.{◌≡◌, ◌≢◌, ◌⊎◌, ℕ, List, [], Option, Some, None, Ok, Err}
use Rattle.std.specs.Prelude.{IsOk, ⊤}
use Rattle.std.specs.Option.{option_or}
use Rattle.std.specs.Result.{result_err}
use Rattle.network_model.specs.declared.event.Event.{Event}
use Rattle.network_model.specs.declared.node.NodeSpec.{NodeSpec}
use Rattle.network_model.specs.declared.refusal.WorldRefusal.{WorldRefusal}
use Rattle.network_model.specs.Network.{Network}
use Rattle.network_model.specs.Run.{Run}
use Rattle.network_model.specs.Clash.{first_clash}
use Rattle.network_model.specs.Outcome.{outcome_of}
use Rattle.schedule_lines.specs.declared.reading.schedule.Line.TheVariants as entries
use Rattle.schedule_reading.specs.Entry.{entry_in}
use Rattle.schedule_reading.specs.declared.fault.TaskFault.{TaskFault}
use Rattle.schedule_reading.specs.declared.fault.TaskFault.TheVariants.{Write, Json, Field, World, Memory}

-- why an event can't happen after these: there is no such network, or the network doesn't accept the event
abbrev pub refusal_of : Network → Run → Event → Option WorldRefusal
refusal_of nodes run event = option_or (first_clash nodes) (result_err (outcome_of nodes run event))

-- The fault of a line after these nodes and events, where the line itself was read. Where memory is refused, nothing is
-- known of the line; where the writer fails, it is an event, of which at least the nodes' lines were to be written.
abbrev pub FaultsIn : TaskFault → Network → Run → List ℕ → Type 0
FaultsIn Json nodes run line = entry_in line ≡ Err Json
FaultsIn Field nodes run line =
    (entry_in line ≡ Err Field) ⊎ ((node : NodeSpec) × (entry_in line ≡ Ok (entries.Node node)) × (run ≢ []))
FaultsIn (World why) nodes run line =
    (event : Event) × (entry_in line ≡ Ok (entries.Event event)) × (refusal_of nodes run event ≡ Some why)
FaultsIn Write nodes run line =
    (event : Event) × (entry_in line ≡ Ok (entries.Event event)) × (first_clash nodes ≡ None)
    × (run ≢ [] → IsOk (outcome_of nodes run event))
FaultsIn Memory nodes run line = ⊤

-- the fault at the end of an input of nodes alone: the nodes are no network, or their lines can't be made or written
abbrev pub FaultsAtEnd : TaskFault → Network → Type 0
FaultsAtEnd (World why) nodes = first_clash nodes ≡ Some why
FaultsAtEnd Write nodes = first_clash nodes ≡ None
FaultsAtEnd Memory nodes = ⊤
FaultsAtEnd fault nodes = ⊥
