-- Why an event of a schedule doesn't happen.
use Rattle.std.specs.Prelude.{◌≡◌, Some, ⊤}
use Rattle.network_model.specs.declared.event.Event.{Event}
use Rattle.world_model.specs.State.{State}
use Rattle.schedule_reading.specs.declared.fault.TaskFault.{TaskFault}
use Rattle.schedule_reading.specs.declared.fault.TaskFault.TheVariants.{World, Memory}
use Rattle.schedule_reading.specs.Schedule.{refusal_of}

-- the nodes are no network or the event can't happen in it, or memory was refused
abbrev pub Refuses : TaskFault → State → Event → Type 0
Refuses (World why) state event = refusal_of state.network state.run event ≡ Some why
Refuses Memory state event = ⊤
Refuses fault state event = ⊥
