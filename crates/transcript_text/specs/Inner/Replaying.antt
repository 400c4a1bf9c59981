-- How far a schedule was replayed, and what stops an event.
use Rattle.std.specs.Prelude.{◌≡◌, ◌≢◌, ℕ, List, [], Option, None, Ok, Err, IsOk, ⊤}
use Rattle.std.specs.Io.KnownBytes.{Appends, Keeps}
use Rattle.network_model.specs.declared.event.Event.{Event}
use Rattle.network_model.specs.Outcome.{outcome_of}
use Rattle.network_model.specs.Clash.{first_clash}
use Rattle.world_model.specs.State.{State}
use Rattle.schedule_lines.specs.declared.reading.schedule.Line.{Line}
use Rattle.schedule_reading.specs.declared.fault.TaskFault.{TaskFault}
use Rattle.schedule_reading.specs.declared.fault.TaskFault.TheVariants.{Write, World, Memory}
use Rattle.schedule_reading.specs.declared.stage.Stage.{Stage}
use Rattle.schedule_reading.specs.declared.stage.Stage.TheVariants.{Nodes, Events}
use Rattle.schedule_reading.specs.Fault.{is_write}
use Rattle.schedule_reading.specs.Entry.{entry_in}
use Rattle.transcript_text.specs.Replay.{replay_rules}
use Rattle.text_lines.specs.Task.{WentOut}

-- the nodes and the events so far
abbrev pub state_of : Stage State → State
state_of (Nodes nodes) = record { network = nodes.items; run = [] }
state_of (Events world) = world

-- a world began at an event, and with nodes that are a network
abbrev pub IsReplaying : Stage State → Type 0
IsReplaying (Nodes nodes) = ⊤
IsReplaying (Events world) = (world.run ≢ []) × (first_clash world.network ≡ None)

-- where this fault comes nothing was written, but where the writer failed
abbrev pub WritesNone : TaskFault → Option (List ℕ) → Option (List ℕ) → Type 0
WritesNone Memory before after = Keeps before after
WritesNone (World why) before after = Keeps before after
WritesNone Write before after = ⊤
WritesNone fault before after = ⊥

-- why no line of an event was written
abbrev pub StopsEvent : TaskFault → State → Event → Type 0
StopsEvent Memory world event = ⊤
StopsEvent (World why) world event = outcome_of world.network world.run event ≡ Err why
StopsEvent Write world event = IsOk (outcome_of world.network world.run event)
StopsEvent fault world event = ⊥

-- a line that is this entry stops a schedule that was replayed so far
abbrev pub StopsAt : TaskFault → State → Line → Option (List ℕ) → Option (List ℕ) → Type 0
StopsAt fault state entry before after =
    (line : List ℕ) → entry_in line ≡ Ok entry
    → (written : List ℕ) × replay_rules.Stops line state fault written
    × WentOut (is_write fault) (Appends before after written)

-- a line wasn't made, or the writer failed
abbrev pub LeavesUnwritten : TaskFault → Option (List ℕ) → Option (List ℕ) → Type 0
LeavesUnwritten Memory before after = Keeps before after
LeavesUnwritten Write before after = ⊤
LeavesUnwritten fault before after = ⊥
