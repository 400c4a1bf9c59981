-- How far a transcript was read, and what one more entry does.
use Rattle.std.specs.Prelude.{◌≡◌, ◌≢◌, ℕ, [], ◌∷◌, length, reverse, Option, None, ⊤}
use Rattle.network_model.specs.Clash.{first_clash}
use Rattle.trace_model.specs.declared.judgement.Judgement.{Judgement}
use Rattle.trace_model.specs.declared.line.TraceLine.{TraceLine}
use Rattle.trace_model.specs.Record.{line_place}
use Rattle.trace_model.specs.Verdict.{line_judgement}
use Rattle.exchange_check.specs.Transcript.{Transcript}
use Rattle.schedule_reading.specs.declared.stage.Stage.{Stage}
use Rattle.schedule_reading.specs.declared.stage.Stage.TheVariants.{Nodes, Events}
use Rattle.schedule_reading.specs.Transcript.{Recorded}

-- the nodes so far, and what was recorded of events so far, newest first
abbrev pub recorded_of : Stage Transcript → Recorded
recorded_of (Nodes nodes) = record { nodes = nodes.items; lines = [] }
recorded_of (Events checker) = record { nodes = checker.network; lines = reverse checker.lines }

-- a checker began at an event, and with nodes that are a network
abbrev pub HasBegun : Stage Transcript → Type 0
HasBegun (Nodes nodes) = ⊤
HasBegun (Events checker) = (reverse checker.lines ≢ []) × (first_clash checker.network ≡ None)

-- the same, where so many nodes were counted
abbrev pub IsReading : Stage Transcript → ℕ → Type 0
IsReading stage nodes = HasBegun stage × (nodes ≡ length (recorded_of stage).nodes)

-- one more line is judged so, after nodes that are a network
abbrev pub Judges : TraceLine → (state later : Recorded) → Option Judgement → Type 0
Judges line state later judgement = (first_clash state.nodes ≡ None)
    × (later ≡ record { nodes = state.nodes; lines = line ∷ state.lines })
    × (judgement ≡ line_judgement state.nodes (line_place line state.lines))
