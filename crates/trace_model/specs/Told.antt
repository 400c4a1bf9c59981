-- Lines that tell what happened in a world.
use Rattle.std.specs.Prelude.{◌≡◌, ℕ, List, [], ◌∷◌, Option, Some, None}
use Rattle.event_codec.specs.Packet.{Contents, Packet}
use Rattle.slave_port.specs.declared.heard.Heard.{Heard}
use Rattle.slave_port.specs.declared.heard.Heard.TheVariants as answers
use Rattle.slave_port.specs.Refusal.{code_of_reason}
use Rattle.network_model.specs.declared.event.Event.{Event}
use Rattle.network_model.specs.declared.stepped.Outcome.{Outcome}
use Rattle.network_model.specs.declared.stepped.Outcome.TheVariants as outcomes
use Rattle.network_model.specs.declared.stepped.Stepped.{Stepped}
use Rattle.network_model.specs.Network.{Network}
use Rattle.network_model.specs.Run.{Run}
use Rattle.network_model.specs.Truth.{copy_of}
use Rattle.network_model.specs.Outcome.{IsStepped}
use Rattle.trace_model.specs.declared.line.TraceLine.{TraceLine}
use Rattle.trace_model.specs.declared.line.TraceOut.{TraceOut}
use Rattle.trace_model.specs.declared.line.TraceOut.TheVariants as outs
use Rattle.trace_model.specs.Line.{Lines}

-- the octets that a line has of a copy: those of its message, and none where there is no copy
abbrev pub TellsOctets : Option Contents → List ℕ → Type 0
TellsOctets (Some m) octets = Packet m octets
TellsOctets None octets = octets ≡ []

-- the octets that a line has of what was made
abbrev pub TellsMade : Option Contents → TraceOut → Type 0
TellsMade copy (outs.Made octets) = TellsOctets copy octets.items
TellsMade copy _ = ⊥

-- what a line has of a slave's answer
abbrev pub heard_out : Heard → TraceOut
heard_out answers.Held = outs.Held
heard_out answers.Completed = outs.Completed
heard_out (answers.Report report) = outs.Report report
heard_out (answers.Ignored reason) = outs.Ignored (code_of_reason reason)

-- what a line has of an outcome, where the event's tag stands for this copy
abbrev pub TellsOutcome : Option Contents → Outcome → TraceOut → Type 0
TellsOutcome copy outcomes.Done out = out ≡ outs.Done
TellsOutcome copy outcomes.Made out = TellsMade copy out
TellsOutcome copy outcomes.Entered out = out ≡ outs.Entered
TellsOutcome copy (outcomes.Heard heard) out = out ≡ heard_out heard
TellsOutcome copy (outcomes.Refused code) out = out ≡ outs.Refused code

-- a line has this event, and what it was answered in a world with this run
pub record TellsAnswer (network : Network) (run : Run) (happened : Event) (stepped : Stepped)
    (line : TraceLine) : Type 0 where
  pub event : line.event ≡ happened
  pub reading : line.reading ≡ stepped.reading
  pub outcome : TellsOutcome (copy_of network run stepped.tag) stepped.outcome line.out

-- a line tells the last event of a run
pub record TellsEvent (network : Network) (event : Event) (earlier : Run) (line : TraceLine) : Type 0 where
  pub stepped : Stepped
  pub answered : IsStepped network earlier event stepped
  pub told : TellsAnswer network (event ∷ earlier) event stepped line

-- lines tell a run, a line an event
abbrev pub TellsRun : Network → Run → Lines → Type 0
TellsRun network [] [] = Unit {0}
TellsRun network (event ∷ earlier) (line ∷ lines) =
    TellsEvent network event earlier line × TellsRun network earlier lines
TellsRun network [] (line ∷ lines) = ⊥
TellsRun network (event ∷ earlier) [] = ⊥
