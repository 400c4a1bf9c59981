-- What `replay` writes of runs, as `check_text` reads it. `laws::replayed_runs_are_transcripts`,
-- `laws::replayed_runs_are_accepted` and `laws::replays_are_accepted` promise it.
use Rattle.std.specs.Prelude.{◌≡◌, ℕ, ◌+◌, ◌≤◌, List, ◌++◌, length, All, Option, None, Result, MatchResult, ⊤}
use Rattle.network_model.specs.Network.{Network}
use Rattle.network_model.specs.Run.{Run}
use Rattle.network_model.specs.Clash.{first_clash}
use Rattle.network_model.specs.Premises.{Premise}
use Rattle.trace_model.specs.declared.verdict.Verdict.{Verdict}
use Rattle.trace_model.specs.declared.verdict.Verdict.TheVariants.{Accepted}
use Rattle.trace_model.specs.Line.{Lines}
use Rattle.trace_model.specs.Told.{TellsRun}
use Rattle.trace_model.specs.Complete.{reports_in}
use Rattle.schedule_lines.specs.Ranges.{IsEvent, IsNode}
use Rattle.transcript_text.specs.declared.fault.Fault.{Fault}
use Rattle.transcript_text.specs.declared.fault.FaultKind.{FaultKind}
use Rattle.transcript_text.specs.declared.fault.FaultKind.TheVariants.{Read, Write, LineTooLong, TooManyLines, Json}
use Rattle.transcript_text.specs.declared.fault.FaultKind.TheVariants.{Field, World, Memory}
use Rattle.transcript_text.specs.Replay.{nodes_text, WritesRun, ReplaysAll}
use Rattle.transcript_text.specs.CheckText.{AreRecorded, transcript_of, ChecksAll, ChecksUntil, Checks}
use Rattle.text_lines.specs.Lines.{lines_of, lines_limit}

-- nodes and events whose values are within their ranges, and no more than lines are allowed
pub record IsInRange (nodes : Network) (run : Run) : Type 0 where
  pub each_node : All IsNode nodes
  pub each_event : All IsEvent run
  pub few : length nodes + length run ≤ lines_limit

-- octets are a transcript of these nodes, and of lines that tell this run
pub record IsTranscript (nodes : Network) (run : Run) (octets : List ℕ) : Type 0 where
  pub lines : Lines
  pub tells : TellsRun nodes run lines
  pub recorded : AreRecorded 1 (lines_of octets) (transcript_of nodes lines)

-- What is written of nodes and of a run of them is a transcript that tells the run.
abbrev pub EachRunIsTranscribed : Premise → Type 0
EachRunIsTranscribed premise =
    (nodes : Network) (run : Run) (text : List ℕ) → premise nodes run → IsInRange nodes run → WritesRun nodes run text
    → IsTranscript nodes run (nodes_text nodes ++ text)

-- And whatever verdict is answered over it, that accepts it, with the number of the run's reports.
abbrev pub EachRunIsAccepted : Premise → Type 0
EachRunIsAccepted premise =
    (nodes : Network) (run : Run) (text : List ℕ) (left before after : Option (List ℕ)) (answer : Verdict)
    → premise nodes run → IsInRange nodes run → WritesRun nodes run text
    → ChecksAll (nodes_text nodes ++ text) left before after answer → answer ≡ Accepted (reports_in nodes run)

-- a fault that isn't in a text: of a device, or of memory
abbrev pub IsOfDevice : FaultKind → Type 0
IsOfDevice Read = ⊤
IsOfDevice Write = ⊤
IsOfDevice LineTooLong = ⊥
IsOfDevice TooManyLines = ⊥
IsOfDevice Json = ⊥
IsOfDevice Field = ⊥
IsOfDevice (World why) = ⊥
IsOfDevice Memory = ⊤

-- Where there is no verdict over it, a device failed or memory was refused.
abbrev pub EachRunIsChecked : Premise → Type 0
EachRunIsChecked premise =
    (nodes : Network) (run : Run) (text : List ℕ) (left before after : Option (List ℕ)) (stop : Fault)
    → first_clash nodes ≡ None → premise nodes run → IsInRange nodes run → WritesRun nodes run text
    → ChecksUntil (nodes_text nodes ++ text) left before after stop → IsOfDevice stop.what

-- an answer of `check_text`: it accepts, with so many reports, or a device failed or memory was refused
abbrev pub AnswersAcceptance : ℕ → Result Verdict Fault → Type 0
AnswersAcceptance reports answer =
    MatchResult answer (λ verdict. verdict ≡ Accepted reports) (λ stop. IsOfDevice stop.what)

-- So of what was replayed on Ok, whatever octets the schedule was.
abbrev pub EachReplayIsAccepted : Premise → Type 0
EachReplayIsAccepted premise =
    (octets : List ℕ) (left before after : Option (List ℕ)) (events : ℕ)
    (replayed : ReplaysAll octets left before after events)
    → premise replayed.state.network replayed.state.run → (left' before' after' : Option (List ℕ))
    (answer : Result Verdict Fault)
    → Checks (replayed.text ++ replayed.last) left' before' after' answer
    → AnswersAcceptance (reports_in replayed.state.network replayed.state.run) answer
