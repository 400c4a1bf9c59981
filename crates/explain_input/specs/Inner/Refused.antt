-- A line that is none of a transcript.
use Rattle.std.specs.Prelude.{ℕ, List}
use Rattle.schedule_reading.specs.declared.fault.TaskFault.{TaskFault}
use Rattle.schedule_reading.specs.Transcript.{FaultsInTranscript}
use Rattle.explain_input.specs.declared.input.Input.{Input}
use Rattle.explain_input.specs.declared.input.Input.TheVariants.{Transcript, Schedule}

-- a line isn't taken by a transcript, for this reason
abbrev pub IsNoneOf : TaskFault → Input → List ℕ → Type 0
IsNoneOf fault (Transcript state) line = FaultsInTranscript fault state.nodes state.lines line
IsNoneOf fault (Schedule state) line = ⊥
