-- What a line is, or its fault.
use Rattle.std.specs.Prelude.{◌≡◌, ◌⊎◌, ℕ, List, Option, Some, None, ok_or, Result, Err}
use Rattle.serde_json.specs.Data.{Data}
use Rattle.schedule_lines.specs.Json.{value_in}
use Rattle.schedule_lines.specs.declared.reading.schedule.Line.{Line}
use Rattle.schedule_lines.specs.declared.reading.transcript.TranscriptLine.{TranscriptLine}
use Rattle.schedule_lines.specs.Line.{line_of}
use Rattle.schedule_lines.specs.TranscriptLine.{transcript_line_of}
use Rattle.schedule_reading.specs.declared.fault.TaskFault.{TaskFault}
use Rattle.schedule_reading.specs.declared.fault.TaskFault.TheVariants.{Json, Field}

-- what a line's value is by such a reading, or the line's fault
abbrev pub read_by : {E : Type 0} → (Data → Option E) → Option Data → Result E TaskFault
read_by reading None = Err Json
read_by reading (Some value) = ok_or (reading value) Field

-- the node or the event of a schedule that a line is, or its fault
abbrev pub entry_in : List ℕ → Result Line TaskFault
entry_in line = read_by line_of (value_in line)

-- the node, or the event with what was recorded of it, that a line is, or its fault
abbrev pub recorded_in : List ℕ → Result TranscriptLine TaskFault
recorded_in line = read_by transcript_line_of (value_in line)

-- a fault of the line alone, as it is read
abbrev pub IsOwnFault : {E : Type 0} → (List ℕ → Result E TaskFault) → TaskFault → List ℕ → Type 0
IsOwnFault reading fault line = ((fault ≡ Json) ⊎ (fault ≡ Field)) × (reading line ≡ Err fault)
