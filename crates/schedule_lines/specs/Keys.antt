-- That there is one way to say a line: its keys are just those of what is written of it, and a number has one text.
use Rattle.std.specs.Prelude.{◌≡◌, ℤ, ℕ, List, Some, IfSome, is_some}
use Rattle.serde_json.specs.Data.{Data}
use Rattle.serde_json.specs.Find.{get}
use Rattle.schedule_lines.specs.declared.reading.schedule.Line.{Line}
use Rattle.schedule_lines.specs.declared.reading.schedule.Line.TheVariants as schedules
use Rattle.schedule_lines.specs.declared.reading.transcript.TranscriptLine.{TranscriptLine}
use Rattle.schedule_lines.specs.declared.reading.transcript.TranscriptLine.TheVariants as lines
use Rattle.schedule_lines.specs.Json.{difference_of}
use Rattle.schedule_lines.specs.Line.{line_of}
use Rattle.schedule_lines.specs.TranscriptLine.{transcript_line_of}
use Rattle.schedule_lines.specs.Written.{node_data, scheduled_data, event_data}

-- two objects have the same keys
abbrev pub HaveSameKeys : Data → Data → Type 0
HaveSameKeys one other = (key : List ℕ) → is_some (get key one) ≡ is_some (get key other)

-- what is written of a line of a schedule
abbrev pub line_data : Line → Data
line_data (schedules.Node node) = node_data node
line_data (schedules.Event event) = scheduled_data event

-- what is written of a line of a transcript
abbrev pub transcript_line_data : TranscriptLine → Data
transcript_line_data (lines.Node node) = node_data node
transcript_line_data (lines.Event n line) = event_data n line

-- what is read as a line of a schedule has just the keys of what is written of that line
abbrev pub LinesHaveOwnKeys : Type 0
LinesHaveOwnKeys = (d : Data) → IfSome (line_of d) (λ line. HaveSameKeys d (line_data line))

-- and so has what is read as a line of a transcript
abbrev pub TranscriptLinesHaveOwnKeys : Type 0
TranscriptLinesHaveOwnKeys =
    (d : Data) → IfSome (transcript_line_of d) (λ line. HaveSameKeys d (transcript_line_data line))

-- texts that are read as one number are the same text
abbrev pub NumbersHaveOneText : Type 0
NumbersHaveOneText =
    (z : ℤ) (one other : List ℕ) → difference_of one ≡ Some z → difference_of other ≡ Some z → one ≡ other
