-- That the text of a line is read as the value and as the line that it was written of.
use Rattle.std.specs.Prelude.{◌≡◌, Some, IfSome}
use Rattle.serde_json.specs.Written.{compact_text}
use Rattle.network_model.specs.Kinds.{named_copy, named_transit}
use Rattle.network_model.specs.declared.event.Event.{Event}
use Rattle.schedule_lines.specs.declared.reading.schedule.Line.{Line}
use Rattle.schedule_lines.specs.declared.reading.schedule.Line.TheVariants as schedules
use Rattle.schedule_lines.specs.declared.reading.transcript.TranscriptLine.{TranscriptLine}
use Rattle.schedule_lines.specs.declared.reading.transcript.TranscriptLine.TheVariants as lines
use Rattle.schedule_lines.specs.Json.{value_in}
use Rattle.schedule_lines.specs.Keys.{line_data, transcript_line_data}
use Rattle.schedule_lines.specs.Line.{line_of}
use Rattle.schedule_lines.specs.Ranges.{IsEvent, IsNode, IsRecorded, IsTag, IsTagged}
use Rattle.schedule_lines.specs.TranscriptLine.{transcript_line_of}

-- an event of a schedule whose values are within their ranges, with tags of 64 bits
pub record IsScheduled (event : Event) : Type 0 where
  pub in_range : IsEvent event
  pub copy : IfSome (named_copy event) IsTag
  pub transit : IfSome (named_transit event) IsTag

-- a line of a schedule whose values are within their ranges, with such tags
abbrev pub IsWritable : Line → Type 0
IsWritable (schedules.Node node) = IsNode node
IsWritable (schedules.Event event) = IsScheduled event

-- and a line of a transcript
abbrev pub IsTranscribable : TranscriptLine → Type 0
IsTranscribable (lines.Node node) = IsNode node
IsTranscribable (lines.Event n line) = IsRecorded line × IsTagged n line

-- what the compact text of a line of a schedule is as JSON, and as a line
abbrev pub LinesSpellThemselves : Type 0
LinesSpellThemselves =
    (line : Line) → IsWritable line
    → (value_in (compact_text (line_data line)) ≡ Some (line_data line)) × (line_of (line_data line) ≡ Some line)

-- and of a line of a transcript
abbrev pub TranscriptLinesSpellThemselves : Type 0
TranscriptLinesSpellThemselves =
    (line : TranscriptLine) → IsTranscribable line
    → (value_in (compact_text (transcript_line_data line)) ≡ Some (transcript_line_data line))
    × (transcript_line_of (transcript_line_data line) ≡ Some line)
