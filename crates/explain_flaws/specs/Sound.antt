-- Which lines have no flaw: those that are read where they stand.
use Rattle.std.specs.Prelude.{ℕ, List, Bool, true, false, ◌==◌}
use Rattle.std.specs.Prelude.{option_map, unwrap_or}
use Rattle.serde_json.specs.Data.{Data}
use Rattle.schedule_lines.specs.Json.{value_in}
use Rattle.schedule_lines.specs.declared.reading.schedule.Line.{Line}
use Rattle.schedule_lines.specs.declared.reading.transcript.TranscriptLine.{TranscriptLine}
use Rattle.schedule_lines.specs.Line.{line_of}
use Rattle.schedule_lines.specs.TranscriptLine.{transcript_line_of}
use Rattle.schedule_lines.specs.declared.reading.schedule.Line.TheVariants as schedules
use Rattle.schedule_lines.specs.declared.reading.transcript.TranscriptLine.TheVariants as transcripts

-- whether a line of a schedule may stand after so many events: nodes come before all of them
abbrev pub may_follow : ℕ → Line → Bool
may_follow events (schedules.Node node) = events == 0
may_follow events (schedules.Event event) = true

-- whether a line of a transcript may: an event's number is its place
abbrev pub may_be_told : ℕ → TranscriptLine → Bool
may_be_told events (transcripts.Node node) = events == 0
may_be_told events (transcripts.Event number line) = number == events

-- whether a value is that of a line of a schedule that may stand after so many events
abbrev pub is_schedule_value : ℕ → Data → Bool
is_schedule_value events d = unwrap_or (option_map (may_follow events) (line_of d)) false

-- whether it is that of one of a transcript that may
abbrev pub is_transcript_value : ℕ → Data → Bool
is_transcript_value events d = unwrap_or (option_map (may_be_told events) (transcript_line_of d)) false

-- whether these octets are a line of a schedule that may stand after so many events
abbrev pub is_schedule_line : ℕ → List ℕ → Bool
is_schedule_line events line = unwrap_or (option_map (is_schedule_value events) (value_in line)) false

-- whether they are one of a transcript that may
abbrev pub is_transcript_line : ℕ → List ℕ → Bool
is_transcript_line events line = unwrap_or (option_map (is_transcript_value events) (value_in line)) false
