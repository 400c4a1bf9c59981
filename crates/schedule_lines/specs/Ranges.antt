-- What may be recorded of an event, what a node may be, and that a line that tells it is read as it was written.
use Rattle.std.specs.Prelude.{◌≡◌, ℕ, ◌+◌, ◌^◌, ◌<◌, ◌≤◌, ◌≤ℤ◌, ℤ, pos, negsuc, length, Some, IfSome, is_some, ◌∷◌}
use Rattle.hex.specs.Hex.{IsBytes}
use Rattle.event_codec.specs.declared.port.PortConfig.{PortConfig}
use Rattle.ptp_units.specs.Moment.{bound}
use Rattle.network_model.specs.Name.{IsName}
use Rattle.network_model.specs.Run.{site_of, true_moment, Run}
use Rattle.network_model.specs.Kinds.{named_copy, named_master, named_difference, named_transit}
use Rattle.network_model.specs.declared.event.Event.{Event}
use Rattle.network_model.specs.declared.node.NodeKind.{NodeKind}
use Rattle.network_model.specs.declared.node.NodeSpec.{NodeSpec}
use Rattle.trace_model.specs.declared.line.TraceLine.{TraceLine}
use Rattle.trace_model.specs.declared.line.TraceOut.{TraceOut}
use Rattle.serde_json.specs.Data.{Data}
use Rattle.serde_json.specs.Read.{read}
use Rattle.serde_json.specs.Written.{compact_text}
use Rattle.slave_port.specs.declared.heard.Report.{Report}
use Rattle.schedule_lines.specs.Line.{line_of}
use Rattle.network_model.specs.Network.{Network}
use Rattle.network_model.specs.Premises.{Premise}
use Rattle.trace_model.specs.Told.{TellsEvent}
use Rattle.schedule_lines.specs.declared.reading.schedule.Line.{Line}
use Rattle.schedule_lines.specs.declared.reading.transcript.TranscriptLine.{TranscriptLine}
use Rattle.schedule_lines.specs.TranscriptLine.{transcript_line_of}
use Rattle.schedule_lines.specs.Written.{out_report, node_data, scheduled_data, event_data}
use Rattle.network_model.specs.declared.node.NodeKind.TheVariants as kinds
use Rattle.trace_model.specs.declared.line.TraceOut.TheVariants as outs
use Rattle.schedule_lines.specs.declared.reading.schedule.Line.TheVariants as schedules
use Rattle.schedule_lines.specs.declared.reading.transcript.TranscriptLine.TheVariants as lines

-- a whole number whose text has 32 octets at the most
abbrev pub IsShort : ℤ → Type 0
IsShort (pos n) = n < 10 ^ 32
IsShort (negsuc n) = n + 1 < 10 ^ 31

-- an event whose values are within their ranges
pub record IsEvent (event : Event) : Type 0 where
  pub node : IsName (site_of event)
  pub master : IfSome (named_master event) IsName
  pub moment : IfSome (true_moment event) (λ time. time < bound)
  pub step : IfSome (named_difference event) IsShort

-- an outcome whose values are within their ranges
abbrev pub IsOut : TraceOut → Type 0
IsOut (outs.Made octets) = (length octets.items ≤ 54) × IsBytes octets.items
IsOut (outs.Report report) = IsShort report.offset2 × IsShort report.path2
IsOut (outs.Ignored code) = code < 65536
IsOut (outs.Refused code) = code < 65536
IsOut _ = Unit {0}

-- what may be recorded of an event: its values are within their ranges, and it has a reading where the event has a true
-- moment
pub record IsRecorded (line : TraceLine) : Type 0 where
  pub event : IsEvent line.event
  pub timed : is_some line.reading ≡ is_some (true_moment line.event)
  pub reading : IfSome line.reading (λ time. time < bound)
  pub out : IsOut line.out

-- the settings of a port within their ranges
pub record IsConfig (config : PortConfig) : Type 0 where
  pub clock : (length config.identity.clock ≡ 8) × IsBytes config.identity.clock
  pub port : config.identity.port < 65536
  pub domain : config.domain < 256
  pub log : (negsuc 127 ≤ℤ config.log) × (config.log ≤ℤ pos 127)

-- what a node is, its settings within their ranges
abbrev pub IsKind : NodeKind → Type 0
IsKind (kinds.Master config first) = IsConfig config × (first.0 < 65536)
IsKind (kinds.Slave config first) = IsConfig config × (first.0 < 65536)
IsKind kinds.Clock = Unit {0}

-- a node within these ranges, by a name
abbrev pub IsNode : NodeSpec → Type 0
IsNode node = IsName node.name × IsKind node.kind

-- the line of each such node is read as it was written, in a schedule and in a transcript
abbrev pub NodesReadBack : Type 0
NodesReadBack =
    (node : NodeSpec) → IsNode node
    → (line_of (node_data node) ≡ Some (schedules.Node node))
    × (transcript_line_of (node_data node) ≡ Some (lines.Node node))

-- what an event's own keys say in a schedule is read as the event
abbrev pub ScheduledReadBack : Type 0
ScheduledReadBack = (event : Event) → IsEvent event → line_of (scheduled_data event) ≡ Some (schedules.Event event)

-- each line that tells what may be recorded is read as it was written
abbrev pub EventsReadBack : Type 0
EventsReadBack =
    (n : ℕ) (line : TraceLine) → IsRecorded line → transcript_line_of (event_data n line) ≡ Some (lines.Event n line)

-- a line of a schedule whose values are within their ranges
abbrev pub IsLine : Line → Type 0
IsLine (schedules.Node node) = IsNode node
IsLine (schedules.Event event) = IsEvent event

-- a line of a transcript whose values are within their ranges
abbrev pub IsTranscriptLine : TranscriptLine → Type 0
IsTranscriptLine (lines.Node node) = IsNode node
IsTranscriptLine (lines.Event n line) = IsRecorded line

-- whatever is read is within its ranges
abbrev pub ReadsInRange : Type 0
ReadsInRange = (d : Data) → IfSome (line_of d) IsLine × IfSome (transcript_line_of d) IsTranscriptLine

-- a tag, which has 64 bits
abbrev pub IsTag : ℕ → Type 0
IsTag tag = tag < 2 ^ 64

-- the tags of a report
pub record HasTags (report : Report) : Type 0 where
  pub sync : IsTag report.sync_tag
  pub follow : IfSome report.follow_tag IsTag
  pub request : IsTag report.request_tag
  pub response : IsTag report.response_tag

-- the tags of a line
pub record IsTagged (n : ℕ) (line : TraceLine) : Type 0 where
  pub number : IsTag n
  pub copy : IfSome (named_copy line.event) IsTag
  pub transit : IfSome (named_transit line.event) IsTag
  pub report : IfSome (out_report line.out) HasTags

-- the compact text of a node's line is read as its value
abbrev pub NodeTextsReadBack : Type 0
NodeTextsReadBack = (node : NodeSpec) → IsNode node → read (compact_text (node_data node)) ≡ Some (node_data node)

-- and so is the compact text of an event's line
abbrev pub EventTextsReadBack : Type 0
EventTextsReadBack =
    (n : ℕ) (line : TraceLine) → IsRecorded line → IsTagged n line
    → read (compact_text (event_data n line)) ≡ Some (event_data n line)

-- Each line that tells an event within its ranges is within its own.
abbrev pub EachToldLineIsRecorded : Premise → Type 0
EachToldLineIsRecorded premise =
    (network : Network) (event : Event) (earlier : Run) (line : TraceLine) → premise network (event ∷ earlier)
    → IsEvent event → TellsEvent network event earlier line → IsRecorded line

-- The tags of each line that tells an event have 64 bits, where the number of the event has.
abbrev pub EachToldLineIsTagged : Premise → Type 0
EachToldLineIsTagged premise =
    (network : Network) (event : Event) (earlier : Run) (line : TraceLine) → premise network (event ∷ earlier)
    → length earlier < 2 ^ 64 → TellsEvent network event earlier line → IsTagged (length earlier) line
