-- A transcript that is read line by line: its nodes, what was recorded of events, and what its reports are judged to be.
use Rattle.std.specs.Prelude.{◌≡◌, ◌≢◌, ◌⊎◌, ℕ, ◌+◌, List, [], ◌∷◌, ◌++◌, length, Option, Some, None, option_map}
use Rattle.std.specs.Prelude.{Ok, Err, ⊤}
use Rattle.slave_port.specs.declared.heard.Report.{Report}
use Rattle.network_model.specs.Network.{Network}
use Rattle.network_model.specs.Clash.{first_clash}
use Rattle.trace_model.specs.declared.line.TraceLine.{TraceLine}
use Rattle.trace_model.specs.Line.{Lines}
use Rattle.trace_model.specs.Record.{line_place, site}
use Rattle.trace_model.specs.Sound.{judgement}
use Rattle.trace_model.specs.Verdict.{report_in}
use Rattle.schedule_lines.specs.declared.reading.transcript.TranscriptLine.{TranscriptLine}
use Rattle.schedule_lines.specs.declared.reading.transcript.TranscriptLine.TheVariants as recorded
use Rattle.schedule_reading.specs.declared.fault.TaskFault.{TaskFault}
use Rattle.schedule_reading.specs.declared.fault.TaskFault.TheVariants.{Json, Field, World, Memory}
use Rattle.schedule_reading.specs.declared.transcript.Judged.{Judged}
use Rattle.schedule_reading.specs.Entry.{recorded_in}

-- the nodes of a transcript so far, and what was recorded of events, newest first
pub record Recorded : Type 0 where
  pub nodes : Network
  pub lines : Lines

-- no node and no event
abbrev pub nothing : Recorded
nothing = record { nodes = []; lines = [] }

-- what a node or a recorded event does
abbrev pub Follows : TranscriptLine → (state later : Recorded) → Type 0
Follows (recorded.Node node) state later =
    (state.lines ≡ []) × (later ≡ record { nodes = state.nodes ++ node ∷ []; lines = [] })
Follows (recorded.Event number line) state later =
    (number ≡ length state.lines) × (first_clash state.nodes ≡ None)
    × (later ≡ record { nodes = state.nodes; lines = line ∷ state.lines })

-- what the report of a line after these nodes and events is judged to be; each of them stands in a line of the input
abbrev pub judged_of : Recorded → TraceLine → Report → Judged
judged_of state line report = record {
  line = length state.nodes + length state.lines + 1;
  event = length state.lines;
  node = site (line_place line state.lines);
  report = report;
  judgement = judgement state.nodes (line_place line state.lines) report;
}

-- the same, where an entry has a report
abbrev pub judged_in : Recorded → TranscriptLine → Option Judged
judged_in state (recorded.Node node) = None
judged_in state (recorded.Event number line) = option_map (judged_of state line) (report_in line.out)

-- an entry follows, and this is its report
abbrev pub TakesAt : TranscriptLine → (state later : Recorded) → Option Judged → Type 0
TakesAt entry state later judged = Follows entry state later × (judged ≡ judged_in state entry)

-- a line is an entry that follows, and this is its report
abbrev pub Takes : List ℕ → (state later : Recorded) → Option Judged → Type 0
Takes line state later judged = (entry : TranscriptLine) × (recorded_in line ≡ Ok entry)
    × TakesAt entry state later judged

-- after these events this doesn't stand where it should: a node after an event, or an event with another number than
-- its place
abbrev pub IsOutOfPlace : Lines → TranscriptLine → Type 0
IsOutOfPlace lines (recorded.Node node) = lines ≢ []
IsOutOfPlace lines (recorded.Event number line) = number ≢ length lines

-- Why an entry isn't taken: it is out of place, or it is the first event and the nodes are no network. Where memory is
-- refused, nothing is known of the entry.
abbrev pub StopsAt : TaskFault → Recorded → TranscriptLine → Type 0
StopsAt Field state entry = IsOutOfPlace state.lines entry
StopsAt (World why) state entry =
    (first : TraceLine) × (entry ≡ recorded.Event 0 first) × (state.lines ≡ []) × (first_clash state.nodes ≡ Some why)
StopsAt Memory state entry = ⊤
StopsAt fault state entry = ⊥

-- The fault of a line after these nodes and events, where the line itself was read. Where memory is refused, nothing is
-- known of the line.
abbrev pub FaultsInTranscript : TaskFault → Network → Lines → List ℕ → Type 0
FaultsInTranscript Json nodes lines line = recorded_in line ≡ Err Json
FaultsInTranscript Field nodes lines line =
    (recorded_in line ≡ Err Field) ⊎ ((entry : TranscriptLine) × (recorded_in line ≡ Ok entry)
    × IsOutOfPlace lines entry)
FaultsInTranscript (World why) nodes lines line =
    (first : TraceLine) × (recorded_in line ≡ Ok (recorded.Event 0 first)) × (lines ≡ [])
    × (first_clash nodes ≡ Some why)
FaultsInTranscript Memory nodes lines line = ⊤
FaultsInTranscript fault nodes lines line = ⊥

-- why no checker takes what was recorded: there was no event yet and the nodes are no network, or memory was refused
abbrev pub HasNoChecker : TaskFault → Recorded → Type 0
HasNoChecker (World why) state = (state.lines ≡ []) × (first_clash state.nodes ≡ Some why)
HasNoChecker Memory state = ⊤
HasNoChecker fault state = ⊥
