-- What `check_text` answers and writes, by the transcript that it reads.
use Rattle.std.specs.Prelude.{◌≡◌, ℕ, List, [], ◌∷◌, ◌++◌, length, map, Option, Some, None}
use Rattle.std.specs.Prelude.{Result, Ok, ⊤}
use Rattle.network_model.specs.Network.{Network}
use Rattle.network_model.specs.Clash.{first_clash}
use Rattle.trace_model.specs.declared.verdict.Verdict.{Verdict}
use Rattle.trace_model.specs.Line.{Lines}
use Rattle.trace_model.specs.Verdict.{verdict}
use Rattle.schedule_lines.specs.declared.reading.transcript.TranscriptLine.{TranscriptLine}
use Rattle.transcript_text.specs.declared.fault.Fault.{Fault}
use Rattle.schedule_reading.specs.declared.fault.TaskFault.{TaskFault}
use Rattle.schedule_reading.specs.declared.fault.TaskFault.TheVariants.{Write, World, Memory}
use Rattle.schedule_reading.specs.Entry.{recorded_in}
use Rattle.schedule_reading.specs.Fault.{is_write}
use Rattle.schedule_reading.specs.Verdict.{verdict_text}
use Rattle.schedule_reading.specs.Transcript.{Recorded, Follows, FaultsInTranscript, nothing}
use Rattle.text_lines.specs.declared.counted.Counted.{Counted}
use Rattle.text_lines.specs.Lines.{lines_limit, AreRead}
use Rattle.text_lines.specs.Task.{Rules, AnswersAll}
use Rattle.transcript_text.specs.Answer.{SaysUntil, Says, SaysAnswer}
use Rattle.transcript_text.specs.Fault.{of_task}
use Rattle.schedule_lines.specs.declared.reading.transcript.TranscriptLine.TheVariants as recorded

-- lines, of which the first has this number, are these nodes and recorded events in turn
abbrev pub AreRecorded : ℕ → List (List ℕ) → List TranscriptLine → Type 0
AreRecorded = AreRead recorded_in lines_limit

-- what was recorded of events, the oldest first, each with its place among them for a number
abbrev pub numbered : Lines → List TranscriptLine
numbered [] = []
numbered (line ∷ earlier) = numbered earlier ++ recorded.Event (length earlier) line ∷ []

-- a transcript: its nodes, and then what was recorded of events
abbrev pub transcript_of : Network → Lines → List TranscriptLine
transcript_of nodes lines = map recorded.Node nodes ++ numbered lines

-- the fault at the end of a transcript: there was no event and the nodes are no network, or the verdict can't be made
-- or written
abbrev pub FaultsAtTranscriptEnd : TaskFault → Network → Lines → Type 0
FaultsAtTranscriptEnd (World why) nodes lines = (lines ≡ []) × (first_clash nodes ≡ Some why)
FaultsAtTranscriptEnd Write nodes lines = first_clash nodes ≡ None
FaultsAtTranscriptEnd Memory nodes lines = ⊤
FaultsAtTranscriptEnd fault nodes lines = ⊥

-- Each line is a node, or an event with its place among the events for a number. Only the verdict is written.
abbrev pub check_rules : Rules Recorded Verdict TaskFault
check_rules = record {
  lines_limit = lines_limit;
  Takes = λ line state later written. (entry : TranscriptLine) × (recorded_in line ≡ Ok entry)
      × Follows entry state later × (written ≡ []);
  Stops = λ line state fault written. FaultsInTranscript fault state.nodes state.lines line × (written ≡ []);
  Ends = λ lines state answer written.
      (first_clash state.nodes ≡ None) × (answer ≡ verdict state.nodes state.lines) × (written ≡ verdict_text answer);
  StopsAtEnd = λ state fault written. FaultsAtTranscriptEnd fault state.nodes state.lines × (written ≡ []);
  is_of_writer = is_write;
}

-- all lines of an input of these octets are a transcript, and the input is at its end
abbrev pub ChecksAll : List ℕ → (left before after : Option (List ℕ)) → Verdict → Type 0
ChecksAll = AnswersAll check_rules nothing

-- the lines before a fault are the beginning of a transcript; nothing went out, but where the writer failed
abbrev pub ChecksUntil : List ℕ → (left before after : Option (List ℕ)) → Fault → Type 0
ChecksUntil = SaysUntil of_task check_rules nothing

-- what an answer of `check_text` over these octets says, of what is left of them and of what was written
abbrev pub Checks : List ℕ → (left before after : Option (List ℕ)) → Result Verdict Fault → Type 0
Checks = Says of_task check_rules nothing

-- what an answer of `check_text` says where the reader tells its octets, and where the writer does
abbrev pub ChecksAnswer : {R W : Type 0} → (R → Option (List ℕ)) → (W → Option (List ℕ)) → Result Verdict Fault
    → (input input' : Counted R) (output output' : Counted W) → Type 0
ChecksAnswer = SaysAnswer of_task check_rules nothing
