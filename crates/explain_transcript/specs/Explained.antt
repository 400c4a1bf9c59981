-- What `explain` answers and writes, by the input that it reads. Of the text that it writes is said what it tells of the
-- reports of a transcript, and what it tells at the end of an input without a fault.
use Rattle.std.specs.Prelude.{◌≡◌, ◌≢◌, ◌⊎◌, ℕ, ◌+◌, ◌==◌, Bool, true, false, List, [], ◌∷◌, ◌++◌, codes, if◌then◌else◌}
use Rattle.std.specs.Prelude.{Option, Some, None, Result, MatchResult, ⊤}
use Rattle.std.specs.Fmt.{decimal}
use Rattle.std.specs.Io.KnownBytes.{Appends}
use Rattle.std.specs.Option.{ForSome}
use Rattle.network_model.specs.declared.refusal.WorldRefusal.{WorldRefusal}
use Rattle.trace_model.specs.declared.verdict.Why.{Why}
use Rattle.text_lines.specs.declared.counted.Counted.{Counted}
use Rattle.text_lines.specs.declared.fault.Cause.{Cause}
use Rattle.text_lines.specs.declared.fault.Stopped.{Stopped}
use Rattle.text_lines.specs.declared.fault.Cause.TheVariants.{Reading, Task}
use Rattle.text_lines.specs.Counted.{device_of, failures_of, one_more, HasNotFailed, HasFailed, HasFailedIf}
use Rattle.text_lines.specs.Lines.{lines_limit, IsFromReading}
use Rattle.text_lines.specs.Task.{Rules, AnswersAll, AnswersUntil}
use Rattle.schedule_reading.specs.declared.fault.TaskFault.{TaskFault}
use Rattle.schedule_reading.specs.declared.fault.TaskFault.TheVariants.{Write, World, Memory}
use Rattle.schedule_reading.specs.declared.transcript.Judged.{Judged}
use Rattle.schedule_reading.specs.Fault.{is_write}
use Rattle.schedule_reading.specs.Verdict.{verdict_text}
use Rattle.explain_findings.specs.declared.reported.Reported.{Reported}
use Rattle.explain_story.specs.Counts.{counts_of, TellsCounts}
use Rattle.explain_story.specs.Report.{TellsReport}
use Rattle.explain_input.specs.declared.input.FoundInput.{FoundInput}
use Rattle.explain_input.specs.declared.input.FoundInput.TheVariants.{Transcript, Schedule}
use Rattle.explain_input.specs.declared.input.Input.{Input}
use Rattle.explain_input.specs.Input.{nothing, lines_in, Takes, Faults, IsFound, FaultsAtEnd}
use Rattle.explain_transcript.specs.declared.explaining.Explained.{Explained}
use Rattle.explain_transcript.specs.declared.explaining.Explained.TheVariants.{Whole, Flawed}
use Rattle.explain_transcript.specs.Judgements.{is_told}

-- whether only the first report that is refused is told; the lines up to the first that has a fault; the reasons against
-- each of their reports, newest first; and that fault with its line, where there was one
pub record Seen : Type 0 where
  pub first : Bool
  pub input : Input
  pub reports : List (List Why)
  pub fault : Option (ℕ × TaskFault)

-- the reasons against each report after one more line, in front those against its report, where it has one
abbrev pub with_report : Option Judged → List (List Why) → List (List Why)
with_report None reports = reports
with_report (Some judged) reports = judged.judgement.reasons ∷ reports

-- a report that was judged, as it is told
abbrev pub reported_of : Judged → Reported
reported_of judged = record {
  line = judged.line;
  event = judged.event;
  node = judged.node;
  report = judged.report;
  judgement = judged.judgement;
}

-- what is told of a report, by whether it is told
abbrev pub TellsIf : Bool → Reported → List ℕ → Type 0
TellsIf true reported told = TellsReport reported told
TellsIf false reported told = told ≡ []

-- what is told of a line after which the input is this: what its report is judged to be, where it has one that is told
abbrev pub TellsLine : Bool → Input → Option Judged → List ℕ → Type 0
TellsLine first later None told = told ≡ []
TellsLine first later (Some judged) told = TellsIf (is_told first judged.event later) (reported_of judged) told

-- A line that is taken, or the first one that isn't, of which anything may be told. Want of memory is no fault of a line:
-- it stops the looking at lines.
abbrev pub SeesFirst : List ℕ → (seen later : Seen) → Option (ℕ × TaskFault) → List ℕ → Type 0
SeesFirst line seen later None told =
    (judged : Option Judged) × Takes line seen.input later.input judged
    × (later.reports ≡ with_report judged seen.reports) × TellsLine seen.first later.input judged told
SeesFirst line seen later (Some (number, fault)) told =
    (number ≡ lines_in seen.input + 1) × (fault ≢ Memory) × Faults fault seen.input line
    × (later.input ≡ seen.input) × (later.reports ≡ seen.reports)

-- what one more line does: after the first fault nothing, and anything may be told of it
abbrev pub Sees : List ℕ → Option (ℕ × TaskFault) → (seen later : Seen) → List ℕ → Type 0
Sees line None seen later told = (later.first ≡ seen.first) × SeesFirst line seen later later.fault told
Sees line (Some found) seen later told = later ≡ seen

-- the answer at the end of lines without a fault: what the input is, or why its nodes are no network
abbrev pub IsAnswer : Input → Explained → Type 0
IsAnswer input (Whole found) = IsFound input found
IsAnswer input (Flawed line what) =
    (line ≡ lines_in input + 1) × (why : WorldRefusal) × (what ≡ World why) × FaultsAtEnd what input

-- the answer at the end: that, or the first fault
abbrev pub EndsIn : Input → Option (ℕ × TaskFault) → Explained → Type 0
EndsIn input None answer = IsAnswer input answer
EndsIn input (Some (line, what)) answer = answer ≡ Flawed line what

-- that a schedule of so many events happens, and what tells more
abbrev pub happening_text : ℕ → List ℕ
happening_text count =
    if count == 1
    then codes "a schedule of 1 event, which happens; 'ptpx replay' makes a transcript of it, which 'ptpx check' judges\n"
    else
    (codes "a schedule of " ++ decimal count
    ++ codes " events, which all happen; 'ptpx replay' makes a transcript of it, which 'ptpx check' judges\n")

-- what an input is: of a transcript its verdict, as `check` tells it
abbrev pub found_text : FoundInput → List ℕ
found_text (Transcript verdict) = codes "verdict: " ++ verdict_text verdict
found_text (Schedule count) = happening_text count

-- what is told of what an input is: of a transcript first how many reports there are, and how many fail which conditions
abbrev pub TellsFound : FoundInput → List (List Why) → List ℕ → Type 0
TellsFound (Transcript verdict) reports told =
    (counts : List ℕ) × TellsCounts (counts_of reports) counts × (told ≡ counts ++ found_text (Transcript verdict))
TellsFound (Schedule count) reports told = told ≡ found_text (Schedule count)

-- what is told at the end; after a fault anything may be
abbrev pub TellsEnd : Explained → List (List Why) → List ℕ → Type 0
TellsEnd (Whole found) reports told = TellsFound found reports told
TellsEnd (Flawed line what) reports told = ⊤

-- Each line is looked at, to the last. Only where the writer fails or memory is refused lines are looked at no further.
abbrev pub explain_rules : Rules Seen Explained TaskFault
explain_rules = record {
  lines_limit = lines_limit;
  Takes = λ line seen later written. Sees line seen.fault seen later written;
  Stops = λ line seen fault written. ((fault ≡ Write) ⊎ (fault ≡ Memory)) × (written ≡ []);
  Ends = λ lines seen answer written. EndsIn seen.input seen.fault answer × TellsEnd answer seen.reports written;
  StopsAtEnd = λ seen fault written. ((fault ≡ Write) ⊎ (fault ≡ Memory)) × (written ≡ []);
  is_of_writer = is_write;
}

-- no line was looked at
abbrev pub unseen : Bool → Seen
unseen first = record { first = first; input = nothing; reports = []; fault = None }

-- a text went out behind what was told, or the writer failed at it, by how many calls of it failed
abbrev pub WritesMore : (told after : Option (List ℕ)) → (failures failures' : ℕ) → Type 0
WritesMore told after failures failures' =
    ((failures' ≡ failures) × (text : List ℕ) × Appends told after text) ⊎ (failures' ≡ one_more failures)

-- Where this stopped it, what is told of the lines before went out, and nothing else; but where a line can't be read, a
-- text on that behind it.
abbrev pub ExplainsUntil : Bool → List ℕ → (left before after : Option (List ℕ)) → (failures failures' : ℕ) → ℕ
    → Cause TaskFault → Type 0
ExplainsUntil first octets left before after failures failures' line (Reading fault) =
    (told : Option (List ℕ)) × AnswersUntil explain_rules (unseen first) octets left before told line (Reading fault)
    × WritesMore told after failures failures'
ExplainsUntil first octets left before after failures failures' line (Task fault) =
    AnswersUntil explain_rules (unseen first) octets left before after line (Task fault)

-- what an answer over these octets says, of what is left of them, and of what was written by how many calls of the
-- writer failed
abbrev pub Explains : Bool → List ℕ → (left before after : Option (List ℕ)) → (failures failures' : ℕ)
    → Result Explained (Stopped (Cause TaskFault)) → Type 0
Explains first octets left before after failures failures' answer = MatchResult answer
    (AnswersAll explain_rules (unseen first) octets left before after)
    (λ stop. ExplainsUntil first octets left before after failures failures' stop.line stop.what)

-- what an answer says where the reader tells its octets, and where the writer does
abbrev pub ExplainsAnswer : {R W : Type 0} → Bool → (R → Option (List ℕ)) → (W → Option (List ℕ))
    → Result Explained (Stopped (Cause TaskFault))
    → (input input' : Counted R) (output output' : Counted W) → Type 0
ExplainsAnswer first remaining contents answer input input' output output' =
    ForSome (remaining (device_of input)) (λ octets.
    Explains first octets (remaining (device_of input')) (contents (device_of output)) (contents (device_of output'))
    (failures_of output) (failures_of output') answer)

-- Which of the two devices failed where this stopped it. After a fault of reading a text is written, which may fail.
abbrev pub HasFailedAt : {R W : Type 0} → Cause TaskFault
    → (input input' : Counted R) (output output' : Counted W) → Type 0
HasFailedAt (Reading fault) input input' output output' =
    IsFromReading fault input input' × (HasNotFailed output output' ⊎ HasFailed output output')
HasFailedAt (Task fault) input input' output output' =
    HasNotFailed input input' × HasFailedIf (is_write fault) output output'

-- which of the two devices failed at this answer
abbrev pub ExplainFailedWith : {R W : Type 0} → Result Explained (Stopped (Cause TaskFault))
    → (input input' : Counted R) (output output' : Counted W) → Type 0
ExplainFailedWith answer input input' output output' = MatchResult answer
    (λ _. HasNotFailed input input' × HasNotFailed output output')
    (λ stop. HasFailedAt stop.what input input' output output')
