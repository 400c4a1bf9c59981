-- What the lines of an input are: a transcript or a schedule. Nodes alone are a transcript; from the first event on that
-- has no record of what came of it the input is a schedule.
use Rattle.std.specs.Prelude.{◌≡◌, ◌⊎◌, ℕ, ◌+◌, ◌==◌, Bool, true, false, List, [], ◌∷◌, length, Option, Some, None}
use Rattle.std.specs.Prelude.{Result, Ok, Err, IsOk, ⊤}
use Rattle.network_model.specs.declared.event.Event.{Event}
use Rattle.network_model.specs.Clash.{first_clash}
use Rattle.network_model.specs.Outcome.{outcome_of}
use Rattle.network_model.specs.Run.{Run}
use Rattle.world_model.specs.State.{State, new_state, after}
use Rattle.trace_model.specs.declared.verdict.Verdict.{Verdict}
use Rattle.trace_model.specs.declared.verdict.Verdict.TheVariants as verdicts
use Rattle.trace_model.specs.Verdict.{verdict}
use Rattle.text_lines.specs.Lines.{without_cr}
use Rattle.schedule_lines.specs.declared.reading.schedule.Line.{Line}
use Rattle.schedule_lines.specs.declared.reading.schedule.Line.TheVariants as entries
use Rattle.schedule_lines.specs.declared.reading.transcript.TranscriptLine.{TranscriptLine}
use Rattle.schedule_reading.specs.declared.fault.TaskFault.{TaskFault}
use Rattle.schedule_reading.specs.declared.fault.TaskFault.TheVariants.{Write, Memory}
use Rattle.schedule_reading.specs.declared.transcript.Judged.{Judged}
use Rattle.schedule_reading.specs.Entry.{entry_in}
use Rattle.schedule_reading.specs.Schedule.{FaultsIn}
use Rattle.schedule_reading.specs.Transcript as transcripts
use Rattle.explain_input.specs.declared.input.FoundInput.{FoundInput}
use Rattle.explain_input.specs.declared.input.FoundInput.TheVariants as found
use Rattle.explain_input.specs.declared.input.Input.{Input}
use Rattle.explain_input.specs.declared.input.Input.TheVariants.{Transcript, Schedule}

-- the same of this entry and lines behind it
abbrev pub is_schedule_from : Result Line TaskFault → Bool → Bool
is_schedule_from (Ok (entries.Node node)) behind = behind
is_schedule_from (Ok (entries.Event event)) behind = true
is_schedule_from (Err fault) behind = false

-- whether lines are a schedule: the first that isn't a node is an event that has no record of what came of it
abbrev pub is_schedule : List (List ℕ) → Bool
is_schedule [] = false
is_schedule (line ∷ lines) = is_schedule_from (entry_in (without_cr line)) (is_schedule lines)

-- no line was read
abbrev pub nothing : Input
nothing = Transcript transcripts.nothing

-- how many lines were read
abbrev pub lines_in : Input → ℕ
lines_in (Transcript state) = length state.nodes + length state.lines
lines_in (Schedule state) = length state.network + length state.run

-- the events of a schedule so far, newest first; none of a transcript
abbrev pub run_in : Input → Run
run_in (Transcript state) = []
run_in (Schedule state) = state.run

-- an event happens
abbrev pub Happens : Event → (state later : State) → Type 0
Happens event state later = (first_clash state.network ≡ None)
    × IsOk (outcome_of state.network state.run event) × (later ≡ after event state)

-- a line is an event that happens
abbrev pub TakesEvent : List ℕ → (state later : State) → Type 0
TakesEvent line state later =
    (event : Event) × (entry_in line ≡ Ok (entries.Event event)) × Happens event state later

-- with this line a schedule begins: it is an event without what came of it, and no event stands before it
abbrev pub BeginsSchedule : List ℕ → transcripts.Recorded → Event → Type 0
BeginsSchedule line state event = (state.lines ≡ []) × (entry_in line ≡ Ok (entries.Event event))

-- one more line, with what its report is judged to be, where it has one
abbrev pub Takes : List ℕ → (input later : Input) → Option Judged → Type 0
Takes line (Transcript state) (Transcript later) judged = transcripts.Takes line state later judged
Takes line (Transcript state) (Schedule later) judged = (event : Event) × BeginsSchedule line state event
    × Happens event (new_state state.nodes) later × (judged ≡ None)
Takes line (Schedule state) (Schedule later) judged = TakesEvent line state later × (judged ≡ None)
Takes line (Schedule state) (Transcript later) judged = ⊥

-- one more line of a transcript is this entry; of a schedule there is none
abbrev pub Enters : Option TranscriptLine → (input later : Input) → Type 0
Enters (Some entry) (Transcript state) (Transcript later) = transcripts.Follows entry state later
Enters None input (Schedule later) = ⊤
Enters _ _ _ = ⊥

-- The fault of a line of an input: of the first event of a schedule by what `replay` asks for, of other lines by what the
-- input is so far. Where memory is refused, nothing is known of the line.
abbrev pub Faults : TaskFault → Input → List ℕ → Type 0
Faults Memory input line = ⊤
Faults Write input line = ⊥
Faults fault (Transcript state) line =
    ((event : Event) × BeginsSchedule line state event × FaultsIn fault state.nodes [] line)
    ⊎ (((event : Event) → BeginsSchedule line state event → ⊥)
    × transcripts.FaultsInTranscript fault state.nodes state.lines line)
Faults fault (Schedule state) line = FaultsIn fault state.network state.run line

-- whether a verdict names the line of this number
abbrev pub names_line : ℕ → Verdict → Bool
names_line number (verdicts.Accepted count) = false
names_line number (verdicts.Refused line why) = line == number

-- whether the event of this number gave the first report that is refused, by an input up to that event
abbrev pub is_first_refused : ℕ → Input → Bool
is_first_refused number (Transcript state) = names_line number (verdict state.nodes state.lines)
is_first_refused number (Schedule state) = false

-- what a whole input is
abbrev pub IsFound : Input → FoundInput → Type 0
IsFound (Transcript state) answer =
    (first_clash state.nodes ≡ None) × (answer ≡ found.Transcript (verdict state.nodes state.lines))
IsFound (Schedule state) answer = answer ≡ found.Schedule (length state.run)

-- the fault at the end: there was no event, and the nodes are no network or memory is refused
abbrev pub FaultsAtEnd : TaskFault → Input → Type 0
FaultsAtEnd fault (Transcript state) = (state.lines ≡ []) × transcripts.HasNoChecker fault state
FaultsAtEnd fault (Schedule state) = ⊥
