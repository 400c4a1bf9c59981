-- What `explain` answers, beside what `check_text` and `replay` answer over the same octets. Left out are faults of a device
-- and want of memory. `laws::judgements_have_one_answer`, `laws::judges_as_checked` and `laws::explains_as_checked` promise
-- it.
use Rattle.std.specs.Prelude.{◌≡◌, ◌⊎◌, ℕ, ◌<◌, Bool, true, false, List, Option, Result, Ok, Err}
use Rattle.std.specs.Result.{result_map_both}
use Rattle.text_lines.specs.declared.fault.Cause.{Cause}
use Rattle.text_lines.specs.declared.fault.Cause.TheVariants.{Task}
use Rattle.text_lines.specs.declared.fault.Stopped.{Stopped}
use Rattle.text_lines.specs.Lines.{lines_of}
use Rattle.schedule_reading.specs.declared.fault.TaskFault.{TaskFault}
use Rattle.transcript_text.specs.declared.fault.Fault.{Fault}
use Rattle.transcript_text.specs.CheckText.{Checks}
use Rattle.transcript_text.specs.Fault.{kind_at, task_kind}
use Rattle.transcript_text.specs.OneAnswer.{IsOfInput, HasOneAnswer}
use Rattle.transcript_text.specs.Replay.{Replays}
use Rattle.explain_input.specs.declared.input.FoundInput.{FoundInput}
use Rattle.explain_input.specs.declared.input.FoundInput.TheVariants.{Transcript, Schedule}
use Rattle.explain_input.specs.Input.{is_schedule}
use Rattle.explain_transcript.specs.declared.explaining.Explained.{Explained}
use Rattle.explain_transcript.specs.declared.explaining.Explained.TheVariants.{Whole, Flawed}
use Rattle.explain_transcript.specs.Explained.{Explains}
use Rattle.explain_transcript.specs.Judgements.{Judges}

-- Two answers of `write_judgements` over the same octets are the same, leave the same octets, and wrote one text.
abbrev pub JudgementsHaveOneAnswer : Type 0
JudgementsHaveOneAnswer = (first : Bool) → HasOneAnswer task_kind (Judges first)

-- a fault at its line, by its kind
abbrev pub fault_told : Stopped (Cause TaskFault) → Fault
fault_told stop = record { line = stop.line; what = task_kind stop }

-- this and that answer are the same, where what one finds is told so: the verdict or the number of events, or the fault
-- at its line
abbrev pub IsSame : {A : Type 0} → (A → FoundInput) → Result FoundInput (Stopped (Cause TaskFault)) → Result A Fault → Type 0
IsSame of said answer =
    result_map_both (λ found. found) fault_told said ≡ result_map_both of (λ fault. fault) answer

-- what a call says of octets, of what is left of them and of what was written, where it answers this
abbrev pub Answering : Type 0 → Type 1
Answering A = List ℕ → (left before after : Option (List ℕ)) → Result A Fault → Type 0

-- Over octets of which this says whether they are a schedule, `write_judgements` and another call have the same answer,
-- and leave the same octets.
abbrev pub EachIsJudgedSo : {A : Type 0} → Bool → (A → FoundInput) → Answering A → Type 0
EachIsJudgedSo {A} schedule of Says =
    (first : Bool) (octets : List ℕ) (left before after left' before' after' : Option (List ℕ))
    (said : Result FoundInput (Stopped (Cause TaskFault))) (answer : Result A Fault)
    → is_schedule (lines_of octets) ≡ schedule → Judges first octets left before after said
    → Says octets left' before' after' answer → IsOfInput task_kind said → IsOfInput kind_at answer
    → IsSame of said answer × (left' ≡ left)

-- So have it and `check_text` over what is no schedule, and it and `replay` over a schedule.
pub record JudgesAsChecked : Type 0 where
  pub transcript : EachIsJudgedSo false Transcript Checks
  pub schedule : EachIsJudgedSo true Schedule Replays

-- An answer of `explain` beside this one: what it finds, or its first fault, is the same. Since text is looked at behind
-- the first fault, too, a line that can't be read may stand behind the fault of the other answer.
abbrev pub IsBeside : {A : Type 0} → (A → FoundInput) → Result Explained (Stopped (Cause TaskFault)) → Result A Fault → Type 0
IsBeside of (Ok (Whole found)) answer = IsSame of (Ok found) answer
IsBeside of (Ok (Flawed line what)) answer = IsSame of (Err (record { line = line; what = Task what })) answer
IsBeside of (Err stop) answer =
    IsSame of (Err stop) answer ⊎ ((fault : Fault) × (answer ≡ Err fault) × (fault.line < stop.line))

-- Over octets of which this says whether they are a schedule, `explain` answers so beside another call.
abbrev pub EachIsExplainedSo : {A : Type 0} → Bool → (A → FoundInput) → Answering A → Type 0
EachIsExplainedSo {A} schedule of Says =
    (first : Bool) (octets : List ℕ) (left before after left' before' after' : Option (List ℕ)) (failures failures' : ℕ)
    (said : Result Explained (Stopped (Cause TaskFault))) (answer : Result A Fault)
    → is_schedule (lines_of octets) ≡ schedule → Explains first octets left before after failures failures' said
    → Says octets left' before' after' answer → IsOfInput task_kind said → IsOfInput kind_at answer
    → IsBeside of said answer

-- So does it beside `check_text` over what is no schedule, and beside `replay` over a schedule.
pub record ExplainsAsChecked : Type 0 where
  pub transcript : EachIsExplainedSo false Transcript Checks
  pub schedule : EachIsExplainedSo true Schedule Replays
