-- How `replay` and `check` run.
use Rattle.std.specs.Prelude.{◌≡◌, ℕ, List, Option, Result, Ok, Err}
use Rattle.text_lines.specs.declared.counted.Counted.{Counted}
use Rattle.trace_model.specs.declared.verdict.Verdict.{Verdict}
use Rattle.trace_model.specs.declared.verdict.Verdict.TheVariants.{Accepted, Refused}
use Rattle.transcript_text.specs.declared.fault.Fault.{Fault}
use Rattle.transcript_text.specs.CheckText.{ChecksAnswer}
use Rattle.transcript_text.specs.Fault.{FailedWith}
use Rattle.transcript_text.specs.Replay.{ReplaysAnswer}
use Rattle.fault_report.specs.Status.{status_of}

-- the exit status of `check`, by its answer
abbrev pub check_status : Result Verdict Fault → ℕ
check_status (Ok (Accepted count)) = 0
check_status (Ok (Refused number why)) = 1
check_status (Err fault) = 3

-- what an answer means of what is read and written
abbrev pub Meaning : (A R W : Type 0) → Type 1
Meaning A R W = Result A Fault → (input input' : Counted R) (output output' : Counted W) → Type 0

-- a subcommand ended in an answer, which gave the status
abbrev pub EndsIn : {A R W : Type 0} → (Result A Fault → ℕ) → Meaning A R W → ℕ
    → (input input' : Counted R) (output output' : Counted W) → Type 0
EndsIn {A} status_by Means status input input' output output' =
    (answer : Result A Fault) × (status ≡ status_by answer)
    × FailedWith answer input input' output output' × Means answer input input' output output'

-- `replay` ran: its answer gave the status, and says what was read and written
abbrev pub RunsReplay : {R W : Type 0} → (R → Option (List ℕ)) → (W → Option (List ℕ)) → ℕ
    → (input input' : Counted R) (output output' : Counted W) → Type 0
RunsReplay remaining contents = EndsIn status_of (ReplaysAnswer remaining contents)

-- `check` ran: its answer gave the status, and says what was read and written
abbrev pub RunsCheck : {R W : Type 0} → (R → Option (List ℕ)) → (W → Option (List ℕ)) → ℕ
    → (input input' : Counted R) (output output' : Counted W) → Type 0
RunsCheck remaining contents = EndsIn check_status (ChecksAnswer remaining contents)
