-- How `explain` runs.
use Rattle.std.specs.Prelude.{◌≡◌, ℕ, Bool, true, false, ◌&&◌, List, Option, Result, Ok, Err, MatchResult, if◌then◌else◌}
use Rattle.text_lines.specs.declared.counted.Counted.{Counted}
use Rattle.text_lines.specs.declared.fault.Cause.{Cause}
use Rattle.text_lines.specs.declared.fault.Cause.TheVariants.{Reading, Task}
use Rattle.text_lines.specs.declared.fault.Stopped.{Stopped}
use Rattle.text_lines.specs.Counted.{is_unread, HasNotFailed}
use Rattle.text_lines.specs.Task.{FailedAt}
use Rattle.trace_model.specs.declared.verdict.Verdict.TheVariants.{Accepted, Refused}
use Rattle.schedule_reading.specs.declared.fault.TaskFault.{TaskFault}
use Rattle.schedule_reading.specs.Fault.{is_write}
use Rattle.explain_input.specs.declared.input.FoundInput.{FoundInput}
use Rattle.explain_input.specs.declared.input.FoundInput.TheVariants.{Transcript, Schedule}
use Rattle.explain_transcript.specs.declared.explaining.Explained.{Explained}
use Rattle.explain_transcript.specs.declared.explaining.Explained.TheVariants.{Whole, Flawed}
use Rattle.explain_transcript.specs.Explained.{ExplainsAnswer, ExplainFailedWith}
use Rattle.explain_transcript.specs.Judgements.{JudgesAnswer, judgement_rules}
use Rattle.command_options.specs.declared.ExplainOptions.{ExplainOptions}

-- the exit status of `explain` over a whole input: that of `check` or of `replay`
abbrev pub found_status : FoundInput → ℕ
found_status (Transcript (Accepted count)) = 0
found_status (Transcript (Refused number why)) = 1
found_status (Schedule events) = 0

-- whether the writer failed at this
abbrev pub is_of_output : Cause TaskFault → Bool
is_of_output (Reading fault) = false
is_of_output (Task fault) = is_write fault

-- the exit status of `explain` where this stopped it: it is done where a write failed since nobody reads what is written
abbrev pub stopped_status : {W : Type 0} → Counted W → Cause TaskFault → ℕ
stopped_status output what = if is_of_output what && is_unread output then 0 else 3

-- the exit status of `explain --json`, by its answer and what became of the writer
abbrev pub judging_status : {W : Type 0} → Counted W → Result FoundInput (Stopped (Cause TaskFault)) → ℕ
judging_status output (Ok found) = found_status found
judging_status output (Err stop) = stopped_status output stop.what

-- the exit status of `explain`, by its answer and what became of the writer
abbrev pub explaining_status : {W : Type 0} → Counted W → Result Explained (Stopped (Cause TaskFault)) → ℕ
explaining_status output (Ok (Whole found)) = found_status found
explaining_status output (Ok (Flawed line what)) = 3
explaining_status output (Err stop) = stopped_status output stop.what

-- which of the two devices failed at this answer of `explain --json`
abbrev pub JudgingFailedWith : {R W : Type 0} → Result FoundInput (Stopped (Cause TaskFault))
    → (input input' : Counted R) (output output' : Counted W) → Type 0
JudgingFailedWith answer input input' output output' = MatchResult answer
    (λ _. HasNotFailed input input' × HasNotFailed output output')
    (λ stop. FailedAt judgement_rules stop.what input input' output output')

-- `explain` ran, as JSON or as text: its answer gave the status, and says what was read and written
abbrev pub RunsForm : {R W : Type 0} → Bool → (R → Option (List ℕ)) → (W → Option (List ℕ)) → ExplainOptions → ℕ
    → (input input' : Counted R) (output output' : Counted W) → Type 0
RunsForm true remaining contents options status input input' output output' =
    (answer : Result FoundInput (Stopped (Cause TaskFault))) × (status ≡ judging_status output' answer)
    × JudgingFailedWith answer input input' output output'
    × JudgesAnswer options.first remaining contents answer input input' output output'
RunsForm false remaining contents options status input input' output output' =
    (answer : Result Explained (Stopped (Cause TaskFault))) × (status ≡ explaining_status output' answer)
    × ExplainFailedWith answer input input' output output'
    × ExplainsAnswer options.first remaining contents answer input input' output output'

-- `explain` ran by these options: its answer gave the status, and says what was read and written
abbrev pub RunsExplain : {R W : Type 0} → (R → Option (List ℕ)) → (W → Option (List ℕ)) → ExplainOptions → ℕ
    → (input input' : Counted R) (output output' : Counted W) → Type 0
RunsExplain remaining contents options status input input' output output' =
    RunsForm options.json remaining contents options status input input' output output'
