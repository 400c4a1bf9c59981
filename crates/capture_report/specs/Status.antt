-- Exit statuses of what reads lines or a capture.
use Rattle.std.specs.Prelude.{ℕ, Bool, ◌==◌, ◌&&◌, if◌then◌else◌}
use Rattle.datagram_source.specs.declared.input.InputOutcome.{InputOutcome}
use Rattle.datagram_source.specs.declared.input.InputOutcome.TheVariants.{Lines, Capture}
use Rattle.fault_report.specs.Status.{status_of}

-- by what came of the input alone
abbrev pub outcome_status : {F : Type 0} → InputOutcome F → ℕ
outcome_status (Lines answer) = status_of answer
outcome_status (Capture answer) = status_of answer

-- 1 where what is asked for isn't so, and nothing gives another
abbrev pub judged : ℕ → (is_refused : Bool) → ℕ
judged status is_refused = if status == 0 && is_refused then 1 else status
