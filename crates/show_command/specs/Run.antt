-- How `show` runs.
use Rattle.std.specs.Prelude.{◌≡◌, ℕ, List, Option, Result, MatchResult}
use Rattle.text_lines.specs.declared.counted.Counted.{Counted}
use Rattle.text_lines.specs.declared.fault.Cause.{Cause}
use Rattle.text_lines.specs.declared.fault.Stopped.{Stopped}
use Rattle.text_lines.specs.declared.line_fault.LineFault.{LineFault}
use Rattle.text_lines.specs.Counted.{HasNotFailed}
use Rattle.text_lines.specs.Task.{FailedAt}
use Rattle.datagram_text.specs.Show.{ShowsAnswer, show_rules}
use Rattle.fault_report.specs.Status.{status_of}

-- which of the two devices failed at this answer
abbrev pub ShowFailedWith : {R W : Type 0} → Result ℕ (Stopped (Cause LineFault))
    → (input input' : Counted R) (output output' : Counted W) → Type 0
ShowFailedWith answer input input' output output' = MatchResult answer
    (λ _. HasNotFailed input input' × HasNotFailed output output')
    (λ stop. FailedAt show_rules stop.what input input' output output')

-- `show` ran: its answer gave the status, and says what was read and written
abbrev pub RunsShow : {R W : Type 0} → (R → Option (List ℕ)) → (W → Option (List ℕ)) → ℕ
    → (input input' : Counted R) (output output' : Counted W) → Type 0
RunsShow remaining contents status input input' output output' =
    (answer : Result ℕ (Stopped (Cause LineFault))) × (status ≡ status_of answer)
    × ShowFailedWith answer input input' output output' × ShowsAnswer remaining contents answer input input' output output'
