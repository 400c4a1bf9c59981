-- What is read of an input in front of what is behind results.
use Rattle.std.specs.Prelude.{◌≡◌, ◌≢◌, ◌⊎◌, ℕ, ◌≤◌, false, List, [], ◌∷◌, ◌++◌, length, Option, Some, Result, Ok, Err}
use Rattle.std.specs.Io.KnownBytes.{Appends, Consumes, IsAtEnd, prepend_known}
use Rattle.text_lines.specs.declared.fault.Cause.{Cause}
use Rattle.text_lines.specs.declared.fault.ReadingFault.{ReadingFault}
use Rattle.text_lines.specs.declared.fault.ReadingFault.TheVariants.{Read, LineTooLong, TooManyLines}
use Rattle.text_lines.specs.declared.fault.Stopped.{Stopped}
use Rattle.text_lines.specs.declared.line_fault.LineFault.{LineFault}
use Rattle.text_lines.specs.Lines.{line_limit, after_lines}
use Rattle.text_lines.specs.Inner.Reading.{IsUnended}
use Rattle.capture_file.specs.declared.beginning.Beginning.{Beginning}
use Rattle.capture_file.specs.Beginning.{AreEnough, first_octets}
use Rattle.capture_file.specs.Task as packets
use Rattle.datagram_source.specs.declared.input.InputOutcome.{InputOutcome}
use Rattle.datagram_source.specs.declared.input.InputOutcome.TheVariants.{Lines, Capture}
use Rattle.datagram_source.specs.Left.{LeavesCapture}
use Rattle.datagram_source.specs.Rules.{packet_rules}
use Rattle.audit_command.specs.declared.ending.Ending.{Ending}
use Rattle.audit_command.specs.declared.task.AuditTask.{AuditTask}
use Rattle.audit_command.specs.Audit.{Audited, audit_rules}
use Rattle.audit_command.specs.AuditLines.{LinesRead, is_told}
use Rattle.audit_command.specs.Ending.{IsEnding}
use Rattle.audit_command.specs.Input.{HasTold, StopsInFront, FailsAhead, AnswersLines}
use Rattle.audit_command.specs.Inner.Task.{IsAt}

-- the rest of a line was read behind its start: up to an LF or the end of the input, or until the reader failed or the line was too long
abbrev pub ReadsRest : {T : Type 0} → Result T ReadingFault → (start line : List ℕ) → (before after : Option (List ℕ)) → Type 0
ReadsRest (Ok x) start line before after = (more : List ℕ) × (line ≡ start ++ more) × IsUnended line × (length line ≤ line_limit)
    × (Consumes (prepend_known start before) after (line ++ 10 ∷ [])
    ⊎ (Consumes (prepend_known start before) after line × IsAtEnd after))
ReadsRest (Err Read) start line before after =
    (more : List ℕ) × (line ≡ start ++ more) × IsUnended line × (length line ≤ line_limit) × Consumes (prepend_known start before) after line
ReadsRest (Err LineTooLong) start line before after = (more : List ℕ) × (line ≡ start ++ more) × IsUnended line × (length line ≡ line_limit)
    × (x : ℕ) × (x ≢ 10) × Consumes (prepend_known start before) after (line ++ x ∷ [])
ReadsRest (Err TooManyLines) start line before after = ⊥

-- the results in front were taken, so many, and this begins what is behind them
pub record LeavesFront (s : Audited) (octets : List ℕ) (beginning : Beginning) (count : ℕ) (task : AuditTask)
    (left before after : Option (List ℕ)) : Type 0 where
  pub state : Audited
  pub at : IsAt task state
  pub text : List ℕ
  pub told : HasTold s octets (record { count = count; state = state }) text
  pub output : Appends before after text
  pub other : is_told (after_lines count octets) ≡ false
  pub rest : List ℕ
  pub input : left ≡ Some rest
  pub behind : after_lines count octets ≡ first_octets beginning ++ rest
  pub enough : AreEnough (first_octets beginning) left

-- one of them stopped it, or the reader failed behind them
abbrev pub StopsFront : Audited → List ℕ → (left before after : Option (List ℕ)) → Stopped (Cause LineFault) → Type 0
StopsFront s octets left before after stop =
    StopsInFront s octets left before after stop
    ⊎ ((r : LinesRead) × (text : List ℕ) × HasTold s octets r text × Appends before after text
    × FailsAhead r.count (after_lines r.count octets) left stop)

-- what came of lines behind results, and of a capture
abbrev pub LinesAnswer : LinesRead → List ℕ → (left before after : Option (List ℕ)) → InputOutcome LineFault → (ending : Ending) → Type 0
LinesAnswer r behind left before after (Lines answer) ending = AnswersLines r behind left before after answer ending
LinesAnswer r behind left before after (Capture answer) ending = ⊥

abbrev pub CaptureAnswers : Audited → List ℕ → (left before after : Option (List ℕ)) → InputOutcome LineFault → (ending : Ending) → Type 0
CaptureAnswers s behind left before after (Lines answer) ending = ⊥
CaptureAnswers s behind left before after (Capture answer) ending =
    packets.Answers (packet_rules audit_rules) s behind left before after answer
    × LeavesCapture audit_rules s behind answer (λ ended. IsEnding ended ending)
