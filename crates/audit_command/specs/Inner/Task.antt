-- What is kept while results are judged.
use Rattle.std.specs.Prelude.{◌≡◌, ⊤, true, List, [], ℕ, Option, Result, MatchResult}
use Rattle.std.specs.Io.KnownBytes.{Appends}
use Rattle.text_lines.specs.declared.line_fault.LineFault.{LineFault}
use Rattle.text_lines.specs.declared.line_fault.LineFault.TheVariants.{Write, Field, Memory}
use Rattle.text_lines.specs.Fault.{is_write}
use Rattle.text_lines.specs.Task.{WentOut}
use Rattle.recording_measure.specs.Fresh.{hands_on}
use Rattle.recording_measure.specs.Measure.{Recording, handed_on}
use Rattle.recording_measure.specs.Inner.Task.{IsTask}
use Rattle.result_audit.specs.Auditor.{Auditing, auditing_of, passed_by}
use Rattle.result_audit.specs.declared.answer.Answer.{Answer}
use Rattle.audit_command.specs.declared.task.AuditTask.{AuditTask}
use Rattle.audit_command.specs.Audit.{Audited, GoesOut, HandsOn, StopsSaying, TakesFresh, texts_of, totals_with}

-- what is kept is that of this
pub record IsAt (task : AuditTask) (s : Audited) : Type 0 where
  pub reading : IsTask task.measure s.reading
  pub asked : hands_on s.reading.form ≡ true
  pub audit : auditing_of task.auditor ≡ s.audit
  pub form : task.form ≡ s.form
  pub told : task.tally.told ≡ s.told
  pub totals : task.tally.totals ≡ s.totals

-- a fault of what is written, not of a line
abbrev pub IsOfOutput : LineFault → Type 0
IsOfOutput Write = ⊤
IsOfOutput Field = ⊥
IsOfOutput Memory = ⊤

-- a text went out, or nothing of it before a fault
abbrev pub GoesAtOnce : {T : Type 0} → Result T LineFault → List ℕ → (before after : Option (List ℕ)) → Type 0
GoesAtOnce result text before after = MatchResult result
    (λ _. Appends before after text)
    (λ fault. IsOfOutput fault × WentOut (is_write fault) (Appends before after []))

-- some of what may be said was
pub record SaidSoFar (s later : Audited) (out : List ℕ) : Type 0 where
  pub reading : later.reading ≡ s.reading
  pub form : later.form ≡ s.form
  pub answers : List Answer
  pub handed : HandsOn answers s.audit later.audit
  pub told : later.told ≡ s.told
  pub totals : later.totals ≡ totals_with answers s.totals
  pub texts : out ≡ texts_of s.form.is_table answers

-- from one to another, where this went out
abbrev pub Goes : (By : Audited → Audited → List ℕ → Type 0) → (old new : AuditTask) → (before after : Option (List ℕ)) → Type 0
Goes By old new before after =
    (s : Audited) → IsAt old s → (later : Audited) × (out : List ℕ) × IsAt new later × By s later out × Appends before after out

-- it stops so, and this went out before
abbrev pub Stops : (At : Audited → LineFault → List ℕ → Type 0) → LineFault → (old : AuditTask) → (before after : Option (List ℕ)) → Type 0
Stops At fault old before after =
    (s : Audited) → IsAt old s → (out : List ℕ) × At s fault out × WentOut (is_write fault) (Appends before after out)

-- the one or the other
abbrev pub GoesOr : {T : Type 0} → Result T LineFault → (By : Audited → Audited → List ℕ → Type 0)
    → (At : Audited → LineFault → List ℕ → Type 0) → (old new : AuditTask) → (before after : Option (List ℕ)) → Type 0
GoesOr result By At old new before after = MatchResult result
    (λ _. Goes By old new before after)
    (λ fault. Stops At fault old before after)

-- what may be said goes out, and what is measured stays
pub record Says (s later : Audited) (out : List ℕ) : Type 0 where
  pub reading : later.reading ≡ s.reading
  pub goes : GoesOut s s.audit later out

-- or it stops
abbrev pub SaysInPart : Audited → LineFault → List ℕ → Type 0
SaysInPart s fault out = StopsSaying s.form.is_table s.audit fault out

-- the reports that weren't handed on were taken, and the datagrams up to this number were measured
pub record TakesNew (number : ℕ) (old new : AuditTask) : Type 0 where
  pub mid : Auditing
  pub taken : (r : Recording) → IsTask old.measure r → hands_on r.form ≡ true → TakesFresh r (auditing_of old.auditor) mid
  pub audit : auditing_of new.auditor ≡ passed_by number mid
  pub reading : (r : Recording) → IsTask old.measure r → hands_on r.form ≡ true → IsTask new.measure (handed_on r)
  pub form : new.form ≡ old.form
  pub tally : new.tally ≡ old.tally
