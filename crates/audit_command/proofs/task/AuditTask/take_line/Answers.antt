use Rattle.std.proofs.Common.{[], inl, inr, true, refl, subst}
use Rattle.std.proofs.lemmas.Result.{err_from_is_err_and}
use Rattle.text_lines.specs.Counted.{device_of}
use Rattle.audit_command.specs.Audit.{TakesTold, StopsTold}
use Rattle.audit_command.specs.Audit.{Audited}
use Rattle.audit_command.specs.AuditLines.{IsNoResult, IsResult, StopsAs, TakesAs}
use Rattle.audit_command.specs.Inner.Task.{IsAt}
use Rattle.audit_command.specs.declared.task.AuditForm.{AuditForm}
use Rattle.audit_command.proofs.Going.{mapped, went_none}
use Rattle.audit_command.proofs.task.AuditTask.take_line.Goals as goal

pub returns-in_err-told-clause-taken : goal.returns-in_err-told-clause-taken
returns-in_err-told-clause-taken g c =
    let e = err_from_is_err_and c.from_residual.result c.from_residual.ensures.1 in
    rw (e.1, e.2) (λ s at. (
      [],
      inl (subst (λ (form : AuditForm). IsNoResult c.in_err-told.field-0.0 form.has_path c.args.number c.args.line.now) at.form c.in_err-told.ensures, refl),
      went_none c.in_err-told.field-0.0 c.args.self.now.form.has_path c.args.number c.args.line.now _ c.in_err-told.ensures,
    ))

pub returns-clause-taken : goal.returns-clause-taken
returns-clause-taken g c =
    let told = c.in_ok-told.told in
    let is : (s : Audited) → IsAt c.args.self.now s → IsResult s.form.has_path c.args.number c.args.line.now told =
    λ s at. subst (λ (form : AuditForm). IsResult form.has_path c.args.number c.args.line.now told) at.form c.in_ok-told.ensures in
    mapped c.take_told.result (TakesTold told) (TakesAs true c.args.number c.args.line.now) (StopsTold told)
    (StopsAs true c.args.number c.args.line.now) c.args.self.now (record c.args.self.now { scratch = c.read_line.new.scratch }) c.take_told.new.self
    (g.W.Write.contents (device_of c.args.output.now)) (g.W.Write.contents (device_of c.take_told.new.output))
    (λ s at. (
      s,
      record { reading = at.reading; asked = at.asked; audit = at.audit; form = at.form; told = at.told; totals = at.totals },
      λ later out takes. (told, is s at, takes),
      λ fault out stops. inr (told, is s at, stops),
    )) c.take_told.ensures.taken
