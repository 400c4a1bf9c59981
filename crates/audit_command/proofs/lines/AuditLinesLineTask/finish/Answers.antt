use Rattle.std.proofs.lemmas.Result.{err_from_is_err_and}
use Rattle.audit_command.proofs.lines.AuditLinesLineTask.finish.Goals as goal

pub returns-clause-ended : goal.returns-clause-ended
returns-clause-ended g c = λ r at.
    let (later, out, there, ends, went) = c.in_ok-finish.ensures.ended r.state at.1 in
    (out, record { count = at.0; later = later; ends = ends; ending = c.ending.ensures later there }, went)

pub returns-in_err-finish-clause-ended : goal.returns-in_err-finish-clause-ended
returns-in_err-finish-clause-ended g c =
    let e = err_from_is_err_and c.from_residual.result c.from_residual.ensures.1 in
    rw (e.1, e.2) (λ r at. c.in_err-finish.ensures.ended r.state at.1)
