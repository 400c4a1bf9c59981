-- A fault of the lines is told by its own kind, at its line.
use Rattle.std.proofs.Common.{rules}
use Rattle.std.proofs.lemmas.Result.{err_from_is_err_and}
use Rattle.schedule_reading.specs.Transcript.{nothing}
use Rattle.transcript_text.proofs.checking.check_text.Goals as goal

pub returns-in_err-answer_lines-clause-checked : goal.returns-in_err-answer_lines-clause-checked
returns-in_err-answer_lines-clause-checked g c =
    let fault = err_from_is_err_and c.from_residual.result c.from_residual.ensures.1 in
    λ octets known.
    let until = c.in_err-answer_lines.ensures.answered nothing (search rules) octets known in
    rw fault.1 (c.in_err-answer_lines.field-0.0.what, fault.2.1, rw (← fault.2.0) at until)
