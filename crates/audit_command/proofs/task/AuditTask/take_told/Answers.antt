use Rattle.std.proofs.Common.{◌∙◌, ap}
use Rattle.std.proofs.lemmas.Result.{err_from_is_err_and}
use Rattle.text_lines.specs.Counted.{device_of}
use Rattle.result_audit.specs.Auditor.{Auditing, with_told}
use Rattle.result_audit.specs.Coverage.{one_more}
use Rattle.audit_command.specs.declared.tally.Tally.{Tally}
use Rattle.audit_command.specs.Audit.{TakesTold, StopsTold}
use Rattle.audit_command.specs.Inner.Task.{Says, SaysInPart}
use Rattle.audit_command.proofs.Going.{mapped, nothing_said, without_memory}
use Rattle.audit_command.proofs.task.AuditTask.take_told.Goals as goal

pub returns-in_err-take_told-clause-taken : goal.returns-in_err-take_told-clause-taken
returns-in_err-take_told-clause-taken g c =
    let e = err_from_is_err_and c.from_residual.result c.from_residual.ensures.1 in
    without_memory c.from_residual.result e.0 (TakesTold c.args.told) (StopsTold c.args.told) c.args.self.now _ _ e.1 e.2
    (λ s at. nothing_said s.form.is_table (with_told c.args.told s.audit))

pub returns-clause-taken : goal.returns-clause-taken
returns-clause-taken g c =
    mapped c.write_answers.result Says (TakesTold c.args.told) SaysInPart (StopsTold c.args.told) c.args.self.now
    (record c.args.self.now { auditor = c.take_told.new.self; tally = c.count_told.new.self }) c.write_answers.new.self
    (g.W.Write.contents (device_of c.args.output.now)) (g.W.Write.contents (device_of c.write_answers.new.output))
    (λ s at. (
      record s { audit = with_told c.args.told s.audit; told = one_more s.told },
      record {
        reading = at.reading;
        asked = at.asked;
        audit = c.in_ok-take_told.ensures ∙ ap (λ (a : Auditing). with_told c.args.told a) at.audit;
        form = at.form;
        told = ap (λ (t : Tally). t.told) c.count_told.ensures ∙ ap one_more at.told;
        totals = ap (λ (t : Tally). t.totals) c.count_told.ensures ∙ at.totals;
      },
      λ later out says. record {
        reading = says.reading;
        goes = record {
          answers = says.goes.answers;
          handed = says.goes.handed;
          form = says.goes.form;
          told = says.goes.told;
          totals = says.goes.totals;
          texts = says.goes.texts;
        };
      },
      λ fault out stops. stops,
    )) c.write_answers.ensures.said
