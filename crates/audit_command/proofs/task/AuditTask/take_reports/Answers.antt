use Rattle.std.proofs.Common.{◌∙◌, inl, inr, ap, refl, subst}
use Rattle.std.proofs.lemmas.Result.{err_from_is_err_and}
use Rattle.text_lines.specs.Counted.{device_of}
use Rattle.recording_measure.specs.Measure.{handed_on}
use Rattle.result_audit.specs.Auditor.{Auditing, passed_by}
use Rattle.audit_command.specs.Audit.{TakesFresh, TakesReports, StopsReports}
use Rattle.audit_command.specs.Inner.Task.{Says, SaysInPart}
use Rattle.audit_command.proofs.Going.{mapped, without_memory}
use Rattle.audit_command.proofs.task.AuditTask.take_reports.Goals as goal

pub returns-in_err-take_new-clause-taken : goal.returns-in_err-take_new-clause-taken
returns-in_err-take_new-clause-taken g c =
    let e = err_from_is_err_and c.from_residual.result c.from_residual.ensures.1 in
    without_memory c.from_residual.result e.0 (TakesReports c.args.number) (StopsReports c.args.number) c.args.self.now _ _ e.1 e.2
    (λ s at. inl (refl, refl))

pub returns-clause-taken : goal.returns-clause-taken
returns-clause-taken g c =
    let taken = c.in_ok-take_new.ensures in
    mapped c.write_answers.result Says (TakesReports c.args.number) SaysInPart (StopsReports c.args.number) c.args.self.now
    c.take_new.new.self c.write_answers.new.self
    (g.W.Write.contents (device_of c.args.output.now)) (g.W.Write.contents (device_of c.write_answers.new.output))
    (λ s at.
    let fresh = subst (λ (audit : Auditing). TakesFresh s.reading audit taken.mid) at.audit (taken.taken s.reading at.reading at.asked) in (
      record s { reading = handed_on s.reading; audit = passed_by c.args.number taken.mid },
      record {
        reading = taken.reading s.reading at.reading at.asked;
        asked = at.asked;
        audit = taken.audit;
        form = taken.form ∙ at.form;
        told = ap (λ tally. tally.told) taken.tally ∙ at.told;
        totals = ap (λ tally. tally.totals) taken.tally ∙ at.totals;
      },
      λ later out says. record {
        reading = says.reading;
        mid = taken.mid;
        taken = fresh;
        goes = record {
          answers = says.goes.answers;
          handed = says.goes.handed;
          form = says.goes.form;
          told = says.goes.told;
          totals = says.goes.totals;
          texts = says.goes.texts;
        };
      },
      λ fault out stops. inr (taken.mid, fresh, stops),
    )) c.write_answers.ensures.said
