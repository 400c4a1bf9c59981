use Rattle.std.proofs.Common.{◌∙◌, [], ap}
use Rattle.std.proofs.KnownBytes.{Appends-nil}
use Rattle.std.proofs.lemmas.Result.{err_from_is_err_and}
use Rattle.text_lines.specs.Counted.{device_of}
use Rattle.result_audit.specs.Auditor.{Auditing, at_end}
use Rattle.audit_command.specs.Audit.{Ends, audit_rules}
use Rattle.audit_command.specs.Inner.Task.{Says, SaysInPart}
use Rattle.audit_command.proofs.Going.{mapped, matched, never_field, nothing_said}
use Rattle.audit_command.proofs.task.AuditTaskDatagramTask.finish.Goals as goal

pub returns-in_err-end-clause-ended : goal.returns-in_err-end-clause-ended
returns-in_err-end-clause-ended g c =
    let e = err_from_is_err_and c.from_residual.result c.from_residual.ensures.1 in
    rw (e.1, e.2) (λ s at. ([], nothing_said s.form.is_table (at_end s.audit), Appends-nil _))

pub returns-clause-ended : goal.returns-clause-ended
returns-clause-ended g c = λ s at.
    let before = g.W.Write.contents (device_of c.args.output.now) in
    let after = g.W.Write.contents (device_of c.write_answers.new.output) in
    matched c.write_answers.result Ends audit_rules.StopsAtEnd c.args.self.now c.write_answers.new.self before after s at
    (mapped c.write_answers.result Says Ends SaysInPart audit_rules.StopsAtEnd c.args.self.now
    (record c.args.self.now { auditor = c.end.new.self }) c.write_answers.new.self before after
    (λ s at. (
      record s { audit = at_end s.audit },
      record {
        reading = at.reading;
        asked = at.asked;
        audit = c.in_ok-end.ensures ∙ ap (λ (a : Auditing). at_end a) at.audit;
        form = at.form;
        told = at.told;
        totals = at.totals;
      },
      λ later out says. record {
        reading = says.reading;
        goes = record {
          answers = says.goes.answers;
          handed = says.goes.handed;
          form = says.goes.form;
          told = says.goes.told;
          totals = says.goes.totals;
          texts = says.goes.texts;
        };
      },
      λ fault out stops. stops,
    )) c.write_answers.ensures.said)

pub returns-clause-kept : goal.returns-clause-kept
returns-clause-kept g c = λ what is field s at. absurd (never_field c.write_answers.result what Says SaysInPart
    (record c.args.self.now { auditor = c.end.new.self }) c.write_answers.new.self
    (g.W.Write.contents (device_of c.args.output.now)) (g.W.Write.contents (device_of c.write_answers.new.output))
    (record s { audit = at_end s.audit })
    (record {
      reading = at.reading;
      asked = at.asked;
      audit = c.in_ok-end.ensures ∙ ap (λ (a : Auditing). at_end a) at.audit;
      form = at.form;
      told = at.told;
      totals = at.totals;
    }) (λ out stops. stops) c.write_answers.ensures.said is field)
