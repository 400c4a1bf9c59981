use Rattle.std.proofs.Common.{◌∙◌, ◌++◌, [], None, refl, sym, ap, subst}
use Rattle.std.proofs.KnownBytes.{Appends-nil, Appends-trans}
use Rattle.std.proofs.lemmas.Result.{err_from_is_err_and}
use Rattle.std.specs.Io.KnownBytes.{Appends}
use Rattle.text_lines.specs.Counted.{device_of}
use Rattle.result_audit.specs.Auditor.{Auditing, auditing_of, HandsOut}
use Rattle.result_audit.specs.Totals.{with_answer}
use Rattle.audit_command.specs.declared.task.AuditForm.{AuditForm}
use Rattle.audit_command.specs.declared.tally.Tally.{Tally}
use Rattle.audit_command.specs.declared.task.AuditTask.{AuditTask}
use Rattle.audit_command.specs.Audit.{HandsOn, text_of}
use Rattle.audit_command.proofs.Going.{said_more, hands_none, stops_behind}
use Rattle.audit_command.proofs.task.AuditTask.write_answers.Goals as goal

pub loop-answer-init : goal.loop-answer-init
loop-answer-init g c =
    let start = g.W.Write.contents (device_of c.args.output.now) in record {
      said = λ s at. (s, [], at, record { reading = refl; form = refl; answers = []; handed = refl; told = refl; totals = refl; texts = refl }, Appends-nil start);
      writer = refl;
    }

pub returns-in_err-write-clause-said : goal.returns-in_err-write-clause-said
returns-in_err-write-clause-said g c =
    let e = err_from_is_err_and c.from_residual.result c.from_residual.ensures.1 in
    rw (e.1, e.2) (λ s at.
    let (later, out, there, so_far, went) = c.loop-answer.invariant.said s at in
    stops_behind c.in_err-write.field-0.0 s later out c.in-Some.answer (auditing_of c.loop-answer.self.auditor) _ _ _ _ so_far there.audit
    c.in-Some.ensures went c.in_err-write.ensures.written)

pub loop-answer-preserved : goal.loop-answer-preserved
loop-answer-preserved g c =
    let a = g.W.Write.contents (device_of c.args.output.now) in
    let b = g.W.Write.contents (device_of c.loop-answer.output) in
    let d = g.W.Write.contents (device_of c.write.new.output) in
    let text = text_of c.loop-answer.self.form.is_table c.in-Some.answer in
    let written : Appends b d text = c.in_ok-write.ensures.written in
    let same = c.in_ok-write.ensures.others in record {
      said = λ s at.
          let (later, out, there, so_far, went) = c.loop-answer.invariant.said s at in
          let after : Auditing = auditing_of c.next_answer.new.self in
          let counts = c.take.ensures in
          let told = ap (λ (t : Tally). t.told) counts ∙ ap (λ (t : AuditTask). t.tally.told) same ∙ there.told in
          let tells = ap (λ (t : Tally). t.totals) counts ∙ ap (with_answer c.in-Some.answer)
          (ap (λ (t : AuditTask). t.tally.totals) same ∙ there.totals) in (
            record later { audit = after; totals = c.take.new.self.totals },
            out ++ text_of s.form.is_table c.in-Some.answer,
            record {
              reading = rw (ap (λ (t : AuditTask). t.measure) same) there.reading;
              asked = there.asked;
              audit = ap (λ (t : AuditTask). auditing_of t.auditor) same;
              form = ap (λ (t : AuditTask). t.form) same ∙ there.form;
              told = told;
              totals = refl;
            },
            said_more s later out c.in-Some.answer (auditing_of c.loop-answer.self.auditor) after c.take.new.self.totals so_far there.audit
                c.in-Some.ensures tells,
            Appends-trans a b d out (text_of s.form.is_table c.in-Some.answer) went
                (subst (λ (form : AuditForm). Appends b d (text_of form.is_table c.in-Some.answer)) (there.form ∙ so_far.form) written),
          );
      writer = c.in_ok-write.ensures.failures ∙ c.loop-answer.invariant.writer;
    }

pub returns-clause-said : goal.returns-clause-said
returns-clause-said g c = λ s at.
    let (later, out, there, so_far, went) = c.loop-answer.invariant.said s at in
    let before : Auditing = auditing_of c.loop-answer.self.auditor in
    let after : Auditing = auditing_of c.next_answer.new.self in
    let none : HandsOut before None after before.held = c.in_default.ensures in
    let same = hands_none before after before.held none in (
      record later { audit = after },
      out,
      record { reading = there.reading; asked = there.asked; audit = refl; form = there.form; told = there.told; totals = there.totals },
      record {
        reading = so_far.reading;
        goes = record {
          answers = so_far.answers;
          handed = (
            subst (λ (audit : Auditing). HandsOn so_far.answers s.audit audit) (sym (same ∙ there.audit)) so_far.handed,
            subst (λ (audit : Auditing). HandsOut audit None after audit.held) (sym same) none,
          );
          form = so_far.form;
          told = so_far.told;
          totals = so_far.totals;
          texts = so_far.texts;
        };
      },
      went,
    )
