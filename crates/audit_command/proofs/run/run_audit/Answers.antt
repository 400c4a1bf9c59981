use Rattle.std.proofs.Common.{◌∙◌, inl, inr, ℕ, ℤ, false, Err, List, refl, ap, subst}
use Rattle.text_lines.specs.declared.fault.Cause.TheVariants as causes
use Rattle.text_lines.specs.declared.line_fault.LineFault.TheVariants.{Memory}
use Rattle.datagram_source.specs.declared.input.InputOutcome.TheVariants.{Lines}
use Rattle.std.specs.Prelude.{Bool, None, not}
use Rattle.result_audit.specs.Auditor.{Begins}
use Rattle.audit_command.specs.Audit.{Audited, audit_begun}
use Rattle.audit_command.specs.Input.{AnswersAudit, head_text}
use Rattle.capture_report.specs.Status.{judged, outcome_status}
use Rattle.result_audit.specs.Totals.{no_answers}
use Rattle.audit_command.specs.Run.{wanted_of}
use Rattle.audit_command.proofs.run.run_audit.Goals as goal

pub returns-in_default : goal.returns-in_default
returns-in_default g c = (
  Lines (Err (record { line = 0; what = causes.Task Memory })),
  record { results = 0; totals = no_answers; without_result = 0; is_own = false; aside = None },
  c.finish_input.ensures,
  (refl, refl),
  inl (record { stopped = refl; unread = refl; unwritten = refl }),
)

pub returns : goal.returns
returns g c =
    let ended = c.audit-ended in
    let (a, begins, at) = c.new-task.ensures in
    let start : ℤ → Audited = λ t. audit_begun (wanted_of c.args.options)
    (record { tolerance = t; has_path = not c.args.options.offset_only; is_table = c.args.options.csv }) a in (
      ended.result.outcome,
      ended.result.ending,
      c.judged.ensures
          ∙ ap (λ (status : ℕ). judged status c.is_wrong.result) c.finish_input-status.ensures
          ∙ ap (λ (is_wrong : Bool). judged (outcome_status ended.result.outcome) is_wrong) c.is_wrong.ensures,
      ended.ensures.failures,
      inr (
        a,
        subst (λ (t : ℤ). Begins t a) c.in-Ok.ensures begins,
        subst (λ (t : ℤ). AnswersAudit (head_text c.args.options.csv) (start t) g.R.Read.remaining g.W.Write.contents
            ended.result.outcome ended.result.ending c.args.input.now ended.new.input c.args.output.now ended.new.output) c.in-Ok.ensures
            (subst (λ (head : List ℕ). AnswersAudit head (start c.in-Ok.tolerance) g.R.Read.remaining g.W.Write.contents
            ended.result.outcome ended.result.ending c.args.input.now ended.new.input c.args.output.now ended.new.output) c.head.ensures
            (ended.ensures.answered (start c.in-Ok.tolerance) at)),
      ),
    )
