use Rattle.std.proofs.Common.{◌∙◌, ℕ, ap, subst}
use Rattle.std.proofs.lemmas.Result.{on_ok_weaker}
use Rattle.result_audit.specs.declared.coverage.Coverage.{Coverage}
use Rattle.result_audit.specs.Coverage.{with_half}
use Rattle.result_audit.specs.Auditor.{Auditing, auditing_of, settled, passed_by, TakesReportNow}
use Rattle.result_audit.proofs.auditor.Auditor.take.Goals as goal

pub returns : goal.returns
returns c = on_ok_weaker c.settle.result (λ is.
    subst (λ (a : Auditing). TakesReportNow c.args.at.now a (auditing_of c.settle.new.self))
    (c.in_ok-pass.ensures ∙ ap (λ (number : ℕ). passed_by number (auditing_of c.args.self.now)) c.saturating_sub.ensures) (
      c.take-gaps.new.self,
      c.take-gaps.result,
      c.take-gaps.ensures,
      is ∙ ap (λ (it : Coverage). settled (record (auditing_of c.learn_gaps.new.self) { coverage = it })) c.take.ensures
          ∙ ap (λ (a : Auditing). settled (record a { coverage = with_half c.args.at.now.by c.take-gaps.result.sync a.coverage })) c.in_ok-learn_gaps.ensures,
    )) c.settle.ensures
