use Rattle.std.proofs.Common.{Bool, List, arith, rules, subst}
use Rattle.std.specs.Prelude.{codes}
use Rattle.trace_model.specs.declared.verdict.Why.{Why}
use Rattle.explain_story.specs.Report.{TellsReasons}
use Rattle.explain_story.proofs.Told.{reasons_all, told_more}
use Rattle.explain_story.proofs.refused.Refused.push_reasons.Goals as goal

pub loop-why-preserved : goal.loop-why-preserved
loop-why-preserved c =
    let so_far = c.loop-why.invariant in
    let (met, below, is) = c.in_ok-push_lines.ensures in
    let more = told_more c.is_as_told-equal.result c.loop-why.lead.now so_far.told met _ _ _ _ c.as_slice-reasons.result.now c.loop-why.why-index _ (omega arith)
    below so_far.text c.in_ok-push_reason.ensures is so_far.tells in
    record { lead = search rules; told = more.told; text = more.text; tells = more.tells }

pub returns : goal.returns
returns c =
    let so_far = c.loop-why.invariant in
    let all = reasons_all c.is_as_told-equal.result c.loop-why.lead.now so_far.told c.as_slice-reasons.result.now c.loop-why.why-index (omega arith) so_far.tells in
    let of_all = subst (λ (whys : List Why). TellsReasons c.is_as_told-equal.result (codes "refused, ") whys so_far.told)
    c.as_slice-reasons.ensures all in (
      so_far.told,
      subst (λ (equal : Bool). TellsReasons equal (codes "refused, ") c.args.self.now.case.reported.now.judgement.reasons so_far.told)
          c.is_as_told-equal.ensures of_all,
      so_far.text,
    )
