use Rattle.std.proofs.Common.{ap, pos, unsigned_abs, inl, inr, rules, FitsSigned, ◌∙◌}
use Rattle.std.specs.Int.{w128}
use Rattle.std.proofs.Output.{has_written_of_eq}
use Rattle.std.proofs.lemmas.Int.{to_z-of_z}
use Rattle.result_verdict.proofs.Shown.{shown}
use Rattle.result_verdict.proofs.difference.DifferenceDisplay.fmt.Goals.{then-self-lt0, else-self-lt0, then-parts-eq0}
use Rattle.result_verdict.proofs.difference.DifferenceDisplay.fmt.Goals.{else-parts-eq0}
use Rattle.result_verdict.proofs.difference.DifferenceDisplay.fmt.Goals as goal

pub returns-clause-writes : goal.returns-clause-writes
returns-clause-writes g c = λ plain ok.
    let fits : FitsSigned w128 c.self.inside.nanoseconds = search rules in
    let fits-2 : FitsSigned w128 c.size.inside.nanoseconds = search rules in
    has_written_of_eq _ _ _ _ _
    (shown c.self.inside.parts c.size.inside.parts c.if-parts-eq0.point.now c.self.inside.nanoseconds c.size.inside.nanoseconds
    c.args.self.now c.unsigned_abs-whole.result c.if-self-lt0.sign.now c.size.invariant.below c.self.view_is
    (c.size.view_is ∙ c.size-size.ensures ∙ ap (λ z. pos (unsigned_abs z)) c.self.view_is)
    (simp to_z-of_z at c.unsigned_abs-whole.ensures.value)
    (elim c.if-self-lt0.branch [
      | then-self-lt0 w ↦ inl (simp to_z-of_z at w.if-self-lt0.true, ap (λ s. s.now) w.sign-is)
      | else-self-lt0 w ↦ inr (simp to_z-of_z at w.if-self-lt0.false, ap (λ s. s.now) w.sign-is)
    ])
    (elim c.if-parts-eq0.branch [
      | then-parts-eq0 w ↦ inl (w.if-parts-eq0.true, ap (λ s. s.now) w.point-is)
      | else-parts-eq0 w ↦ inr (w.if-parts-eq0.false, ap (λ s. s.now) w.point-is)
    ]))
    (c.write.ensures.writes plain ok)
