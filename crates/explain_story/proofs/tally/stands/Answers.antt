use Rattle.std.proofs.Common.{◌==◌, ◌∙◌, arith, sym}
use Rattle.std.proofs.lemmas.Bool.{ne_eqb, eq-eqb}
use Rattle.trace_model.specs.declared.verdict.Why.{Why}
use Rattle.trace_model.specs.Refusal.{code_of}
use Rattle.explain_story.proofs.Counted.{any_here, any_later, any_none}
use Rattle.explain_story.proofs.tally.stands.Goals as goal

pub loop-why-preserved : goal.loop-why-preserved
loop-why-preserved c =
    any_later (λ (other : Why). code_of other == code_of c.args.reason) c.args.whys.now c.loop-why.why-index _ (omega arith)
    (ne_eqb _ _ (λ same. c.if-code.false (c.code.ensures ∙ same ∙ sym c.code-in-loop-why.ensures))) c.loop-why.invariant

pub returns-then-code : goal.returns-then-code
returns-then-code c =
    any_here (λ (other : Why). code_of other == code_of c.args.reason) c.args.whys.now c.loop-why.why-index _ (omega arith)
    (eq-eqb _ _ (sym c.code.ensures ∙ c.if-code.true ∙ c.code-in-loop-why.ensures)) c.loop-why.invariant

pub returns : goal.returns
returns c =
    any_none (λ (other : Why). code_of other == code_of c.args.reason) c.args.whys.now c.loop-why.why-index (omega arith)
    c.loop-why.invariant
