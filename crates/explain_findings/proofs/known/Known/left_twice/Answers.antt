use Rattle.explain_findings.specs.declared.broken.Broken.TheVariants as broken
use Rattle.explain_findings.proofs.known.Known.left_twice.Goals as goal

pub returns : goal.returns
returns c noted = λ i. broken.LeftTwice c.args.part (c.place.ensures i) (c.place-2.ensures i) (c.named.ensures noted i)
