use Rattle.explain_findings.specs.declared.broken.Broken.TheVariants as broken
use Rattle.explain_findings.proofs.known.Known.stops.Goals as goal

pub returns : goal.returns
returns c noted = λ i. broken.Stops c.args.part (c.named.ensures noted i) (c.end.ensures noted i)
