use Rattle.explain_findings.specs.declared.mispaired.Mispaired.TheVariants.{NoFollowUp}
use Rattle.explain_findings.proofs.known.Known.no_follow_up.Goals as goal

pub returns : goal.returns
returns c noted = λ i. NoFollowUp (c.sent.ensures noted i)
