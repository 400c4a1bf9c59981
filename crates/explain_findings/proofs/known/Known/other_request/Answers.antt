use Rattle.explain_findings.specs.declared.mispaired.Mispaired.TheVariants.{OtherRequest}
use Rattle.explain_findings.proofs.known.Known.other_request.Goals as goal

pub returns : goal.returns
returns c noted = λ i. OtherRequest (c.sent.ensures noted i) (c.sent-2.ensures noted i)
