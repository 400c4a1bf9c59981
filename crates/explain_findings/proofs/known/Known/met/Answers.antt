use Rattle.explain_findings.proofs.known.Known.met.Goals as goal

pub returns : goal.returns
returns c noted = λ i. record { named = c.named.ensures noted i; heard = c.heard.ensures i }
