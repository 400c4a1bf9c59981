use Rattle.explain_findings.proofs.known.Known.sent.Goals as goal

pub returns : goal.returns
returns c noted = λ i. record { numbered = c.numbered.ensures i; named = c.named.ensures noted i }
