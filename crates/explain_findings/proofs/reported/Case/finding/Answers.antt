use Rattle.explain_findings.proofs.reported.Case.finding.Goals as goal

pub returns : goal.returns
returns c noted = c.finding.ensures noted
