use Rattle.explain_findings.proofs.known.Known.uncounted.Goals as goal

pub returns : goal.returns
returns c noted = c.uncounted_at.ensures c.args.self.now.checker.now noted
