use Rattle.std.proofs.Common.{◌∙◌}
use Rattle.explain_findings.specs.Misread.{read_in}
use Rattle.explain_findings.proofs.known.Known.wrong_reading.Goals as goal

pub returns : goal.returns
returns c noted =
    c.read_in.ensures ∙ (λ i. read_in (c.wrong_reading_at.ensures c.args.self.now.checker.now noted i))
