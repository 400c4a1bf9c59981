use Rattle.std.proofs.Common.{◌∙◌}
use Rattle.explain_findings.specs.Misread.{moment_in}
use Rattle.explain_findings.proofs.known.Known.true_moment.Goals as goal

pub returns : goal.returns
returns c noted = c.moment_in.ensures ∙ (λ i. moment_in (c.event_at.ensures noted i))
