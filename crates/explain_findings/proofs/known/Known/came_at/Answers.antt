use Rattle.std.proofs.Common.{◌∙◌}
use Rattle.explain_findings.specs.Known.{came_in}
use Rattle.explain_findings.proofs.known.Known.came_at.Goals as goal

pub returns : goal.returns
returns c noted = c.came_in.ensures ∙ (λ i. came_in (c.uncounted.ensures noted i))
