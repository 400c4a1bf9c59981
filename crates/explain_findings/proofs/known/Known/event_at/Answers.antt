use Rattle.std.proofs.Common.{◌∙◌}
use Rattle.explain_findings.specs.Known.{event_in}
use Rattle.explain_findings.proofs.known.Known.event_at.Goals as goal

pub returns : goal.returns
returns c noted = c.event_in.ensures ∙ (λ i. event_in (c.line_at.ensures i) (c.uncounted.ensures noted i))
