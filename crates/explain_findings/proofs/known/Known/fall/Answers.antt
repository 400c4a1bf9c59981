use Rattle.std.proofs.Common.{◌∙◌}
use Rattle.explain_findings.specs.Misread.{fall_in}
use Rattle.explain_findings.proofs.known.Known.fall.Goals as goal

pub returns : goal.returns
returns c noted =
    c.fall_in.ensures
    ∙ (λ i. fall_in (c.reading.ensures i) (c.reading-2.ensures i) (c.named.ensures noted i) (c.place.ensures i))
