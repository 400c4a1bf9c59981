use Rattle.std.proofs.Common.{◌∙◌}
use Rattle.explain_findings.specs.Broken.{end_of}
use Rattle.explain_findings.specs.Known.{event_at, lines_of, named_at}
use Rattle.explain_findings.proofs.known.Known.end.Goals as goal

pub returns : goal.returns
returns c noted =
    c.end_of.ensures
    ∙ (λ i. end_of c.args.lack (c.event_at.ensures noted i) (c.named.ensures noted i))
    ∙ (λ i. end_of c.args.lack (event_at (lines_of c.args.self.now) c.args.by) (named_at (lines_of c.args.self.now) (c.number_of.ensures i)))
