use Rattle.std.proofs.Common.{◌∙◌}
use Rattle.explain_findings.specs.Misplaced.{unstamped_in}
use Rattle.explain_findings.proofs.reported.Case.unstamped.Goals as goal

pub returns : goal.returns
returns c noted =
    c.unstamped_in.ensures
    ∙ (λ i. unstamped_in c.args.self.now.reported.now.report.request_tag c.args.self.now.reported.now.report.response_tag
    (c.place.ensures i) (c.named_if.ensures noted i))
