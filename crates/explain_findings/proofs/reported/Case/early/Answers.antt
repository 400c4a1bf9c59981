use Rattle.std.proofs.Common.{◌∙◌}
use Rattle.explain_findings.specs.Known.{lines_of, named_if_at}
use Rattle.explain_findings.specs.OtherMaster.{early_in}
use Rattle.explain_findings.proofs.reported.Case.early.Goals as goal

pub returns : goal.returns
returns c noted =
    c.early_in.ensures ∙ (λ i. early_in c.args.early (c.named_if.ensures noted i))
    ∙ (λ i. early_in c.args.early (named_if_at (lines_of c.args.self.now.known) (c.early_tag.ensures i)))
