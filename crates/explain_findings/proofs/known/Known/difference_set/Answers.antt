use Rattle.std.proofs.Common.{◌∙◌, ap, sym}
use Rattle.explain_findings.specs.Known.{lines_of}
use Rattle.explain_findings.specs.Misread.{difference_in, difference_set}
use Rattle.explain_findings.proofs.known.Known.difference_set.Goals as goal

pub returns-in-Some : goal.returns-in-Some
returns-in-Some c noted =
    c.difference_in.ensures ∙ (λ i. difference_in (c.event_at.ensures noted i))
    ∙ ap (difference_set (lines_of c.args.self.now)) (sym c.in-Some.is)
