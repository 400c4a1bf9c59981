use Rattle.std.proofs.Common.{◌∙◌, ap, sym}
use Rattle.explain_findings.specs.Known.{lines_of}
use Rattle.explain_findings.specs.Misplaced.{tag_if}
use Rattle.explain_findings.proofs.reported.Case.wrong_tag.Goals as goal

pub returns-in-Some : goal.returns-in-Some
returns-in-Some c noted =
    c.wrong_tag_named.ensures noted
    ∙ ap (tag_if (lines_of c.args.self.now.known) c.args.self.now.reported.now c.args.part c.args.lack)
    (sym c.in-Some.is ∙ c.tag_of.ensures)
