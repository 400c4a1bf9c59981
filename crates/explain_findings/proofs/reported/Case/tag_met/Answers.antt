use Rattle.std.proofs.Common.{◌∙◌, ap, sym}
use Rattle.std.specs.Prelude.{Some}
use Rattle.explain_findings.specs.Known.{lines_of}
use Rattle.explain_findings.specs.Misplaced.{tag_met}
use Rattle.explain_findings.proofs.reported.Case.tag_met.Goals as goal

pub returns-in-Some : goal.returns-in-Some
returns-in-Some c noted =
    (λ i. Some (c.met.ensures noted i)) ∙ ap (tag_met (lines_of c.args.self.now.known)) (sym c.in-Some.is ∙ c.heard_tag.ensures)
