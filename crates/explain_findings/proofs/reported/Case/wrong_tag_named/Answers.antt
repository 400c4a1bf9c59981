use Rattle.std.proofs.Common.{◌∙◌}
use Rattle.explain_findings.specs.Broken.{number_of}
use Rattle.explain_findings.specs.Heard.{is_tagged, met_at}
use Rattle.explain_findings.specs.Known.{lines_of, place_at}
use Rattle.explain_findings.specs.Misplaced.{tag_lacks}
use Rattle.explain_findings.proofs.reported.Case.wrong_tag_named.Goals as goal

pub returns : goal.returns
returns c noted =
    c.tag_lacks.ensures
    ∙ (λ i. tag_lacks c.args.part c.args.lack (c.is_tagged.ensures i) (c.place.ensures i) (c.met.ensures noted i)
    c.args.self.now.reported.now.node)
    ∙ (λ i. tag_lacks c.args.part c.args.lack
    (is_tagged (lines_of c.args.self.now.known) c.args.self.now.reported.now.node c.args.part c.args.tag) (place_at (lines_of c.args.self.now.known) c.args.tag)
    (met_at (lines_of c.args.self.now.known) (c.number_of.ensures i) c.args.tag) c.args.self.now.reported.now.node)
