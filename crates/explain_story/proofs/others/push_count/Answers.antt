use Rattle.explain_story.proofs.Counted.{others_line_told}
use Rattle.explain_story.proofs.others.push_count.Goals as goal

pub returns : goal.returns
returns c = others_line_told c.write.result c.args.others c.args.came _ _ c.if-others-eq0.false c.write.ensures.bytes
