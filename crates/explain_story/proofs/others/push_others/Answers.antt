use Rattle.explain_story.proofs.Counted.{others_told}
use Rattle.explain_story.proofs.others.push_others.Goals as goal

pub returns : goal.returns
returns c = others_told c.push_lines.result c.others.result c.came.result _ _ _ c.in_ok-push_count.ensures c.push_lines.ensures
