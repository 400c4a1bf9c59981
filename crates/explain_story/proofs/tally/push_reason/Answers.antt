use Rattle.explain_story.proofs.Counted.{line_told}
use Rattle.explain_story.proofs.tally.push_reason.Goals as goal

pub returns : goal.returns
returns c = line_told c.write.result c.args.why c.args.count c.code.result _ _ c.if-count-eq0.false c.code.ensures c.write.ensures.bytes
