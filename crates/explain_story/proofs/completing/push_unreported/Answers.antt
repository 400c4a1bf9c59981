use Rattle.explain_story.proofs.Counted.{unreported_told}
use Rattle.explain_story.proofs.completing.push_unreported.Goals as goal

pub returns : goal.returns
returns c = unreported_told c.write.result c.args.count c.noun.result.now _ _ c.if-count-eq0.false c.noun.ensures c.write.ensures.bytes
