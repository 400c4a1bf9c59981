use Rattle.explain_story.proofs.Counted.{read_line_told}
use Rattle.explain_story.proofs.tally.push_read.Goals as goal

pub returns : goal.returns
returns c = read_line_told c.write.result c.args.messages c.messages_noun.result.now _ _ c.messages_noun.ensures c.write.ensures.bytes
