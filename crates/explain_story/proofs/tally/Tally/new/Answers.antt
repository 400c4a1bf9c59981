use Rattle.explain_story.proofs.Counted.{counts_none}
use Rattle.explain_story.proofs.tally.Tally.new.Goals as goal

pub returns : goal.returns
returns c = counts_none c.none.result c.none.ensures
