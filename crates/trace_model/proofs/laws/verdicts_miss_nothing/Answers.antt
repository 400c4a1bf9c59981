-- Each report line is sound, so all lines are accepted.
use Rattle.trace_model.proofs.Complete.{complete}
use Rattle.trace_model.proofs.laws.verdicts_miss_nothing.Goals as goal

pub returns : goal.returns
returns c = complete
