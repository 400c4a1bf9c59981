-- No reason, and so all conditions.
use Rattle.trace_model.proofs.Soundness.{reasons_miss_nothing}
use Rattle.trace_model.proofs.laws.reasons_miss_nothing.Goals as goal

pub returns : goal.returns
returns c = reasons_miss_nothing
