-- The same, by what each report is within one turn of the numbers.
use Rattle.trace_model.proofs.Complete.{complete_within_one_turn}
use Rattle.trace_model.proofs.laws.verdicts_miss_nothing_within_one_turn.Goals as goal

pub returns : goal.returns
returns c = complete_within_one_turn
