use Rattle.statistics.proofs.InOrder.{none_late, counted_once}
use Rattle.statistics.proofs.laws.each_number_is_counted_once.Goals as goal

pub returns : goal.returns
returns c = λ m earlier so. (counted_once m earlier so, none_late m earlier so)
