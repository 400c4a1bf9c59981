use Rattle.result_verdict.proofs.InOrder.{are_in_order}
use Rattle.result_verdict.proofs.laws.delays_are_in_order.Goals as goal

pub returns : goal.returns
returns c = are_in_order
