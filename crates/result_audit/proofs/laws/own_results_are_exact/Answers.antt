use Rattle.result_audit.proofs.Exactly.{own_exact}
use Rattle.result_audit.proofs.laws.own_results_are_exact.Goals as goal

pub returns : goal.returns
returns c = own_exact
