use Rattle.result_audit.proofs.Kept.{none_passed_over}
use Rattle.result_audit.proofs.laws.no_result_is_passed_over.Goals as goal

pub returns : goal.returns
returns c = none_passed_over
