use Rattle.result_verdict.proofs.Verdicts.{latest_exact}
use Rattle.result_verdict.proofs.laws.latest_is_exact.Goals as goal

pub returns : goal.returns
returns c = latest_exact
