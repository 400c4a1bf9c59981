use Rattle.result_verdict.proofs.Alike.{shows_alike}
use Rattle.result_verdict.proofs.laws.results_show_alike.Goals as goal

pub returns : goal.returns
returns c = shows_alike
