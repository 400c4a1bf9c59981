use Rattle.result_verdict.proofs.Verdicts.{still_exact, still_within, still_right}
use Rattle.result_verdict.proofs.laws.a_greater_tolerance_takes_more.Goals as goal

pub returns-clause-exact : goal.returns-clause-exact
returns-clause-exact c = still_exact

pub returns-clause-within : goal.returns-clause-within
returns-clause-within c = still_within

pub returns-clause-not_wrong : goal.returns-clause-not_wrong
returns-clause-not_wrong c = still_right
