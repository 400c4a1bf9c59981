use Rattle.result_verdict.proofs.Verdicts.{offset_changed, path_changed}
use Rattle.result_verdict.proofs.laws.half_changed_is_not_filtered.Goals as goal

pub returns-clause-offset : goal.returns-clause-offset
returns-clause-offset c = offset_changed

pub returns-clause-path : goal.returns-clause-path
returns-clause-path c = path_changed
