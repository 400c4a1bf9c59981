-- Reports have their evidence, and stays are left once.
use Rattle.network_model.proofs.Evidence.{shows_evidence}
use Rattle.network_model.proofs.laws.runs_show_evidence.Goals as goal

pub returns : goal.returns
returns c = shows_evidence
