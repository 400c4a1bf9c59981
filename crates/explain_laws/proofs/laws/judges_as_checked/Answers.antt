use Rattle.explain_laws.proofs.AsChecked.{judges_as_checked}
use Rattle.explain_laws.proofs.laws.judges_as_checked.Goals as goal

pub returns : goal.returns
returns c = judges_as_checked
