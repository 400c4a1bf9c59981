use Rattle.explain_laws.proofs.AsChecked.{explains_as_checked}
use Rattle.explain_laws.proofs.laws.explains_as_checked.Goals as goal

pub returns : goal.returns
returns c = explains_as_checked
