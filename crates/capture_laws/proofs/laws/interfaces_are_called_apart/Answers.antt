use Rattle.capture_laws.proofs.Called.{called_apart}
use Rattle.capture_laws.proofs.laws.interfaces_are_called_apart.Goals as goal

pub returns : goal.returns
returns c = called_apart
