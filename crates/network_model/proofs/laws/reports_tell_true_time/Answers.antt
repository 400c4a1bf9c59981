-- What reports say of true time.
use Rattle.network_model.proofs.Agreement.{tells_true_time}
use Rattle.network_model.proofs.laws.reports_tell_true_time.Goals as goal

pub returns : goal.returns
returns c = tells_true_time
