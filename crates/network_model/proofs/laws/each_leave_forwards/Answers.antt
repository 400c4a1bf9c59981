-- A Leave event makes what the clock forwards.
use Rattle.network_model.proofs.Leaving.{each_leave_forwards as forwards}
use Rattle.network_model.proofs.laws.each_leave_forwards.Goals as goal

pub returns : goal.returns
returns c = forwards
