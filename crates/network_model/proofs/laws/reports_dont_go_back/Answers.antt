-- The order of the Syncs that are reported.
use Rattle.network_model.proofs.Order.{reports_dont_go_back as in_order}
use Rattle.network_model.proofs.laws.reports_dont_go_back.Goals as goal

pub returns : goal.returns
returns c = in_order
