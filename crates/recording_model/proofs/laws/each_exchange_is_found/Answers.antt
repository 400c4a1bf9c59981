-- An exchange that stands in a recording is reported.
use Rattle.recording_model.proofs.Finds.{each_exchange}
use Rattle.recording_model.proofs.laws.each_exchange_is_found.Goals as goal

pub returns : goal.returns
returns c = each_exchange
