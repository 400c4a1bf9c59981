use Rattle.recording_laws.proofs.Exchanged.{each_is_of_its_exchange}
use Rattle.recording_laws.proofs.laws.each_report_is_of_its_exchange.Goals as goal

pub returns : goal.returns
returns c = each_is_of_its_exchange
