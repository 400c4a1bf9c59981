use Rattle.recording_laws.proofs.Exact.{each_measurement}
use Rattle.recording_laws.proofs.laws.each_measurement_is_exact.Goals as goal

pub returns : goal.returns
returns c = each_measurement c.each_report_is_exact.ensures
