use Rattle.recording_laws.proofs.OwnReads.{measured_alone}
use Rattle.recording_laws.proofs.laws.own_readings_are_measured_alone.Goals as goal

pub returns : goal.returns
returns c = measured_alone
