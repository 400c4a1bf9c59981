use Rattle.recording_laws.proofs.Alone.{measured_alone}
use Rattle.recording_laws.proofs.laws.one_place_is_measured_alone.Goals as goal

pub returns : goal.returns
returns c = measured_alone
