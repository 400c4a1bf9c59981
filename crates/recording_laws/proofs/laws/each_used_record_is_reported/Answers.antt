use Rattle.recording_laws.proofs.OwnReported.{each_used}
use Rattle.recording_laws.proofs.laws.each_used_record_is_reported.Goals as goal

pub returns : goal.returns
returns c = each_used
