-- A copy brings no report.
use Rattle.recording_model.proofs.Copies.{no_copy}
use Rattle.recording_model.proofs.laws.no_copy_is_reported.Goals as goal

pub returns : goal.returns
returns c = no_copy
