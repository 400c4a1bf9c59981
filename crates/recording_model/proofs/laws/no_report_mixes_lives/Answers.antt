-- No report rests on a line from before the last beginning.
use Rattle.recording_model.proofs.Lives.{no_report}
use Rattle.recording_model.proofs.laws.no_report_mixes_lives.Goals as goal

pub returns : goal.returns
returns c = no_report
