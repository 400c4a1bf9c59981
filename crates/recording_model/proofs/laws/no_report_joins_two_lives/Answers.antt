-- No report joins two lives whose Syncs are told apart.
use Rattle.recording_model.proofs.Apart.{no_joining}
use Rattle.recording_model.proofs.laws.no_report_joins_two_lives.Goals as goal

pub returns : goal.returns
returns c = no_joining
