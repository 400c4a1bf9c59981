-- Each report of a recording is exact for the events that its lines tell.
use Rattle.recording_model.proofs.Listened.{each_report}
use Rattle.recording_model.proofs.laws.each_report_is_exact.Goals as goal

pub returns : goal.returns
returns c = each_report
