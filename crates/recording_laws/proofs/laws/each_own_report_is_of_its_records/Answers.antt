use Rattle.recording_laws.proofs.OwnReports.{each_own}
use Rattle.recording_laws.proofs.laws.each_own_report_is_of_its_records.Goals as goal

pub returns : goal.returns
returns c = each_own
