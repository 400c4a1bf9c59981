use Rattle.recording_measure.proofs.Reported.{any_reported}
use Rattle.recording_measure.proofs.measuring.Measuring.has_reported.Goals as goal

pub returns : goal.returns
returns c = λ r at. any_reported r c.args.self.now.reports.reports.tally.counts at.counts
