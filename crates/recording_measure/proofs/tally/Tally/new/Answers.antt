use Rattle.recording_measure.proofs.Counting.{no_counts}
use Rattle.recording_measure.proofs.tally.Tally.new.Goals as goal

pub returns : goal.returns
returns c = no_counts _ c.new.ensures
