use Rattle.recording_measure.specs.Recents.{paths}
use Rattle.recording_measure.proofs.recents.Recents.path_ranks.Goals as goal

pub returns : goal.returns
returns c = λ all are. c.ranks.ensures (paths all) are.paths
