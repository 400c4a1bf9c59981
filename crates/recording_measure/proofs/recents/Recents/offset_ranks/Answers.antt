use Rattle.recording_measure.specs.Recents.{offsets}
use Rattle.recording_measure.proofs.recents.Recents.offset_ranks.Goals as goal

pub returns : goal.returns
returns c = λ all are. c.ranks.ensures (offsets all) are.offsets
