-- The pair of a report is less than a second apart.
use Rattle.recording_model.proofs.Pairs.{no_pair}
use Rattle.recording_model.proofs.laws.no_reported_pair_is_apart.Goals as goal

pub returns : goal.returns
returns c = no_pair
