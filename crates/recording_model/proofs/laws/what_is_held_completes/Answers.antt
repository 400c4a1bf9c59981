-- What is used completes where its counterpart is held.
use Rattle.recording_model.proofs.Completes.{no_pair}
use Rattle.recording_model.proofs.laws.what_is_held_completes.Goals as goal

pub returns : goal.returns
returns c = no_pair
