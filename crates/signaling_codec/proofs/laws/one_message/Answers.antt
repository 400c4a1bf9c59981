use Rattle.signaling_codec.proofs.Front.{signaling_same}
use Rattle.signaling_codec.proofs.laws.one_message.Goals as goal

pub returns : goal.returns
returns c = signaling_same
