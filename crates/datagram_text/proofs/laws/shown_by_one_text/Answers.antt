use Rattle.datagram_text.proofs.OneText.{one_text}
use Rattle.datagram_text.proofs.laws.shown_by_one_text.Goals as goal

pub returns : goal.returns
returns c = one_text
