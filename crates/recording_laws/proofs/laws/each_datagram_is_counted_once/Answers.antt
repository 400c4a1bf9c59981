-- Each datagram is counted once.
use Rattle.recording_laws.proofs.Once.{each_once}
use Rattle.recording_laws.proofs.laws.each_datagram_is_counted_once.Goals as goal

pub returns : goal.returns
returns c = each_once
