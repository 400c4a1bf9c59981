-- Each test, by the part of the relation that it decides.
use Rattle.trace_model.proofs.Packets.{is_packet-Decides}
use Rattle.trace_model.proofs.laws.each_packet_is_tested.Goals as goal

pub returns : goal.returns
returns c = is_packet-Decides
