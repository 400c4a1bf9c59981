use Rattle.datagram_source.proofs.packets.PacketSourcePacketTask.take.Goals as goal

pub returns-in-Captured-clause-taken : goal.returns-in-Captured-clause-taken
returns-in-Captured-clause-taken g c = λ state at. rw c.in-Captured.is (c.take_captured.ensures.taken state at)
