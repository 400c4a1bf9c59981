use Rattle.std.proofs.Common.{◌++◌}
use Rattle.datagram_source.specs.declared.packets.PacketSource.{PacketSource}
use Rattle.datagram_source.proofs.Lefts.{packets_left}
use Rattle.datagram_source.proofs.input.answer_capture_behind.Goals as goal

pub returns-clause-left : goal.returns-clause-left
returns-clause-left g c = λ state at octets known.
    packets_left g.T.DatagramTask.rules g.T.DatagramTask.is_at (λ (s : PacketSource _ _). s.task) state (c.args.start.now ++ octets)
    c.answer_packets_behind-answer.new.task _ (c.answer_packets_behind-answer.ensures.left state at octets known)
