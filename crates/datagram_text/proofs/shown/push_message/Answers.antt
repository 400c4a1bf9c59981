use Rattle.std.proofs.lemmas.Result.{IfOk-equal}
use Rattle.event_codec.specs.Packet.{contents}
use Rattle.datagram_text.proofs.Joining.{message_joined}
use Rattle.datagram_text.proofs.shown.push_message.Goals as goal

pub returns : goal.returns
returns c = IfOk-equal c.write.result _ _ _ c.write.ensures.bytes
    (rw (c.in_ok-push_header.ensures, c.name_of.ensures, c.timestamp.ensures) (message_joined _ (contents c.args.message.now) _))
