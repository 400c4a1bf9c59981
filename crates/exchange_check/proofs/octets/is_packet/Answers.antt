use Rattle.std.proofs.Common.{take}
use Rattle.event_codec.specs.Packet.{contents}
use Rattle.trace_model.proofs.Packets.{is_packet-written, is_packet-refused}
use Rattle.exchange_check.proofs.octets.is_packet.Goals as goal

pub returns-in-Ok : goal.returns-in-Ok
returns-in-Ok c =
    is_packet-written (contents c.args.message.now) c.args.octets.now
    (take c.in-Ok.length c.encode.new.buffer) c.eq.result
    c.in-Ok.ensures.written.1 c.in-Ok.ensures.again c.eq.ensures

pub returns-in-Err : goal.returns-in-Err
returns-in-Err c =
    is_packet-refused (contents c.args.message.now) c.args.octets.now c.in-Err.field-0
    c.requires c.in-Err.ensures.refused
