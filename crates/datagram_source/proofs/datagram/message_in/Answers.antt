use Rattle.event_codec.specs.Packet.{contents}
use Rattle.datagram_source.proofs.SaidReadings.{IsReading-read}
use Rattle.datagram_source.proofs.datagram.message_in.Goals as goal

pub returns-in-Ok : goal.returns-in-Ok
returns-in-Ok c = IsReading-read (contents c.in-Ok.message) c.in-Ok.field-0-1 _ c.in-Ok.ensures.read.0 c.in-Ok.ensures.read.1

pub returns-in-Err : goal.returns-in-Err
returns-in-Err c = c.in-Err.ensures.refused
