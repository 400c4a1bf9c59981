use Rattle.std.proofs.Common.{◌∙◌}
use Rattle.event_codec.specs.Packet.{contents}
use Rattle.exchange_check.specs.Inner.Messages.{heard_type}
use Rattle.exchange_check.proofs.SaidIn.{said-read}
use Rattle.exchange_check.proofs.by_messages.said_in.Goals as goal

pub returns-in-Ok : goal.returns-in-Ok
returns-in-Ok c =
    c.said_of.ensures
    ∙ said-read (contents c.in-Ok.message) c.in-Ok.field-0-1 c.args.octets.now c.in-Ok.ensures.read.0
    c.in-Ok.ensures.read.1 c.in-Ok.ensures.refused (heard_type c.args.kind)
