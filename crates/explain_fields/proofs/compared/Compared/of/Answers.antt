use Rattle.std.proofs.Common.{◌∙◌, ap}
use Rattle.event_codec.specs.Packet.{Contents}
use Rattle.trace_model.specs.Field.{tells_same}
use Rattle.explain_fields.proofs.compared.Compared.of.Goals as goal

pub returns : goal.returns
returns c = c.tells_same.ensures ∙ ap (λ (m : Contents). tells_same m c.args.octets.now) c.message.ensures
