use Rattle.std.proofs.Common.{ap, ◌∙◌, not}
use Rattle.std.specs.List.{list_all}
use Rattle.event_codec.specs.Packet.{contents}
use Rattle.trace_model.specs.declared.field.Field.{Field}
use Rattle.trace_model.specs.Field.{is_read}
use Rattle.trace_model.proofs.field.tells_same.Goals as goal

pub returns : goal.returns
returns c =
    c.are_unread.ensures
    ∙ ap (list_all (λ (field : Field). not (is_read (contents c.args.message.now) field)))
    (c.as_slice.ensures ∙ c.differing.ensures)
