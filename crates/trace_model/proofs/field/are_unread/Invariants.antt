use Rattle.std.proofs.Common.{◌≡◌, take, not, true}
use Rattle.std.specs.List.{list_all}
use Rattle.event_codec.specs.Packet.{contents}
use Rattle.trace_model.specs.Field.{is_read}
use Rattle.trace_model.proofs.field.are_unread.Given as goal

abbrev pub invariant-loop-field : goal.invariant-loop-field
invariant-loop-field l =
    list_all (λ field. not (is_read (contents l.message) field)) (take l.field-index l.fields) ≡ true
