use Rattle.std.proofs.Common.{◌≡◌, ◌≤◌, length, take, not}
use Rattle.std.specs.Prelude.{filter}
use Rattle.event_codec.specs.Packet.{contents}
use Rattle.trace_model.specs.Field.{has_field}
use Rattle.trace_model.proofs.field.otherwise.Given as goal

abbrev pub invariant-loop-field : goal.invariant-loop-field
invariant-loop-field l =
    (l.differing ≡ filter (λ field. not (has_field (contents l.message) l.octets field)) (take l.field-index l.fields))
    × (length l.differing ≤ l.field-index)
