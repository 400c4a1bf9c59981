-- The numbers of the refusals of messages, and the first one that applies.
use Rattle.std.specs.Prelude.{ℕ, nat_lt, if◌then◌else◌, Option, Some, None}
use Rattle.event_codec.specs.declared.refusal.EncodeRefusal.{EncodeRefusal}
use Rattle.event_codec.specs.declared.refusal.EncodeRefusal.TheVariants.{NoRoom, SuffixTooLong}
use Rattle.event_codec.specs.Packet.{Contents}
use Rattle.event_codec.specs.Refusal.{message_length}

-- the number of a refusal
abbrev pub code_of : EncodeRefusal → ℕ
code_of NoRoom = 211
code_of SuffixTooLong = 212

-- the first refusal that applies to a message and the length of a buffer
abbrev pub encode_refusal : Contents → ℕ → Option EncodeRefusal
encode_refusal m room =
    if nat_lt room (message_length m) then Some NoRoom
    else if nat_lt (message_length m) 65536 then None
    else Some SuffixTooLong
