-- The numbers of the refusals of octets, and the first one that applies.
use Rattle.std.specs.Prelude.{ℕ, ◌+◌, ◌%◌, ◌^◌, List, length, slice_index, nat_lt, ◌==◌, if◌then◌else◌, Option, Some}
use Rattle.std.specs.Prelude.{None}
use Rattle.event_codec.specs.declared.message_type.MessageType.{MessageType}
use Rattle.event_codec.specs.declared.refusal.DecodeRefusal.{DecodeRefusal}
use Rattle.event_codec.specs.declared.refusal.DecodeRefusal.TheVariants.{Short, Version, OtherType, LengthField}
use Rattle.event_codec.specs.declared.refusal.DecodeRefusal.TheVariants.{Truncated, Nanoseconds}
use Rattle.event_codec.specs.Layout.{number, type_of, type_numbered, fields_length}
use Rattle.event_codec.specs.Packet.{Contents}

-- the number of a refusal
abbrev pub code_of : DecodeRefusal → ℕ
code_of Short = 201
code_of Version = 202
code_of (OtherType kind) = 203
code_of LengthField = 204
code_of Truncated = 205
code_of Nanoseconds = 206

-- of octets that have a whole header of version 2, whose messageType this is
abbrev pub body_refusal : List ℕ → Option MessageType → Option DecodeRefusal
body_refusal b None = Some (OtherType (slice_index b 0 % 16))
body_refusal b (Some kind) =
    if nat_lt (number b 2 2) (fields_length kind) then Some LengthField
    else if nat_lt (length b) (number b 2 2) then Some Truncated
    else if nat_lt (number b 40 4) (10 ^ 9) then None
    else Some Nanoseconds

-- the first refusal that applies to octets, and none where they begin with a message
unfoldable pub decode_refusal : List ℕ → Option DecodeRefusal
decode_refusal b =
    if nat_lt (length b) 34 then Some Short
    else if slice_index b 1 % 16 == 2 then body_refusal b (type_numbered (slice_index b 0 % 16))
    else Some Version

-- messageLength of a message
abbrev pub message_length : Contents → ℕ
message_length m = fields_length (type_of m.body) + length m.suffix
