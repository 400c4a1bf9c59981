-- The numbers of the refusals of messages, and the first one that applies.
use Rattle.std.specs.Prelude.{ℕ, ◌+◌, ◌*◌, length, nat_lt, if◌then◌else◌, Option, Some, None}
use Rattle.std.specs.List.{sum_by}
use Rattle.signaling_codec.specs.declared.encode_refusal.SignalingEncodeRefusal.{SignalingEncodeRefusal}
use Rattle.signaling_codec.specs.declared.encode_refusal.SignalingEncodeRefusal.TheVariants.{TooLong, NoRoom}
use Rattle.signaling_codec.specs.declared.signaling.Signaling.{Signaling}
use Rattle.signaling_codec.specs.declared.tlv_type.TlvType.TheVariants as types
use Rattle.signaling_codec.specs.Layout.{fields_length, record_length}
use Rattle.signaling_codec.specs.Tlv.{TlvOf, SyncTiming, DelayTiming, Other}

-- the number of a refusal
abbrev pub code_of : SignalingEncodeRefusal → ℕ
code_of TooLong = 231
code_of NoRoom = 232

-- how many octets a TLV takes
abbrev pub octets_of : TlvOf → ℕ
octets_of (SyncTiming master readings) = 14 + record_length types.SyncTiming * length readings
octets_of (DelayTiming master readings) = 14 + record_length types.DelayTiming * length readings
octets_of (Other kind value) = 4 + length value

-- messageLength of a message
abbrev pub message_length : Signaling → ℕ
message_length m = fields_length + sum_by octets_of m.tlvs

-- the first refusal that applies to a message and the length of a buffer
abbrev pub encode_refusal : Signaling → ℕ → Option SignalingEncodeRefusal
encode_refusal m room =
    if nat_lt (message_length m) 65536
    then (if nat_lt room (message_length m) then Some NoRoom else None)
    else Some TooLong
