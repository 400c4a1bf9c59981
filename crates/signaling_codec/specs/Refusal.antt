-- The numbers of the refusals of octets, and the first one that applies.
use Rattle.std.specs.Prelude.{ℕ, zero, suc, ◌-◌, ◌/◌, ◌%◌, ◌^◌, List, [], ◌∷◌, length, take, drop, slice_index, slice_range}
use Rattle.std.specs.Prelude.{nat_lt, nat_le, ◌==◌, Bool, true, ◌&&◌, if◌then◌else◌, Option, Some, None}
use Rattle.std.specs.Option.{option_or}
use Rattle.event_codec.specs.Layout.{number}
use Rattle.signaling_codec.specs.declared.refusal.SignalingRefusal.{SignalingRefusal}
use Rattle.signaling_codec.specs.declared.refusal.SignalingRefusal.TheVariants.{NoSignaling, LengthField, Truncated, TlvLength}
use Rattle.signaling_codec.specs.declared.refusal.SignalingRefusal.TheVariants.{Nanoseconds}
use Rattle.signaling_codec.specs.declared.tlv_type.TlvType.{TlvType}
use Rattle.signaling_codec.specs.Layout.{signaling_type, fields_length, record_length}
use Rattle.signaling_codec.specs.Tlv.{type_numbered, tlv_length}

-- the number of a refusal
abbrev pub code_of : SignalingRefusal → ℕ
code_of NoSignaling = 221
code_of LengthField = 222
code_of Truncated = 223
code_of TlvLength = 224
code_of Nanoseconds = 225

-- whether the nanoseconds of both timestamps of a record are below 10^9: the first stands behind sequenceId, the second
-- ends the record
abbrev pub times_fit : (size : ℕ) → List ℕ → Bool
times_fit size b = nat_lt (number b 8 4) (10 ^ 9) && nat_lt (number b (size - 4) 4) (10 ^ 9)

-- whether they are in each of so many records
unfoldable pub all_times_fit : (size count : ℕ) → List ℕ → Bool
all_times_fit size zero b = true
all_times_fit size (suc count) b = times_fit size b && all_times_fit size count (drop size b)

-- the first refusal that applies to records: they are whole ones, and the nanoseconds of each fit
unfoldable pub records_refusal : (size : ℕ) → List ℕ → Option SignalingRefusal
records_refusal size b =
    if length b % size == 0
    then (if all_times_fit size (length b / size) b then None else Some Nanoseconds)
    else Some TlvLength

-- the first refusal that applies to the value of a TLV: that of another type may be anything
unfoldable pub value_refusal : Option TlvType → List ℕ → Option SignalingRefusal
value_refusal None value = None
value_refusal (Some kind) value =
    if nat_lt (length value) 10 then Some TlvLength else records_refusal (record_length kind) (drop 10 value)

-- the first refusal that applies to the TLV at the front
unfoldable pub tlv_refusal : List ℕ → Option SignalingRefusal
tlv_refusal b =
    if nat_lt (length b) 4 then Some TlvLength
    else if nat_lt (length b) (tlv_length b) then Some TlvLength
    else value_refusal (type_numbered (number b 0 2)) (slice_range b 4 (tlv_length b))

-- the first refusal that applies to TLVs, behind so many octets that are left of a TLV that is sound: of the TLVs the
-- first decides that isn't
unfoldable pub tlvs_refusal : (left : ℕ) → List ℕ → Option SignalingRefusal
tlvs_refusal left [] = None
tlvs_refusal (suc left) (octet ∷ b) = tlvs_refusal left b
tlvs_refusal zero (octet ∷ b) = option_or (tlv_refusal (octet ∷ b)) (tlvs_refusal (tlv_length (octet ∷ b) - 1) b)

-- whether b begins with a header of Signaling, of version 2
abbrev pub is_signaling : List ℕ → Bool
is_signaling b = nat_le 34 (length b) && slice_index b 1 % 16 == 2 && slice_index b 0 % 16 == signaling_type

-- the first refusal that applies to octets, and none where they begin with a message
unfoldable pub signaling_refusal : List ℕ → Option SignalingRefusal
signaling_refusal b =
    if is_signaling b then
    (if nat_lt (number b 2 2) fields_length then Some LengthField
    else if nat_lt (length b) (number b 2 2) then Some Truncated
    else tlvs_refusal 0 (drop fields_length (take (number b 2 2) b)))
    else Some NoSignaling
