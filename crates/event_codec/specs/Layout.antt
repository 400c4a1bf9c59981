-- Numbers in octets, and what the type of a message settles (IEEE 1588-2019, 13.2 and 13.3.2.3).
use Rattle.std.specs.Prelude.{ℕ, zero, suc, ◌+◌, ◌*◌, List, [], ◌∷◌, find, slice_index, ◌==◌, Option}
use Rattle.ptp_units.specs.Moment.{Stamp}
use Rattle.event_codec.specs.declared.message_type.MessageType.{MessageType}
use Rattle.event_codec.specs.declared.message_type.MessageType.TheVariants as types
use Rattle.event_codec.specs.declared.message.Body.{Body}
use Rattle.event_codec.specs.declared.message.Body.TheVariants.{Sync, DelayReq, FollowUp, DelayResp}

-- the big-endian number in the octets of b from octet i on, of which there are count
abbrev pub number : List ℕ → ℕ → ℕ → ℕ
number b i zero = 0
number b i (suc count) = 256 * number b i count + slice_index b (i + count)

-- messageType (13.3.2.3)
abbrev pub type_of : Body → MessageType
type_of (Sync origin) = types.Sync
type_of (DelayReq origin) = types.DelayReq
type_of (FollowUp precise) = types.FollowUp
type_of (DelayResp receive requesting) = types.DelayResp

-- the number of a messageType
abbrev pub number_of : MessageType → ℕ
number_of types.Sync = 0
number_of types.DelayReq = 1
number_of types.FollowUp = 8
number_of types.DelayResp = 9

-- the one of the four types that has this number
abbrev pub type_numbered : ℕ → Option MessageType
type_numbered number =
    find (λ kind. number_of kind == number) (types.Sync ∷ types.DelayReq ∷ types.FollowUp ∷ types.DelayResp ∷ [])

-- how many octets the fields of a message take; its suffix begins after them
abbrev pub fields_length : MessageType → ℕ
fields_length types.DelayResp = 54
fields_length types.Sync = 44
fields_length types.DelayReq = 44
fields_length types.FollowUp = 44

-- the timestamp field
abbrev pub stamp_in : Body → Stamp
stamp_in (Sync origin) = origin
stamp_in (DelayReq origin) = origin
stamp_in (FollowUp precise) = precise
stamp_in (DelayResp receive requesting) = receive
