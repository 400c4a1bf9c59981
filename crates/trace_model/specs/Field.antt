-- The fields of a message (IEEE 1588-2019, 13.3 and 13.6 to 13.8): which of them octets have otherwise, and which of
-- them a slave or a master reads.
use Rattle.std.specs.Prelude.{◌≡◌, ◌↔◌, ℕ, ◌/◌, ◌%◌, ◌^◌, Bool, true, false, ◌&&◌, not, List, [], ◌∷◌, length}
use Rattle.std.specs.Prelude.{filter, drop, nat_lt, ◌==◌, slice_index, slice_range, IsTrue, Ok}
use Rattle.std.specs.Int.{w8, w64, cast_signed}
use Rattle.std.specs.List.{list_all}
use Rattle.std.specs.Ordering.{int_eq}
use Rattle.std.specs.Str.{bytes_eq}
use Rattle.ptp_units.specs.Moment.{Stamp}
use Rattle.event_codec.specs.declared.message.Body.{Body}
use Rattle.event_codec.specs.declared.message.Body.TheVariants as bodies
use Rattle.event_codec.specs.declared.port.PortConfig.{PortConfig}
use Rattle.event_codec.specs.Layout.{number, number_of, type_of, fields_length, stamp_in}
use Rattle.event_codec.specs.Packet.{Contents}
use Rattle.event_codec.specs.Reading.{IsReading}
use Rattle.event_codec.specs.Refusal.{message_length}
use Rattle.master_port.specs.Written.{answer_to}
use Rattle.slave_port.specs.Usable.{Criteria, is_two_step, event_use, general_use}
use Rattle.trace_model.specs.declared.field.Field.{Field}
use Rattle.trace_model.specs.declared.field.Field.TheVariants as fields
use Rattle.trace_model.specs.Octets.{is_identity_at, is_requesting, is_packet}

-- all fields, in the order of their octets
abbrev pub all_fields : List Field
all_fields =
    fields.MajorSdoId ∷ fields.MessageType ∷ fields.MinorVersion ∷ fields.Version ∷ fields.MessageLength ∷ fields.Whole ∷
    fields.DomainNumber ∷ fields.MinorSdoId ∷ fields.TwoStepFlag ∷ fields.OtherFlags ∷ fields.Correction ∷
    fields.TypeSpecific ∷ fields.SourcePort ∷ fields.SequenceId ∷ fields.Control ∷ fields.LogInterval ∷
    fields.Timestamp ∷ fields.Nanoseconds ∷ fields.RequestingPort ∷ fields.Suffix ∷ []

-- whether messageLength has room for all fields, and there are as many octets; what follows them is padding
abbrev pub is_whole : Body → List ℕ → Bool
is_whole body b = not (nat_lt (number b 2 2) (fields_length (type_of body))) && not (nat_lt (length b) (number b 2 2))

-- twoStepFlag, the second bit of an octet
abbrev pub two_step_bit : ℕ → ℕ
two_step_bit octet = octet / 2 % 2

-- whether the flags are those of octets 6 and 7, but for twoStepFlag
abbrev pub are_other_flags : List ℕ → List ℕ → Bool
are_other_flags flags b =
    slice_index flags 0 / 4 == slice_index b 6 / 4 && slice_index flags 0 % 2 == slice_index b 6 % 2
    && slice_index flags 1 == slice_index b 7

-- whether octets 34 to 43 are this timestamp
abbrev pub is_stamp_at : Stamp → List ℕ → Bool
is_stamp_at stamp b = stamp.seconds == number b 34 6 && stamp.nanos == number b 40 4

-- whether octets have a field as the message has it; octets that aren't there are 0
abbrev pub has_field : Contents → List ℕ → Field → Bool
has_field m b fields.MajorSdoId = m.header.major_sdo == slice_index b 0 / 16
has_field m b fields.MessageType = number_of (type_of m.body) == slice_index b 0 % 16
has_field m b fields.MinorVersion = m.header.minor_version == slice_index b 1 / 16
has_field m b fields.Version = slice_index b 1 % 16 == 2
has_field m b fields.MessageLength = number b 2 2 == message_length m
has_field m b fields.Whole = is_whole m.body b
has_field m b fields.DomainNumber = m.header.domain == slice_index b 4
has_field m b fields.MinorSdoId = m.header.minor_sdo == slice_index b 5
has_field m b fields.TwoStepFlag = two_step_bit (slice_index m.header.flags 0) == two_step_bit (slice_index b 6)
has_field m b fields.OtherFlags = are_other_flags m.header.flags b
has_field m b fields.Correction = int_eq m.header.correction.0 (cast_signed w64 (number b 8 8))
has_field m b fields.TypeSpecific = bytes_eq m.header.specific (slice_range b 16 20)
has_field m b fields.SourcePort = is_identity_at m.header.source b 20
has_field m b fields.SequenceId = m.header.sequence.0 == number b 30 2
has_field m b fields.Control = m.header.control == slice_index b 32
has_field m b fields.LogInterval = int_eq m.header.log (cast_signed w8 (slice_index b 33))
has_field m b fields.Timestamp = is_stamp_at (stamp_in m.body) b
has_field m b fields.Nanoseconds = nat_lt (number b 40 4) (10 ^ 9)
has_field m b fields.RequestingPort = is_requesting m.body b
has_field m b fields.Suffix = bytes_eq m.suffix (drop (fields_length (type_of m.body)) b)

-- the fields that octets have otherwise: every one, in the order of octets
abbrev pub differing : Contents → List ℕ → List Field
differing m b = filter (λ field. not (has_field m b field)) all_fields

-- Octets are the message exactly where they have no field otherwise. `laws::fields_are_tested` promises it, of octets
-- and two octets of flags, as every message has them.
abbrev pub EachFieldIsTested : Type 0
EachFieldIsTested = (m : Contents) (b : List ℕ) → list_all (λ octet. nat_lt octet 256) b ≡ true
    → length m.header.flags ≡ 2 → IsTrue (is_packet m b) ↔ (differing m b ≡ [])

-- a Sync
abbrev pub is_sync_body : Body → Bool
is_sync_body (bodies.Sync origin) = true
is_sync_body (bodies.DelayReq origin) = false
is_sync_body (bodies.FollowUp precise) = false
is_sync_body (bodies.DelayResp receive requesting) = false

-- a slave reads the timestamp of a one-step Sync, of a Follow_Up and of a Delay_Resp; the others say 0
abbrev pub is_stamp_read : (two_step : Bool) → Body → Bool
is_stamp_read two_step (bodies.Sync origin) = not two_step
is_stamp_read two_step (bodies.DelayReq origin) = false
is_stamp_read two_step (bodies.FollowUp precise) = true
is_stamp_read two_step (bodies.DelayResp receive requesting) = true

-- Whether a slave or a master reads this field of this message, so that other octets there can turn what it does. Who
-- can't decode octets reads none of them: nobody can where type or version are wrong, octets are lacking, or there are
-- too many nanoseconds.
abbrev pub is_read : Contents → Field → Bool
is_read m fields.MajorSdoId = false
is_read m fields.MessageType = true
is_read m fields.MinorVersion = false
is_read m fields.Version = true
is_read m fields.MessageLength = false
is_read m fields.Whole = true
is_read m fields.DomainNumber = true
is_read m fields.MinorSdoId = false
is_read m fields.TwoStepFlag = is_sync_body m.body
is_read m fields.OtherFlags = false
is_read m fields.Correction = true
is_read m fields.TypeSpecific = false
is_read m fields.SourcePort = true
is_read m fields.SequenceId = true
is_read m fields.Control = false
is_read m fields.LogInterval = false
is_read m fields.Timestamp = is_stamp_read (is_two_step m.header) m.body
is_read m fields.Nanoseconds = true
is_read m fields.RequestingPort = true
is_read m fields.Suffix = false

-- octets tell the same: those that read them read no field otherwise
abbrev pub tells_same : Contents → List ℕ → Bool
tells_same m b = list_all (λ field. not (is_read m field)) (differing m b)

-- what a slave uses a message as and what a master answers to it is the same of two messages, whatever else the slave
-- heard and whenever they come
pub record ReadsAlike (m other : Contents) : Type 0 where
  pub event : (criteria : Criteria) (t2 tag : ℕ)
      → event_use criteria other.header other.body t2 tag ≡ event_use criteria m.header m.body t2 tag
  pub general : (criteria : Criteria) (tag : ℕ)
      → general_use criteria other.header other.body tag ≡ general_use criteria m.header m.body tag
  pub answer : (config : PortConfig) (t4 : ℕ)
      → answer_to config other.body other.header t4 ≡ answer_to config m.body m.header t4

-- Octets that tell the same as a message are read alike, whatever padding they have, so what differs is read by nobody.
-- `laws::unread_fields_change_nothing` promises it.
abbrev pub EachTellsAlike : Type 0
EachTellsAlike = (m other : Contents) (b : List ℕ) → tells_same m b ≡ true → IsReading b (Ok other) → ReadsAlike m other
