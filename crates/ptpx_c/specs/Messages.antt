-- Messages as C passes them (IEEE 1588-2019, 13.3 and 13.6 to 13.8).
use Rattle.std.specs.Prelude.{◌≡◌, ℕ, ◌≤◌, List, [], ◌∷◌, length, take, drop, nat_lt, ◌&&◌, ◌==◌, Bool, Option, Some}
use Rattle.std.specs.Prelude.{None, if◌then◌else◌, MatchOption, Result, Ok, Err}
use Rattle.ptp_units.specs.Moment.{Stamp}
use Rattle.ptp_units.specs.declared.refusal.UnitRefusal.{UnitRefusal}
use Rattle.ptp_units.specs.Refusal.{timestamp_refusal, code_of}
use Rattle.event_codec.specs.declared.message.Header.{Header}
use Rattle.event_codec.specs.declared.message.Body.{Body}
use Rattle.event_codec.specs.declared.message.Body.TheVariants as bodies
use Rattle.event_codec.specs.declared.port.PortIdentity.{PortIdentity}
use Rattle.event_codec.specs.Layout.{number_of, type_of, stamp_in}
use Rattle.event_codec.specs.Packet.{Contents, Packet}
use Rattle.event_codec.specs.Reading.{Reading}
use Rattle.event_codec.specs.Refusal.{code_of as code_of_octets}
use Rattle.event_codec.specs.EncodeRefusal.{encode_refusal, code_of as code_of_writing}
use Rattle.ptpx_c.specs.declared.message.RawMessage.{RawMessage}
use Rattle.ptpx_c.specs.declared.message.RawPortIdentity.{RawPortIdentity}
use Rattle.ptpx_c.specs.Times.{stamp_said}

-- the identity that the fields say
abbrev pub identity_of : RawPortIdentity → PortIdentity
identity_of identity = record { clock = identity.clock; port = identity.port }

-- the fields of an identity
abbrev pub raw_identity : PortIdentity → RawPortIdentity
raw_identity identity = record { clock = identity.clock; port = identity.port }

-- the identity of no port
abbrev pub no_identity : RawPortIdentity
no_identity = record { clock = 0 ∷ 0 ∷ 0 ∷ 0 ∷ 0 ∷ 0 ∷ 0 ∷ 0 ∷ []; port = 0 }

-- requestingPortIdentity, which only a Delay_Resp has
abbrev pub requesting_in : Body → RawPortIdentity
requesting_in (bodies.Sync origin) = no_identity
requesting_in (bodies.DelayReq origin) = no_identity
requesting_in (bodies.FollowUp precise) = no_identity
requesting_in (bodies.DelayResp receive requesting) = raw_identity requesting

-- the fields of a message
abbrev pub fields_of : Contents → RawMessage
fields_of m = record {
  kind = number_of (type_of m.body);
  major_sdo = m.header.major_sdo;
  minor_version = m.header.minor_version;
  domain = m.header.domain;
  minor_sdo = m.header.minor_sdo;
  flags = m.header.flags;
  correction = m.header.correction.0;
  specific = m.header.specific;
  source = raw_identity m.header.source;
  sequence = m.header.sequence.0;
  control = m.header.control;
  log = m.header.log;
  timestamp = record { seconds = (stamp_in m.body).seconds; nanos = (stamp_in m.body).nanos };
  requesting = requesting_in m.body;
  suffix_length = length m.suffix;
}

-- the fields of what octets say are put there, or the first refusal is answered and what was there stays
abbrev pub IsDecoded : Reading → (code : ℕ) → (old new : RawMessage) → Type 0
IsDecoded (Ok m) code old new = (code ≡ 0) × (new ≡ fields_of m)
IsDecoded (Err refusal) code old new = (code ≡ code_of_octets refusal) × (new ≡ old)

-- majorSdoId and minorVersionPTP fit half an octet
abbrev pub has_nibbles : RawMessage → Bool
has_nibbles message = nat_lt message.major_sdo 16 && nat_lt message.minor_version 16

-- the header that the fields say
abbrev pub header_said : RawMessage → Header
header_said message = record {
  major_sdo = message.major_sdo;
  minor_version = message.minor_version;
  domain = message.domain;
  minor_sdo = message.minor_sdo;
  flags = message.flags;
  correction = record { 0 = message.correction };
  specific = message.specific;
  source = identity_of message.source;
  sequence = record { 0 = message.sequence };
  control = message.control;
  log = message.log;
}

-- the body of a message of this messageType, one of the four
abbrev pub body_said : (kind : ℕ) → Stamp → PortIdentity → Option Body
body_said kind timestamp requesting =
    if kind == 0 then Some (bodies.Sync timestamp)
    else if kind == 1 then Some (bodies.DelayReq timestamp)
    else if kind == 8 then Some (bodies.FollowUp timestamp)
    else if kind == 9 then Some (bodies.DelayResp timestamp requesting)
    else None

-- the message that fields with a header and this body say, or the number of why its timestamp is none
abbrev pub stamped_said : Option UnitRefusal → Body → RawMessage → (suffix : List ℕ) → Result Contents ℕ
stamped_said (Some refusal) body message suffix = Err (code_of refusal)
stamped_said None body message suffix = Ok (record { header = header_said message; body = body; suffix = suffix })

-- the message that fields with this body say, or the number of why they say none
abbrev pub typed_said : Option Body → RawMessage → (suffix : List ℕ) → Result Contents ℕ
typed_said None message suffix = Err 903
typed_said (Some body) message suffix =
    if has_nibbles message
    then stamped_said (timestamp_refusal message.timestamp.seconds message.timestamp.nanos) body message suffix
    else Err 904

-- the message that the fields say, or the number of the first reason for which they say none
abbrev pub contents_said : RawMessage → (suffix : List ℕ) → Result Contents ℕ
contents_said message suffix = typed_said
    (body_said message.kind (stamp_said message.timestamp) (identity_of message.requesting)) message suffix

-- the message stands in front of the buffer, and all after it is as it was; or it is refused, and all is
abbrev pub IsEncoded : Contents → (code : ℕ) → (old new : List ℕ) → (old_length new_length : ℕ) → Type 0
IsEncoded m code old new old_length new_length =
    MatchOption (encode_refusal m (length old))
    ((code ≡ 0) × (new_length ≤ length old) × Packet m (take new_length new)
    × (drop new_length new ≡ drop new_length old))
    (λ refusal. (code ≡ code_of_writing refusal) × (new ≡ old) × (new_length ≡ old_length))
