-- The layout: when octets are a message (IEEE 1588-2019, 13.3 and 13.6 to 13.8).
use Rattle.std.specs.Prelude.{◌≡◌, ℕ, ◌+◌, ◌*◌, ◌^◌, ◌<◌, ◌≤◌, List, length, drop, EachIndex, slice_index, slice_range}
use Rattle.std.specs.Int.{w8, w64, cast_signed}
use Rattle.ptp_units.specs.Moment.{Stamp}
use Rattle.event_codec.specs.declared.message.Header.{Header}
use Rattle.event_codec.specs.declared.message.Body.{Body}
use Rattle.event_codec.specs.declared.message.Body.TheVariants.{Sync, DelayReq, FollowUp, DelayResp}
use Rattle.event_codec.specs.declared.message.Message.{Message}
use Rattle.event_codec.specs.declared.port.PortIdentity.{PortIdentity}
use Rattle.event_codec.specs.Layout.{number, number_of, type_of, fields_length, stamp_in}

-- a message without where its suffix lies in memory
pub record Contents : Type 0 where
  pub header : Header
  pub body : Body
  pub suffix : List ℕ

-- a message, wherever its suffix lies in memory
abbrev pub contents : Message → Contents
contents m = record { header = m.header; body = m.body; suffix = m.suffix.now }

-- octets i to i + 9 of b are this port's identity (5.3.5)
pub record IsIdentityAt (identity : PortIdentity) (b : List ℕ) (i : ℕ) : Type 0 where
  pub clock : identity.clock ≡ slice_range b i (i + 8)
  pub port : identity.port ≡ number b (i + 8) 2

-- octets i to i + 9 of b are this timestamp (5.3.3)
pub record IsTimestampAt (timestamp : Stamp) (b : List ℕ) (i : ℕ) : Type 0 where
  pub seconds : timestamp.seconds ≡ number b i 6
  pub nanoseconds : timestamp.nanos ≡ number b (i + 6) 4
  pub within_second : number b (i + 6) 4 < 10 ^ 9

-- octets 0 to 33 of b are this header, with this messageType and messageLength (13.3)
pub record IsHeader (header : Header) (kind size : ℕ) (b : List ℕ) : Type 0 where
  pub major_sdo_and_type : slice_index b 0 ≡ 16 * header.major_sdo + kind
  pub minor_version_and_version : slice_index b 1 ≡ 16 * header.minor_version + 2
  pub message_length : number b 2 2 ≡ size
  pub domain : header.domain ≡ slice_index b 4
  pub minor_sdo : header.minor_sdo ≡ slice_index b 5
  pub flags : header.flags ≡ slice_range b 6 8
  pub correction : header.correction.0 ≡ cast_signed w64 (number b 8 8)
  pub specific : header.specific ≡ slice_range b 16 20
  pub source : IsIdentityAt header.source b 20
  pub sequence : header.sequence.0 ≡ number b 30 2
  pub control : header.control ≡ slice_index b 32
  pub log : header.log ≡ cast_signed w8 (slice_index b 33)

-- octets 44 to 53 of a Delay_Resp are its requestingPortIdentity; the other types have none
abbrev pub IsRequesting : Body → List ℕ → Type 0
IsRequesting (Sync origin) b = Unit {0}
IsRequesting (DelayReq origin) b = Unit {0}
IsRequesting (FollowUp precise) b = Unit {0}
IsRequesting (DelayResp receive requesting) b = IsIdentityAt requesting b 44

-- b is the message, octet for octet
pub record Packet (m : Contents) (b : List ℕ) : Type 0 where
  pub octets : EachIndex b (λ k. slice_index b k < 256)
  pub least : fields_length (type_of m.body) ≤ length b
  pub header : IsHeader m.header (number_of (type_of m.body)) (length b) b
  pub timestamp : IsTimestampAt (stamp_in m.body) b 34
  pub requesting : IsRequesting m.body b
  pub suffix : m.suffix ≡ drop (fields_length (type_of m.body)) b
