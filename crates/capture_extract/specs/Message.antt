-- What is read of a datagram: a message with its header, and who is answered.
use Rattle.std.specs.Prelude.{ℕ, ◌+◌, ◌/◌, ◌==◌, Bool, true, false, ◌&&◌, nat_lt, if◌then◌else◌}
use Rattle.std.specs.Prelude.{List, length, slice_index, slice_range, Option, Some, None, Result, Ok, Err}
use Rattle.std.specs.Int.{w8, w64, cast_signed}
use Rattle.event_codec.specs.declared.message.Header.{Header}
use Rattle.event_codec.specs.declared.port.PortIdentity.{PortIdentity}
use Rattle.event_codec.specs.declared.refusal.DecodeRefusal.{DecodeRefusal}
use Rattle.event_codec.specs.declared.refusal.DecodeRefusal.TheVariants as refusals
use Rattle.event_codec.specs.Header.{header_refusal}
use Rattle.event_codec.specs.Layout.{number}
use Rattle.datagram_source.specs.Datagram.{DatagramOf}
use Rattle.datagram_source.specs.Stream.{type_in}
use Rattle.capture_extract.specs.declared.header.Listed.{Listed}
use Rattle.capture_extract.specs.declared.header.Unlisted.{Unlisted}
use Rattle.capture_extract.specs.declared.header.Unlisted.TheVariants.{OtherVersion, TooShort}
use Rattle.capture_extract.specs.declared.message_type.MessageType.{MessageType}
use Rattle.capture_extract.specs.declared.message_type.MessageType.TheVariants as types

-- the type of this number (IEEE 1588-2019, table 36)
abbrev pub type_numbered : ℕ → MessageType
type_numbered number =
    if number == 0 then types.Sync
    else if number == 1 then types.DelayReq
    else if number == 2 then types.PdelayReq
    else if number == 3 then types.PdelayResp
    else if number == 8 then types.FollowUp
    else if number == 9 then types.DelayResp
    else if number == 10 then types.PdelayRespFollowUp
    else if number == 11 then types.Announce
    else if number == 12 then types.Signaling
    else if number == 13 then types.Management
    else types.Reserved number

-- it has a requestingPortIdentity (13.8, 13.10 and 13.11)
abbrev pub has_requesting : MessageType → Bool
has_requesting types.DelayResp = true
has_requesting types.PdelayResp = true
has_requesting types.PdelayRespFollowUp = true
has_requesting _ = false

-- the port's identity in octets i to i + 9 (5.3.5)
abbrev pub identity_at : List ℕ → ℕ → PortIdentity
identity_at b i = record { clock = slice_range b i (i + 8); port = number b (i + 8) 2 }

-- the header in octets 0 to 33 (13.3)
abbrev pub header_in : List ℕ → Header
header_in b = record {
  major_sdo = slice_index b 0 / 16;
  minor_version = slice_index b 1 / 16;
  domain = slice_index b 4;
  minor_sdo = slice_index b 5;
  flags = slice_range b 6 8;
  correction = record { 0 = cast_signed w64 (number b 8 8) };
  specific = slice_range b 16 20;
  source = identity_at b 20;
  sequence = record { 0 = number b 30 2 };
  control = slice_index b 32;
  log = cast_signed w8 (slice_index b 33);
}

-- who is answered stands in octets 44 to 53, behind a timestamp
abbrev pub requesting_in : MessageType → List ℕ → Option PortIdentity
requesting_in message b = if has_requesting message then Some (identity_at b 44) else None

-- a message of this type ends before that
abbrev pub is_cut : MessageType → List ℕ → Bool
is_cut message b = has_requesting message && nat_lt (length b) 54

-- the message that a datagram of version 2 is
abbrev pub message_in : DatagramOf → Listed
message_in d = record {
  packet = d.number;
  time = d.time;
  message = type_numbered (type_in d.octets);
  header = header_in d.octets;
  requesting = requesting_in (type_numbered (type_in d.octets)) d.octets;
}

-- why a datagram whose header is refused isn't listed
abbrev pub unlisted_by : DecodeRefusal → Unlisted
unlisted_by refusals.Version = OtherVersion
unlisted_by _ = TooShort

abbrev pub read_by : Option DecodeRefusal → DatagramOf → Result Listed Unlisted
read_by (Some refusal) d = Err (unlisted_by refusal)
read_by None d = if is_cut (type_numbered (type_in d.octets)) d.octets then Err TooShort else Ok (message_in d)

-- the message that a datagram is, or why it isn't listed
abbrev pub read : DatagramOf → Result Listed Unlisted
read d = read_by (header_refusal d.octets) d
