-- The text of a datagram.
use Rattle.std.specs.Prelude.{◌≡◌, ℕ, ◌-◌, ◌≤◌, ◌⊎◌, ℤ, int_lt, replicate, List, [], ◌∷◌}
use Rattle.std.specs.Prelude.{◌++◌, length, take, slice_index, codes, Some, if◌then◌else◌}
use Rattle.std.specs.Fmt.{decimal, signed_decimal}
use Rattle.hex.specs.Hex.{encode_lower, lower_digits}
use Rattle.ptp_units.specs.Moment.{Stamp}
use Rattle.ptp_units.specs.Interval.{too_big}
use Rattle.event_codec.specs.declared.message.Header.{Header}
use Rattle.event_codec.specs.declared.message.Body.{Body}
use Rattle.event_codec.specs.declared.message.Body.TheVariants.{Sync, DelayReq, FollowUp, DelayResp}
use Rattle.event_codec.specs.declared.port.PortIdentity.{PortIdentity}
use Rattle.event_codec.specs.declared.refusal.DecodeRefusal.{DecodeRefusal}
use Rattle.event_codec.specs.declared.refusal.DecodeRefusal.TheVariants.{OtherType}
use Rattle.event_codec.specs.Layout.{stamp_in}
use Rattle.event_codec.specs.Packet.{Contents, Packet}
use Rattle.event_codec.specs.Refusal.{code_of, decode_refusal}

abbrev pub name_of : Body → List ℕ
name_of (Sync origin) = codes "Sync"
name_of (DelayReq origin) = codes "Delay_Req"
name_of (FollowUp precise) = codes "Follow_Up"
name_of (DelayResp receive requesting) = codes "Delay_Resp"

-- majorSdoId and minorSdoId as three hexadecimal digits
abbrev pub sdo_text : Header → List ℕ
sdo_text header = slice_index lower_digits header.major_sdo ∷ encode_lower (header.minor_sdo ∷ [])

-- clockIdentity in hexadecimal, a slash, and portNumber
abbrev pub identity_text : PortIdentity → List ℕ
identity_text identity = encode_lower identity.clock ++ codes "/" ++ decimal identity.port

-- a signed number of units, or that the correction is too big
abbrev pub correction_text : ℤ → List ℕ
correction_text units = if int_lt units too_big then signed_decimal units else codes "too-big"

-- a number below 10^9 in nine digits
abbrev pub nine_digits : ℕ → List ℕ
nine_digits n = replicate (9 - length (decimal n)) 48 ++ decimal n

-- seconds, a point, and nine digits of nanoseconds
abbrev pub stamp_text : Stamp → List ℕ
stamp_text stamp = decimal stamp.seconds ++ codes "." ++ nine_digits stamp.nanos

-- a Delay_Resp's requestingPortIdentity
abbrev pub requesting_text : Body → List ℕ
requesting_text (Sync origin) = []
requesting_text (DelayReq origin) = []
requesting_text (FollowUp precise) = []
requesting_text (DelayResp receive requesting) = codes " requesting=" ++ identity_text requesting

-- the fields that all messages have, after the name of the type
abbrev pub header_text : Header → List ℕ → List ℕ
header_text header name =
    name ++ codes " sdo=" ++ sdo_text header
    ++ codes " version=2." ++ decimal header.minor_version
    ++ codes " domain=" ++ decimal header.domain
    ++ codes " flags=" ++ encode_lower header.flags
    ++ codes " correction=" ++ correction_text header.correction.0
    ++ codes " specific=" ++ encode_lower header.specific
    ++ codes " source=" ++ identity_text header.source
    ++ codes " seq=" ++ decimal header.sequence.0
    ++ codes " control=" ++ decimal header.control
    ++ codes " log=" ++ signed_decimal header.log

-- the text of a message that takes `used` octets
abbrev pub message_text : Contents → ℕ → List ℕ
message_text m used =
    header_text m.header (name_of m.body)
    ++ codes " stamp=" ++ stamp_text (stamp_in m.body)
    ++ requesting_text m.body
    ++ codes " suffix=" ++ decimal (length m.suffix)
    ++ codes " used=" ++ decimal used

-- the type of a message that isn't one of the four
abbrev pub other_type_text : DecodeRefusal → List ℕ
other_type_text (OtherType kind) = codes " type " ++ decimal kind
other_type_text refusal = []

-- the number of a refusal, and the type that is refused
abbrev pub refusal_text : DecodeRefusal → List ℕ
refusal_text refusal = codes "refused " ++ decimal (code_of refusal) ++ other_type_text refusal

-- the datagram begins with a message, and this is its text
pub record ShowsMessage (octets text : List ℕ) : Type 0 where
  pub message : Contents
  pub used : ℕ
  pub within : used ≤ length octets
  pub packet : Packet message (take used octets)
  pub shown : text ≡ message_text message used

-- the datagram is refused, and this is the text of the refusal
pub record ShowsRefusal (octets text : List ℕ) : Type 0 where
  pub refusal : DecodeRefusal
  pub first : decode_refusal octets ≡ Some refusal
  pub shown : text ≡ refusal_text refusal

-- the one text that a datagram is shown by
abbrev pub IsShownAs : List ℕ → List ℕ → Type 0
IsShownAs octets text = ShowsMessage octets text ⊎ ShowsRefusal octets text

-- the text of the datagram stands after the old text
abbrev pub AppendsShown : List ℕ → List ℕ → List ℕ → Type 0
AppendsShown octets old new = (text : List ℕ) × IsShownAs octets text × (new ≡ old ++ text)
