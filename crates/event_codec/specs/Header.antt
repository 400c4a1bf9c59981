-- Headers of messages of every type, and Announce (IEEE 1588-2019, 13.3 and 13.5).
use Rattle.std.specs.Prelude.{◌≡◌, ℕ, ◌≤◌, ◌<◌, ◌%◌, List, length, slice_index, slice_range, nat_lt, nat_le, ◌==◌, Bool, ◌&&◌}
use Rattle.std.specs.Prelude.{if◌then◌else◌, Option, Some, None}
use Rattle.std.specs.Int.{w16, cast_signed}
use Rattle.event_codec.specs.declared.message.Header.{Header}
use Rattle.event_codec.specs.declared.header.Announce.{Announce}
use Rattle.event_codec.specs.declared.refusal.DecodeRefusal.{DecodeRefusal}
use Rattle.event_codec.specs.declared.refusal.DecodeRefusal.TheVariants.{Short, Version}
use Rattle.event_codec.specs.Layout.{number}
use Rattle.event_codec.specs.Packet.{IsHeader}

-- the first refusal that applies to the header of a message of any type, and none where octets begin with one
abbrev pub header_refusal : List ℕ → Option DecodeRefusal
header_refusal b =
    if nat_lt (length b) 34 then Some Short
    else if slice_index b 1 % 16 == 2 then None
    else Some Version

-- b begins with this header, of a message with this messageType
abbrev pub HasHeader : (kind : ℕ) → Header → List ℕ → Type 0
HasHeader kind header b = (kind < 16) × IsHeader header kind (number b 2 2) b

-- whether b begins with a whole Announce: its messageType is 11, its fields take 64 octets
abbrev pub is_announce : List ℕ → Bool
is_announce b =
    nat_le 34 (length b) && slice_index b 1 % 16 == 2 && slice_index b 0 % 16 == 11
    && nat_le 64 (number b 2 2) && nat_le (number b 2 2) (length b)

-- b begins with this Announce (13.5)
pub record IsAnnounce (announce : Announce) (b : List ℕ) : Type 0 where
  pub header : IsHeader announce.header 11 (number b 2 2) b
  pub least : 64 ≤ number b 2 2
  pub whole : number b 2 2 ≤ length b
  pub utc_offset : announce.utc_offset ≡ cast_signed w16 (number b 44 2)
  pub clock_class : announce.clock_class ≡ slice_index b 48
  pub grandmaster : announce.grandmaster ≡ slice_range b 53 61
  pub steps_removed : announce.steps_removed ≡ number b 61 2
