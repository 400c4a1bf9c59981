-- What is read of a line.
use Rattle.std.specs.Prelude.{◌≡◌, ℕ, ◌≤◌, ◌/◌, List, length, take, Some, Ok}
use Rattle.hex.specs.Hex.{decode_of}
use Rattle.recording_lines.specs.Timed.{LineParts, parted, parts_of, timed_in}
use Rattle.recording_lines.specs.declared.timed.Timed as read_as
use Rattle.tap_choice.specs.TapName.{IsTapName}
use Rattle.datagram_source.specs.declared.lines.Line as parted_as
use Rattle.datagram_source.specs.declared.lines.LineForm.{LineForm}
use Rattle.datagram_source.specs.declared.lines.LineForm.TheVariants.{Timed, AtTaps}
use Rattle.datagram_source.specs.Datagram.{PlaceOf, Line, Tap, place_of}

-- a line of this form tells this place, and this stands behind it
abbrev pub IsPlaced : LineForm → List ℕ → PlaceOf → (rest : List ℕ) → Type 0
IsPlaced Timed line place rest = (place ≡ Line) × (rest ≡ line)
IsPlaced AtTaps line place rest = (tap : List ℕ) × (parted 32 line ≡ Some (tap, rest)) × IsTapName tap × (place ≡ Tap tap)

-- or it tells none
abbrev pub NoPlace : LineForm → List ℕ → Type 0
NoPlace form line = (place : PlaceOf) (rest : List ℕ) → IsPlaced form line place rest → ⊥

-- what stands behind the place is no time with octets
abbrev pub NoOctets : List ℕ → Type 0
NoOctets rest = (parts : LineParts) (octets : List ℕ) → timed_in rest ≡ Some parts → decode_of parts.digits ≡ Ok octets → ⊥

-- or it has these parts, and the octets of the datagram stand at the front of this room
pub record HasOctets (rest room : List ℕ) (timed : read_as.Timed) : Type 0 where
  pub there : timed_in rest ≡ Some (parts_of timed)
  pub within : length timed.digits.now / 2 ≤ length room
  pub decoded : decode_of timed.digits.now ≡ Ok (take (length timed.digits.now / 2) room)

-- a line of this form has these parts, and the octets of its datagram stand at the front of this room
pub record IsLine (form : LineForm) (line room : List ℕ) (read : parted_as.Line) : Type 0 where
  pub rest : List ℕ
  pub placed : IsPlaced form line (place_of read.place) rest
  pub has : HasOctets rest room read.timed
