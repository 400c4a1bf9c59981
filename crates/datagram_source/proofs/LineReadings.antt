-- What is read of a line.
use Rattle.std.proofs.Common.{◌≡◌, ◌∙◌, ℕ, ◌/◌, false, List, length, take, refl, sym, ap, subst}
use Rattle.std.specs.Option.{option_map_or}
use Rattle.event_codec.specs.Reading.{Reading, IsReading}
use Rattle.recording_lines.specs.Timed.{parts_of, timed_in}
use Rattle.datagram_source.specs.declared.lines.Line as parted_as
use Rattle.datagram_source.specs.declared.lines.LineForm.{LineForm}
use Rattle.datagram_source.specs.declared.lines.LineForm.TheVariants.{Timed, AtTaps}
use Rattle.datagram_source.specs.Datagram.{PlaceOf, Line, Tap, place_of, DatagramOf, IsTimedDatagram, IsDatagramLine}
use Rattle.datagram_source.specs.Inner.LineReading.{IsPlaced, NoPlace, NoOctets, IsLine}
use Rattle.datagram_source.specs.Unread.{NoDatagram}

-- ---- the place and what stands behind it
-- one thing alone stands there
one_rest : (form : LineForm) (line : List ℕ) (place place' : PlaceOf) (rest rest' : List ℕ) → IsPlaced form line place rest
    → IsPlaced form line place' rest' → rest' ≡ rest
one_rest Timed line place place' rest rest' one other = other.1 ∙ sym one.1
one_rest AtTaps line place place' rest rest' (tap, split, named, is) (tap', split', named', is') =
    ap (λ o. option_map_or (λ p. p.1) o rest') (sym split' ∙ split)

-- a line that tells a datagram has a place, and a datagram behind it
in_parts : (form : LineForm) (number : ℕ) (line : List ℕ) (d : DatagramOf) → IsDatagramLine form number line d
    → (place : PlaceOf) × (rest : List ℕ) × IsPlaced form line place rest × IsTimedDatagram number rest place d
in_parts Timed number line d is = (Line, line, (refl, refl), is)
in_parts AtTaps number line d is = (Tap is.tap, is.rest, (is.tap, is.split, is.named, refl), is.timed)

of_parts : (form : LineForm) (number : ℕ) (line : List ℕ) (d : DatagramOf) (place : PlaceOf) (rest : List ℕ)
    → IsPlaced form line place rest → IsTimedDatagram number rest place d → IsDatagramLine form number line d
of_parts Timed number line d place rest (is, same) timed =
    subst (λ (r : List ℕ). IsTimedDatagram number r Line d) same (subst (λ (p : PlaceOf). IsTimedDatagram number rest p d) is timed)
of_parts AtTaps number line d place rest (tap, split, named, is) timed = record {
  tap = tap;
  rest = rest;
  split = split;
  named = named;
  timed = subst (λ (p : PlaceOf). IsTimedDatagram number rest p d) is timed;
}

-- ---- the datagram
pub number_of : (form : LineForm) (number : ℕ) (line : List ℕ) (d : DatagramOf) → IsDatagramLine form number line d → d.number ≡ number
number_of form number line d is = let (place, rest, placed, timed) = in_parts form number line d is in timed.numbered

pub no_place : (form : LineForm) (line : List ℕ) → NoPlace form line → NoDatagram form line
no_place form line never number d is =
    let (place, rest, placed, timed) = in_parts form number line d is in never place rest placed

pub no_octets : (form : LineForm) (line : List ℕ) (place : PlaceOf) (rest : List ℕ) → IsPlaced form line place rest → NoOctets rest
    → NoDatagram form line
no_octets form line place rest placed never number d is =
    let (place', rest', placed', timed) = in_parts form number line d is in
    never timed.parts d.octets (ap timed_in (sym (one_rest form line place place' rest rest' placed placed')) ∙ timed.there) timed.decoded

-- the datagram of a line that has these parts, and whose octets say this
pub line_read : (form : LineForm) (number own : ℕ) (line room : List ℕ) (read : parted_as.Line) (said : Reading) → own ≡ number
    → IsLine form line room read → IsReading (take (length read.timed.digits.now / 2) room) said
    → IsDatagramLine form number line (record {
      place = place_of read.place;
      number = own;
      time = read.timed.time;
      written = read.timed.text.now;
      octets = take (length read.timed.digits.now / 2) room;
      said = said;
      own = false;
    })
line_read form number own line room read said same is reads = of_parts form number line _ (place_of read.place) is.rest is.placed (record {
  parts = parts_of read.timed;
  there = is.has.there;
  decoded = is.has.decoded;
  placed = refl;
  numbered = same;
  moment_is = refl;
  written = refl;
  said = reads;
  captured = refl;
})
