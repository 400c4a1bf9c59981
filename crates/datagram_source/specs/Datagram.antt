-- A datagram, by the line or the packet that tells it.
use Rattle.std.specs.Prelude.{◌≡◌, ℕ, Bool, false, List, Some, Ok}
use Rattle.hex.specs.Hex.{decode_of}
use Rattle.ptp_units.specs.Moment.{moment}
use Rattle.event_codec.specs.Reading.{Reading, IsReading}
use Rattle.datagram_text.specs.Shown.{stamp_text}
use Rattle.recording_lines.specs.Timed.{LineParts, timed_in, parted}
use Rattle.capture_file.specs.Packet.{InterfaceOf, PacketOf, Captured, Timeless, Simple, interface_of}
use Rattle.capture_frame.specs.Found as found
use Rattle.capture_frame.specs.Route.{route_in}
use Rattle.tap_choice.specs.TapName.{IsTapName}
use Rattle.datagram_source.specs.Said.{reading_of}
use Rattle.datagram_source.specs.Stream.{stream_of, to_all}
use Rattle.datagram_source.specs.declared.stream.Stream.{Stream}
use Rattle.datagram_source.specs.declared.datagram.Datagram as given
use Rattle.datagram_source.specs.declared.datagram.Place as met
use Rattle.datagram_source.specs.declared.datagram.Place.TheVariants as places
use Rattle.datagram_source.specs.declared.stamp.Stamp as told
use Rattle.datagram_source.specs.declared.stamp.Stamp.TheVariants as stamps
use Rattle.datagram_source.specs.declared.lines.LineForm.{LineForm}
use Rattle.datagram_source.specs.declared.lines.LineForm.TheVariants.{Timed, AtTaps}

-- the most octets of a datagram that a task is given
abbrev pub octets_limit : ℕ
octets_limit = 2048

-- where a datagram was met: at no place of a name, since its line tells none; at the tap that its line names; or at an interface, in a
-- stream
pub data PlaceOf : Type 0 where
  Line : PlaceOf
  Tap : (name : List ℕ) → PlaceOf
  Interface : (interface : InterfaceOf) → (stream : Stream) → PlaceOf

-- a datagram, by the number and the time of its line or packet, and by the text of this time; whether a slave told it as a reading of
-- its own
pub record DatagramOf : Type 0 where
  pub place : PlaceOf
  pub number : ℕ
  pub time : ℕ
  pub written : List ℕ
  pub octets : List ℕ
  pub said : Reading
  pub own : Bool

-- a place without where its name lies in memory
abbrev pub place_of : met.Place → PlaceOf
place_of places.Line = Line
place_of (places.Tap name) = Tap name
place_of (places.Interface interface stream) = Interface (interface_of interface) stream

-- the same place, but of what goes to all slaves
abbrev pub place_to_all : PlaceOf → PlaceOf
place_to_all Line = Line
place_to_all (Tap name) = Tap name
place_to_all (Interface interface stream) = Interface interface (to_all stream)

-- the text of a time: as a line has it, or of a packet seconds, a point and nine decimals
abbrev pub text_of : told.Stamp → List ℕ
text_of (stamps.Written text) = text.now
text_of (stamps.Clock time) = stamp_text time

-- a datagram without where its octets lie in memory
abbrev pub datagram_of : given.Datagram → DatagramOf
datagram_of d = record {
  place = place_of d.place;
  number = d.number;
  time = d.time;
  written = text_of d.stamp;
  octets = d.octets.now;
  said = reading_of d.said;
  own = d.own;
}

-- the end of the line of this number, which was met at this place: a time, a blank, and a datagram in hexadecimal
pub record IsTimedDatagram (number : ℕ) (rest : List ℕ) (place : PlaceOf) (d : DatagramOf) : Type 0 where
  pub parts : LineParts
  pub there : timed_in rest ≡ Some parts
  pub decoded : decode_of parts.digits ≡ Ok d.octets
  pub placed : d.place ≡ place
  pub numbered : d.number ≡ number
  pub moment_is : d.time ≡ parts.time
  pub written : d.written ≡ parts.text
  pub said : IsReading d.octets d.said
  pub captured : d.own ≡ false

-- a line of this number: the name of a tap, a blank, a time, a blank, and a datagram in hexadecimal
pub record IsTapDatagram (number : ℕ) (line : List ℕ) (d : DatagramOf) : Type 0 where
  pub tap : List ℕ
  pub rest : List ℕ
  pub split : parted 32 line ≡ Some (tap, rest)
  pub named : IsTapName tap
  pub timed : IsTimedDatagram number rest (Tap tap) d

-- a line of this form and this number tells this datagram
abbrev pub IsDatagramLine : LineForm → (number : ℕ) → List ℕ → DatagramOf → Type 0
IsDatagramLine Timed number line d = IsTimedDatagram number line Line d
IsDatagramLine AtTaps number line d = IsTapDatagram number line d

-- the packet of this number carries this datagram
abbrev pub IsDatagramPacket : (number : ℕ) → PacketOf → DatagramOf → Type 0
IsDatagramPacket number (Captured interface time link octets) d =
    found.IsFound link octets (found.Datagram d.octets) × (d.place ≡ Interface interface (stream_of (route_in link octets) d.octets))
    × (d.number ≡ number) × (d.time ≡ moment time 0) × (d.written ≡ stamp_text time) × IsReading d.octets d.said × (d.own ≡ false)
IsDatagramPacket number Timeless d = ⊥
IsDatagramPacket number Simple d = ⊥
