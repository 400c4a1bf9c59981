-- What is met at a tap: a datagram, by the place at which it was met.
use Rattle.std.specs.Prelude.{◌≡◌, ℕ, List, Option, Some, option_map}
use Rattle.std.specs.Result.{result_ok}
use Rattle.event_codec.specs.Packet.{Contents}
use Rattle.capture_file.specs.Packet.{InterfaceOf}
use Rattle.capture_file.specs.Name.{place_text}
use Rattle.datagram_source.specs.Datagram.{PlaceOf, Line, Tap, Interface, DatagramOf}
use Rattle.tap_choice.specs.TapName.{IsTapName}
use Rattle.tap_choice.specs.declared.met.Met.{Met}
use Rattle.tap_choice.specs.declared.met.Side.{Side}

-- the message that a datagram begins with, as it was met
abbrev pub met_as : Side → DatagramOf → Contents → Met
met_as side d m = record { side = side; line = d.number; time = d.time; header = m.header; body = m.body }

abbrev pub met_in : Side → DatagramOf → Option Met
met_in side d = option_map (met_as side d) (result_ok d.said)

-- what the tap of an interface is called: by its name, where a tap may be called so, or else by its place
pub data IsTapOf : InterfaceOf → List ℕ → Type 0 where
  Own : (interface : InterfaceOf) → (name : List ℕ) → interface.name ≡ Some name → IsTapName name → IsTapOf interface name
  Place : (interface : InterfaceOf) → ((name : List ℕ) → interface.name ≡ Some name → IsTapName name → ⊥)
      → IsTapOf interface (place_text interface.place)

-- what the tap is called at which a datagram was met; one whose line tells no place has none
abbrev pub IsTapAt : PlaceOf → List ℕ → Type 0
IsTapAt Line tap = ⊥
IsTapAt (Tap name) tap = tap ≡ name
IsTapAt (Interface interface stream) tap = IsTapOf interface tap
