-- Lines are met at no place of a name.
use Rattle.std.proofs.Common.{◌≡◌, Bool, true, false, List, None, ap}
use Rattle.std.specs.Prelude.{not, ◌&&◌, if◌then◌else◌}
use Rattle.datagram_source.specs.Datagram.{DatagramOf, PlaceOf, Line, place_to_all}
use Rattle.recording_measure.specs.declared.watch.WantedPorts.{WantedPorts}
use Rattle.recording_measure.specs.Places.{PlacedRow, name_in}
use Rattle.datagram_source.specs.Stream.{is_exchange}
use Rattle.recording_measure.specs.Chosen.{stays_at, settled}

moved_line : (place : PlaceOf) (b : Bool) → place ≡ Line → name_in (if b then place_to_all place else place) ≡ None
moved_line place true is = ap (λ (p : PlaceOf). name_in (place_to_all p)) is
moved_line place false is = ap name_in is

pub settled_line : (w : WantedPorts) (rows : List PlacedRow) (d : DatagramOf) → d.place ≡ Line → name_in (settled w rows d) ≡ None
settled_line w rows d is = moved_line d.place (is_exchange d.octets && not (stays_at w rows d.place)) is
