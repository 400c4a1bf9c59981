-- Where datagrams were met: at places, each of which is a recording of its own. Lists of rows have the newest in front.
use Rattle.std.specs.Prelude.{ℕ, nat_le, Bool, true, false, ◌||◌, ◌&&◌, List, [], ◌∷◌, ◌++◌, length, if◌then◌else◌, Option, Some, None}
use Rattle.std.specs.List.{list_any}
use Rattle.std.specs.Str.{bytes_eq}
use Rattle.capture_file.specs.Name.{name_of}
use Rattle.datagram_source.specs.Datagram.{PlaceOf, Line, Tap, Interface, DatagramOf}
use Rattle.datagram_source.specs.Stream.{plain, is_same_stream}
use Rattle.datagram_source.specs.declared.stream.Stream.{Stream}
use Rattle.recording_measure.specs.Row.{Row, row_of}

-- a place that has a name: a tap, or one of the streams at an interface
pub record Named : Type 0 where
  pub name : List ℕ
  pub stream : Stream

-- what a place is called; lines that tell none are all met at one without a name
abbrev pub PlaceName : Type 0
PlaceName = Option Named

abbrev pub name_in : PlaceOf → PlaceName
name_in Line = None
name_in (Tap name) = Some (record { name = name; stream = plain })
name_in (Interface interface stream) = Some (record { name = name_of interface; stream = stream })

-- a row, and where its datagram was met
pub record PlacedRow : Type 0 where
  pub place : PlaceName
  pub row : Row

-- that of a datagram, which belongs here
abbrev pub placed : PlaceOf → DatagramOf → PlacedRow
placed place d = record { place = name_in place; row = row_of d }

-- places that are called alike and are of one stream are one, though each section of a capture describes its own interfaces
abbrev pub is_same_place : (one other : PlaceName) → Bool
is_same_place None None = true
is_same_place None (Some other) = false
is_same_place (Some one) None = false
is_same_place (Some one) (Some other) = bytes_eq one.name other.name && is_same_stream one.stream other.stream

-- the rows at a place
abbrev pub rows_at : PlaceName → List PlacedRow → List Row
rows_at place [] = []
rows_at place (r ∷ earlier) =
    if is_same_place place r.place then r.row ∷ rows_at place earlier else rows_at place earlier

-- the most places that are looked at
abbrev pub places_most : ℕ
places_most = 64

-- one of these places is this one
abbrev pub is_among : PlaceName → List PlaceName → Bool
is_among place known = list_any (λ one. is_same_place one place) known

-- one more place, unless it is there or there are enough
abbrev pub with_place : PlaceName → List PlaceName → List PlaceName
with_place place known =
    if is_among place known || nat_le places_most (length known) then known else known ++ place ∷ []

-- the places that are looked at, in order: the first that have a row
abbrev pub places_in : List PlacedRow → List PlaceName
places_in [] = []
places_in (r ∷ earlier) = with_place r.place (places_in earlier)

-- the rows at a place, where it is looked at
abbrev pub rows_looked_at : PlaceName → List PlacedRow → List Row
rows_looked_at place rows = if is_among place (places_in rows) then rows_at place rows else []
