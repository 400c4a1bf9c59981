-- What is kept of the places at which datagrams were met while it isn't known whom to watch. Lists of rows have the newest in front,
-- those of recordings and of what they keep the oldest.
use Rattle.std.specs.Prelude.{◌≡◌, ◌⊎◌, ℕ, ◌<◌, ◌≤◌, nat_le, Bool, true, false, List, [], ◌∷◌, ◌++◌, length, map, get_or}
use Rattle.std.specs.Prelude.{Option, Some, None}
use Rattle.std.specs.List.{All}
use Rattle.std.specs.String.{string_bytes}
use Rattle.event_codec.specs.Reading.{IsReading}
use Rattle.datagram_source.specs.declared.datagram.Datagram.{Datagram}
use Rattle.datagram_source.specs.Datagram.{text_of}
use Rattle.recording_model.specs.Recorded.{Recorded}
use Rattle.recording_measure.specs.declared.recording.Kept.{Kept}
use Rattle.recording_measure.specs.declared.recording.Sought.{Sought}
use Rattle.recording_measure.specs.declared.recording.Recording.{Recording}
use Rattle.recording_measure.specs.declared.watch.WantedPorts.{WantedPorts}
use Rattle.recording_measure.specs.Row.{Row, datagrams, kept_most}
use Rattle.recording_measure.specs.Places.{PlaceName, PlacedRow, rows_at, is_among, with_place, places_in, places_most}
use Rattle.recording_measure.specs.Chosen.{is_domain_met, is_port_met}
use Rattle.recording_measure.specs.Counts.{early_at, IsCounts}
use Rattle.recording_measure.specs.Told.{place_in}
use Rattle.recording_measure.specs.Inner.Watching.{IsWatch}

-- a row is that of what was kept of its datagram
pub record IsRowOf (k : Kept) (row : Row) : Type 0 where
  pub written : row.time ≡ string_bytes k.written
  pub octets : row.octets ≡ k.octets.items
  pub numbered : row.datagram.line ≡ k.number
  pub moment_is : row.datagram.time ≡ k.time
  pub said : IsReading k.octets.items row.datagram.said
  pub own : row.own ≡ k.own

-- of what is asked for, what was met in these datagrams
pub record IsSought (w : WantedPorts) (ds : List Recorded) (met : Sought) : Type 0 where
  pub domain : met.domain ≡ is_domain_met w.domain ds
  pub master : met.master ≡ is_port_met w.master ds
  pub slave : met.slave ≡ is_port_met w.slave ds

-- what these datagrams tell was noticed
pub record IsNoticed (w : WantedPorts) (ds : List Recorded) (recording : Recording) : Type 0 where
  pub watch : IsWatch w ds recording.watch
  pub met : IsSought w ds recording.sought

-- before the first datagram of a place
pub record IsFresh (w : WantedPorts) (place : PlaceName) (recording : Recording) : Type 0 where
  pub is_at : place_in recording ≡ place
  pub noticed : IsNoticed w [] recording
  pub kept : recording.kept.items ≡ []
  pub early : IsCounts [] recording.early.counts

-- after these rows come those of what is kept up to those rows
abbrev pub AreKeptRows : (earlier : List Row) → List Kept → List Row → Type 0
AreKeptRows earlier [] rows = rows ≡ earlier
AreKeptRows earlier (k ∷ kept) rows =
    (row : Row) × IsRowOf k row × AreKeptRows (row ∷ earlier) kept rows

-- the rows that a port begins with: those that were kept at the place of an index, or the newest alone
abbrev pub BeginsWith : (is_kept : Bool) → List Recording → (index : ℕ) → (newest : Row) → List Row → Type 0
BeginsWith true recordings index newest rows =
    (d : Recording) → AreKeptRows [] (get_or recordings index d).kept.items rows
BeginsWith false recordings index newest rows = rows ≡ newest ∷ []

-- what is known of a place, of these rows of all; all is kept while these are few
pub record IsRecording (w : WantedPorts) (rows : List PlacedRow) (recording : Recording) : Type 0 where
  pub noticed : IsNoticed w (datagrams (rows_at (place_in recording) rows)) recording
  pub kept : length rows ≤ kept_most
      → AreKeptRows [] recording.kept.items (rows_at (place_in recording) rows)
  pub early : IsCounts (early_at w (place_in recording) (rows_at (place_in recording) rows)) recording.early.counts

-- what is known of all places that are looked at
pub record AreRecordings (w : WantedPorts) (rows : List PlacedRow) (recordings : List Recording) : Type 0 where
  pub places : map place_in recordings ≡ places_in rows
  pub each : All (IsRecording w rows) recordings

-- the index of this place, if it is among these
abbrev pub IsFoundAt : PlaceName → (known : List PlaceName) → Option ℕ → List Recording → Type 0
IsFoundAt place known None recordings = is_among place known ≡ false
IsFoundAt place known (Some index) recordings =
    (is_among place known ≡ true) × (index < length recordings)
    × ((d : Recording) → place_in (get_or recordings index d) ≡ place)

-- a place was found, or added where there was room
pub record HasAdded (w : WantedPorts) (place : PlaceName) (found : Option ℕ) (old new : List Recording) : Type 0 where
  pub places : map place_in new ≡ with_place place (map place_in old)
  pub found_at : IsFoundAt place (map place_in new) found new
  pub recordings : (new ≡ old) ⊎ ((fresh : Recording) × IsFresh w place fresh × (new ≡ old ++ fresh ∷ [])
      × (is_among place (map place_in old) ≡ false) × (nat_le places_most (length old) ≡ false))

-- a copy of a datagram
pub record IsCopy (d : Datagram) (k : Kept) : Type 0 where
  pub numbered : k.number ≡ d.number
  pub moment_is : k.time ≡ d.time
  pub written : string_bytes k.written ≡ text_of d.stamp
  pub octets : k.octets.items ≡ d.octets.now
  pub own : k.own ≡ d.own

-- one more datagram is kept
abbrev pub KeepsMore : (old new : List Kept) → Datagram → Type 0
KeepsMore old new d = (k : Kept) × (new ≡ old ++ k ∷ []) × IsCopy d k
