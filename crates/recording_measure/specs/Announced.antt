-- What the Announces of the master that is watched tell (IEEE 1588-2019, 13.3 and 13.5).
use Rattle.std.specs.Prelude.{ℕ, ◌==◌, Bool, ◌&&◌, List, slice_index, slice_range, if◌then◌else◌, Option, Some, None, Ok, Err}
use Rattle.std.specs.Int.{w16, cast_signed}
use Rattle.event_codec.specs.declared.port.PortIdentity.{PortIdentity}
use Rattle.event_codec.specs.Header.{is_announce}
use Rattle.event_codec.specs.Layout.{number}
use Rattle.event_codec.specs.Port.{is_same_port}
use Rattle.event_codec.specs.Reading.{Reading}
use Rattle.recording_model.specs.declared.watched.Watched.{Watched}
use Rattle.recording_summary.specs.declared.announces.Announced.{Announced}
use Rattle.recording_summary.specs.declared.announces.Announcement.{Announcement}
use Rattle.recording_summary.specs.Announces.{is_set}

-- sourcePortIdentity
abbrev pub source_in : List ℕ → PortIdentity
source_in b = record { clock = slice_range b 20 28; port = number b 28 2 }

-- octets are of the domain, and from the master
abbrev pub is_of_master : Watched → List ℕ → Bool
is_of_master w b = slice_index b 4 == w.domain && is_same_port (source_in b) w.master

-- what octets tell that are an Announce
abbrev pub announced_in : List ℕ → Announced
announced_in b = record {
  grandmaster = slice_range b 53 61;
  clock_class = slice_index b 48;
  steps_removed = number b 61 2;
  utc_offset = cast_signed w16 (number b 44 2);
  is_utc_offset_valid = is_set (slice_index (slice_range b 6 8) 1) 4;
  is_ptp_timescale = is_set (slice_index (slice_range b 6 8) 1) 8;
}

-- the Announce of the master that the octets of this line or packet begin with, if they begin with a whole one
abbrev pub announcement_in : Watched → (line : ℕ) → List ℕ → Option Announcement
announcement_in w line b =
    if is_announce b && is_of_master w b then Some (record { line = line; announced = announced_in b }) else None

-- the same, by what octets say: one of the four messages is no Announce
abbrev pub announcement_said : Watched → (line : ℕ) → Reading → List ℕ → Option Announcement
announcement_said w line (Ok m) b = None
announcement_said w line (Err refusal) b = announcement_in w line b
