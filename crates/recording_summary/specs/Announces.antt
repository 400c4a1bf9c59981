-- What the Announces of the master tell, and where that changed (IEEE 1588-2019, 13.5). Lists have the newest in front.
use Rattle.std.specs.Prelude.{◌≡◌, ℕ, ◌/◌, ◌%◌, ◌==◌, Bool, ◌&&◌, if◌then◌else◌, slice_index}
use Rattle.std.specs.Prelude.{List, [], ◌∷◌, length, Option, Some, None}
use Rattle.std.specs.Bool.{beq}
use Rattle.std.specs.List.{cons_option}
use Rattle.std.specs.Ordering.{int_eq}
use Rattle.std.specs.Str.{bytes_eq}
use Rattle.event_codec.specs.declared.header.Announce.{Announce}
use Rattle.recording_summary.specs.declared.announces.Announced.{Announced}
use Rattle.recording_summary.specs.declared.announces.Announcement.{Announcement}
use Rattle.recording_summary.specs.declared.announces.Announces.{Announces}
use Rattle.recording_summary.specs.declared.announces.Change.{Change}
use Rattle.statistics.specs.Cases.{first_of}
use Rattle.statistics.specs.Wide.{at_most}

-- the bit of this value is set in an octet
abbrev pub is_set : (octet bit : ℕ) → Bool
is_set octet bit = octet / bit % 2 == 1

-- what an Announce tells; of flagField, bit 2 of octet 1 is currentUtcOffsetValid, and bit 3 ptpTimescale (13.3.2.8, table 37)
abbrev pub announced_of : Announce → Announced
announced_of a = record {
  grandmaster = a.grandmaster;
  clock_class = a.clock_class;
  steps_removed = a.steps_removed;
  utc_offset = a.utc_offset;
  is_utc_offset_valid = is_set (slice_index a.header.flags 1) 4;
  is_ptp_timescale = is_set (slice_index a.header.flags 1) 8;
}

-- two tell the same
abbrev pub is_same : Announced → Announced → Bool
is_same a b =
    bytes_eq a.grandmaster b.grandmaster && (a.clock_class == b.clock_class && (a.steps_removed == b.steps_removed
    && (int_eq a.utc_offset b.utc_offset && (beq a.is_utc_offset_valid b.is_utc_offset_valid
    && beq a.is_ptp_timescale b.is_ptp_timescale))))

-- what is told once an Announce came, by which line since when, by what was told before
abbrev pub told_with : (before : Option Announcement) → Announcement → Announcement
told_with None a = a
told_with (Some b) a = if is_same b.announced a.announced then b else a

-- what the last one tells, by the line of the first since which all tell that
abbrev pub told_by : List Announcement → Option Announcement
told_by [] = None
told_by (a ∷ earlier) = Some (told_with (told_by earlier) a)

-- the change with which an Announce comes, after what was told before
abbrev pub change_by : (before : Option Announcement) → Announcement → Option Change
change_by None a = None
change_by (Some b) a =
    if is_same b.announced a.announced then None
    else Some (record { line = a.line; before = b.announced; after = a.announced })

-- the changes: at each Announce that tells another thing than the one before it
abbrev pub changes_in : List Announcement → List Change
changes_in [] = []
changes_in (a ∷ earlier) = cons_option (change_by (told_by earlier) a) (changes_in earlier)

-- what these tell
pub record AreAnnounces (all : List Announcement) (a : Announces) : Type 0 where
  pub count : a.count ≡ at_most (length all)
  pub told : a.told ≡ told_by all
  pub changes : a.changes ≡ at_most (length (changes_in all))
  pub first_change : a.first_change ≡ first_of (changes_in all)
