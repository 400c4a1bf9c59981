-- Which fields of a message are others at one tap than at the other, beside its correctionField (IEEE 1588-2019,
-- 13.3.1).
use Rattle.std.specs.Prelude.{false, Bool, not, ◌&&◌, ◌||◌, ◌==◌, Option, Some, None}
use Rattle.std.specs.Ordering.{int_eq}
use Rattle.std.specs.Str.{bytes_eq}
use Rattle.ptp_units.specs.Moment.{Stamp}
use Rattle.tap_crossing.specs.declared.changes.Changes.{Changes}
use Rattle.tap_crossing.specs.declared.sighting.Fields.{Fields}
use Rattle.tap_crossing.specs.declared.sighting.Sighting.{Sighting}

-- whether two timestamps are one
abbrev pub is_same_timestamp : Stamp → Stamp → Bool
is_same_timestamp a b = a.seconds == b.seconds && a.nanos == b.nanos

abbrev pub no_changes : Changes
no_changes = record {
  sdo = false;
  minor_version = false;
  flags = false;
  specific = false;
  control = false;
  log = false;
  timestamp = false;
}

-- whether a field is another
abbrev pub is_any : Changes → Bool
is_any c = c.sdo || c.minor_version || c.flags || c.specific || c.control || c.log || c.timestamp

-- whether sdoId is, in either of its two parts
abbrev pub is_other_sdo : Fields → Fields → Bool
is_other_sdo a b = not (a.major_sdo == b.major_sdo) || not (a.minor_sdo == b.minor_sdo)

-- which fields differ of two messages
abbrev pub changes_between : Sighting → Sighting → Changes
changes_between one other = record {
  sdo = is_other_sdo one.fields other.fields;
  minor_version = not (one.fields.minor_version == other.fields.minor_version);
  flags = not (bytes_eq one.fields.flags other.fields.flags);
  specific = not (bytes_eq one.fields.specific other.fields.specific);
  control = not (one.fields.control == other.fields.control);
  log = not (int_eq one.fields.log other.fields.log);
  timestamp = not (is_same_timestamp one.timestamp other.timestamp);
}

-- the same of messages where both are needed
abbrev pub changes_of : (one other : Option Sighting) → Changes
changes_of None other = no_changes
changes_of (Some one) None = no_changes
changes_of (Some one) (Some other) = changes_between one other
