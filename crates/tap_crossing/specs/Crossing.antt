-- A crossing: what a message took from tap to tap, by how much it was corrected, and what rests; and why a record that has
-- what it needs is none. Numbers are in units of 2^-16 ns.
use Rattle.std.specs.Prelude.{◌≡◌, ℕ, ℤ, pos, ◌+ℤ◌, ◌-ℤ◌, Bool, false, not, ◌&&◌, ◌||◌, Option, Some, None, is_none}
use Rattle.std.specs.Prelude.{if◌then◌else◌}
use Rattle.ptp_units.specs.Moment.{Stamp}
use Rattle.ptp_units.specs.Exchange.{IsBracket}
use Rattle.ptp_units.specs.Interval.{exact}
use Rattle.ptp_units.specs.declared.sequence.Seq.{Seq}
use Rattle.tap_crossing.specs.Changes.{is_same_timestamp, changes_between, changes_of}
use Rattle.tap_crossing.specs.declared.sighting.Kind.{Kind}
use Rattle.tap_crossing.specs.declared.sighting.Kind.TheVariants as kinds
use Rattle.tap_crossing.specs.declared.sighting.Sighting.{Sighting}
use Rattle.tap_crossing.specs.declared.places.Complete.{Complete}
use Rattle.tap_crossing.specs.declared.crossing.Crossing.{Crossing}
use Rattle.tap_crossing.specs.declared.crossing.NoCrossing.{NoCrossing}
use Rattle.tap_crossing.specs.declared.crossing.NoCrossing.TheVariants as reasons

-- its correction is too big to be represented (IEEE 1588-2019, 13.3.2.9), where there is a message
abbrev pub is_too_big : Option Sighting → Bool
is_too_big None = false
is_too_big (Some s) = is_none (exact s.correction.0)

-- a correction of what is needed is
abbrev pub is_any_too_big : Complete → Bool
is_any_too_big c = is_too_big (Some c.first) || is_too_big (Some c.second) || is_too_big c.at_from || is_too_big c.at_to

-- the timestamp that is told of an event message at a tap: its own, unless another message is needed there
abbrev pub timestamp_told : (event : Sighting) → (other : Option Sighting) → Stamp
timestamp_told event None = event.timestamp
timestamp_told event (Some other) = other.timestamp

-- another timestamp is told at `from` than at `to`; the first tap of a Sync is `from`, and that of a Delay_Req `to`
abbrev pub is_other_timestamp : Kind → Complete → Bool
is_other_timestamp kinds.Sync c =
    not (is_same_timestamp (timestamp_told c.first c.at_from) (timestamp_told c.second c.at_to))
is_other_timestamp kinds.DelayReq c =
    not (is_same_timestamp (timestamp_told c.second c.at_from) (timestamp_told c.first c.at_to))

-- the first reason for which it is no crossing
abbrev pub no_crossing : Kind → Complete → Option NoCrossing
no_crossing kind c =
    if is_any_too_big c then Some reasons.TooBig
    else if c.first.needs_other && not c.second.needs_other then Some reasons.TwoStepAtFromAlone
    else if is_other_timestamp kind c then Some reasons.OtherTimestamp
    else None

-- the correction of a message, 0 where none is needed
abbrev pub correction_of : Option Sighting → ℤ
correction_of None = pos 0
correction_of (Some s) = s.correction.0

-- the time of the event message at its second tap less that at its first
abbrev pub taken : Complete → ℤ
taken c = pos c.second.time -ℤ pos c.first.time

-- by how much a correction grew from a message to another
abbrev pub growth : (from to : Option Sighting) → ℤ
growth from to = correction_of to -ℤ correction_of from

-- what the correction of the event message grew by from its first tap to its second, and that of its Follow_Up or Delay_Resp
-- from `from` to `to`
abbrev pub corrected : Complete → ℤ
corrected c = growth (Some c.first) (Some c.second) +ℤ growth c.at_from c.at_to

-- the line of a message, where one is needed
abbrev pub line_of : Option Sighting → Option ℕ
line_of None = None
line_of (Some s) = Some s.line

-- the crossing
abbrev pub crossing : Kind → (number : Seq) → Complete → Crossing
crossing kind number c = record {
  kind = kind;
  number = number;
  time = c.first.time;
  taken = taken c;
  corrected = corrected c;
  rest = taken c -ℤ corrected c;
  first_line = c.first.line;
  second_line = c.second.line;
  from_line = line_of c.at_from;
  to_line = line_of c.at_to;
  event_changes = changes_between c.first c.second;
  other_changes = changes_of c.at_from c.at_to;
}

-- what was taken and what was corrected lies between -2^96 and 2^96, and what rests is their difference
pub record IsWithin (x : Crossing) : Type 0 where
  pub taken : IsBracket x.taken
  pub corrected : IsBracket x.corrected
  pub rest : x.rest ≡ x.taken -ℤ x.corrected
