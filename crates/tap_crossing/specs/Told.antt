-- What is told when a message is met, by those that were met before.
use Rattle.std.specs.Prelude.{ℕ, List, Option, Some, None, is_some, if◌then◌else◌, unwrap_or}
use Rattle.ptp_units.specs.declared.sequence.Seq.{Seq}
use Rattle.tap_crossing.specs.declared.sighting.Kind.{Kind}
use Rattle.tap_crossing.specs.declared.sighting.Placed.{Placed}
use Rattle.tap_crossing.specs.declared.places.Complete.{Complete}
use Rattle.tap_crossing.specs.declared.places.Record.{Record}
use Rattle.tap_crossing.specs.declared.places.Record.TheVariants as standings
use Rattle.tap_crossing.specs.declared.crossing.Crossing.{Crossing}
use Rattle.tap_crossing.specs.declared.crossing.NoCrossing.{NoCrossing}
use Rattle.tap_crossing.specs.declared.crossing.MessageOutcome.{MessageOutcome}
use Rattle.tap_crossing.specs.declared.crossing.MessageOutcome.TheVariants as outcomes
use Rattle.tap_crossing.specs.Record.{place_in, with_place, complete}
use Rattle.tap_crossing.specs.Crossing.{no_crossing, crossing}
use Rattle.tap_crossing.specs.Records.{new_record, open_record, records}

-- a crossing, unless there is a reason why it is none
abbrev pub crossed_unless : Option NoCrossing → Kind → (number : Seq) → Complete → MessageOutcome
crossed_unless None kind number c = outcomes.Crossed (crossing kind number c)
crossed_unless (Some reason) kind number c = outcomes.Closed reason

-- what is told when a record closes
abbrev pub closes : Kind → (number : Seq) → Complete → MessageOutcome
closes kind number c = crossed_unless (no_crossing kind c) kind number c

-- what is told when a message took its place: nothing, unless its record has what it needs
abbrev pub closes_or_waits : Placed → Option Complete → MessageOutcome
closes_or_waits p None = outcomes.Waits
closes_or_waits p (Some c) = closes p.kind p.number c

-- what is told when a message comes to a record
abbrev pub comes_to : Placed → Record → MessageOutcome
comes_to p (standings.Open met) =
    if is_some (place_in met p.place) then outcomes.Spoils
    else closes_or_waits p (complete (with_place p.place p.sighting met))
comes_to p standings.Spoiled = outcomes.IsSpoiled
comes_to p standings.Closed = outcomes.IsSpoiled

-- what is told of the newest message
abbrev pub told : (capacity : ℕ) → Placed → (earlier : List Placed) → MessageOutcome
told capacity p earlier = comes_to p (unwrap_or (open_record capacity p.number.0 (records capacity p.kind earlier)) new_record)

-- where it is a crossing, this holds of that
abbrev pub IfCrossed : MessageOutcome → (Crossing → Type 0) → Type 0
IfCrossed outcomes.Waits P = Unit {0}
IfCrossed outcomes.Spoils P = Unit {0}
IfCrossed outcomes.IsSpoiled P = Unit {0}
IfCrossed (outcomes.Crossed x) P = P x
IfCrossed (outcomes.Closed reason) P = Unit {0}
