-- Which messages of a run the places of a record tell.
use Rattle.std.specs.Prelude.{◌≡◌, ℕ, ℤ, ◌+ℤ◌, int_lt, ⊤, false, Option, Some, None, IfSome, IsTrue}
use Rattle.ptp_units.specs.Interval.{too_big}
use Rattle.event_codec.specs.Layout.{stamp_in}
use Rattle.event_codec.specs.Packet.{Contents}
use Rattle.network_model.specs.Network.{Network}
use Rattle.network_model.specs.Run.{Run, Place, tag_of, until}
use Rattle.network_model.specs.Kinds.{timed_copy}
use Rattle.network_model.specs.Truth.{copy_of}
use Rattle.tap_crossing.specs.declared.sighting.Place.{Place as RecordPlace}
use Rattle.tap_crossing.specs.declared.sighting.Place.TheVariants as places
use Rattle.tap_crossing.specs.declared.sighting.Sighting.{Sighting}
use Rattle.tap_crossing.specs.declared.places.Places.{Places}
use Rattle.tap_crossing.specs.declared.crossing.NoCrossing.TheVariants as reasons
use Rattle.tap_crossing.specs.declared.crossing.MessageOutcome.{MessageOutcome}
use Rattle.tap_crossing.specs.declared.crossing.MessageOutcome.TheVariants as outcomes
use Rattle.tap_crossing.specs.Placed.{needs_other}

-- the message of the copy that comes to an event, or else of the copy that the event makes
abbrev pub message_of : Network → Place → Option ℕ → Option Contents
message_of network p None = copy_of network (until p) (tag_of p)
message_of network p (Some copy) = copy_of network p.earlier copy

-- the message that is told at an event: what comes to it where it is an Enter or an Arrive, else what it makes, as a sending or
-- a Leave does
abbrev pub message_at : Network → Place → Option Contents
message_at network p = message_of network p (timed_copy p.event)

-- How much more a correction says at each place than that of the run's message: what a two-step transparent clock measured stands
-- in the Follow_Up or the Delay_Resp, and not in the event message (IEEE 1588-2019, 10.2).
pub record Moved : Type 0 where
  pub first : ℤ
  pub second : ℤ
  pub at_from : ℤ
  pub at_to : ℤ

abbrev pub moved_at : Moved → RecordPlace → ℤ
moved_at moved places.First = moved.first
moved_at moved places.Second = moved.second
moved_at moved places.AtFrom = moved.at_from
moved_at moved places.AtTo = moved.at_to

-- What is told as one: the events at which an event message was met at its first tap and at its second, the copy of its
-- Follow_Up or Delay_Resp that was met at both, by its tag, and how much more their corrections say.
pub record Passage : Type 0 where
  pub first : Place
  pub second : Place
  pub general : ℕ
  pub moved : Moved

-- the message that is told at a place of a record
abbrev pub message_told : Network → Run → Passage → RecordPlace → Option Contents
message_told network run p places.First = message_at network p.first
message_told network run p places.Second = message_at network p.second
message_told network run p places.AtFrom = copy_of network run p.general
message_told network run p places.AtTo = copy_of network run p.general

-- what the event message's correction grew too little by, that of the other message grew more; where none is needed, it didn't
pub record IsEven (network : Network) (p : Passage) : Type 0 where
  pub whole : p.moved.second +ℤ p.moved.at_to ≡ p.moved.first +ℤ p.moved.at_from
  pub alone : (m : Contents) → message_at network p.second ≡ Some m → needs_other m.header m.body ≡ false → p.moved.second ≡ p.moved.first

-- what is kept of a message is that of this one: its timestamp, whether another tells that, and its correction and so much more; where
-- the message's is too big, so is this
pub record Keeps (moved : ℤ) (m : Contents) (s : Sighting) : Type 0 where
  pub correction : s.correction.0 ≡ m.header.correction.0 +ℤ moved
  pub too_big : IsTrue (int_lt s.correction.0 too_big) → IsTrue (int_lt m.header.correction.0 too_big)
  pub timestamp : s.timestamp ≡ stamp_in m.body
  pub needs_other : s.needs_other ≡ needs_other m.header m.body

-- what was met tells the message that is told at a place
pub record Tells (network : Network) (run : Run) (p : Passage) (place : RecordPlace) (s : Sighting) : Type 0 where
  pub m : Contents
  pub is_told : message_told network run p place ≡ Some m
  pub keeps : Keeps (moved_at p.moved place) m s

-- all that was met in a record tells this passage
pub record AreOf (network : Network) (run : Run) (p : Passage) (met : Places) : Type 0 where
  pub first : IfSome met.first (Tells network run p places.First)
  pub second : IfSome met.second (Tells network run p places.Second)
  pub at_from : IfSome met.at_from (Tells network run p places.AtFrom)
  pub at_to : IfSome met.at_to (Tells network run p places.AtTo)

-- Where a record closes it is a crossing with this rest, unless a correction is too big: it has the same timestamp at both
-- taps, and its Sync isn't two-step at `from` alone.
abbrev pub Rests : ℤ → MessageOutcome → Type 0
Rests rest outcomes.Waits = ⊤
Rests rest outcomes.Spoils = ⊤
Rests rest outcomes.IsSpoiled = ⊤
Rests rest (outcomes.Crossed x) = x.rest ≡ rest
Rests rest (outcomes.Closed reasons.TooBig) = ⊤
Rests rest (outcomes.Closed reasons.TwoStepAtFromAlone) = ⊥
Rests rest (outcomes.Closed reasons.OtherTimestamp) = ⊥
