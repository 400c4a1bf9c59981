-- The way of an event message from one event to another: over cables, and through clocks (IEEE 1588-2019, 10.2).
use Rattle.std.specs.Prelude.{◌≡◌, ℕ, List, [], ◌∷◌, Some}
use Rattle.network_model.specs.declared.event.Event.TheVariants.{Enter, Leave}
use Rattle.network_model.specs.Network.{Network, NodeName}
use Rattle.network_model.specs.Run.{Run, Place, IsIn, tag_of}
use Rattle.network_model.specs.Kinds.{timed_copy}
use Rattle.network_model.specs.Journey.{Journey, Stay, journey_of}
use Rattle.network_model.specs.Outcome.{IsRun}
use Rattle.network_model.specs.Level.{Crossing, crossing_to, crossings_of}

-- a stay in a clock: a copy enters, and what entered leaves
pub record IsStay (clock : NodeName) (stay : Stay) : Type 0 where
  pub copy : ℕ
  pub entered_at : ℕ
  pub left_at : ℕ
  pub enters : stay.entered.event ≡ Enter clock copy entered_at
  pub leaves : stay.left.event ≡ Leave clock (tag_of stay.entered) left_at
  pub inside : IsIn stay.left.earlier stay.entered

-- a leg of a way
pub data Leg : Type 0 where
  Cable : Crossing → Leg
  Clock : NodeName → Stay → Leg

-- The way of an event message from one event to another, the last leg first: over a cable from the event that made the copy to
-- the Enter or Arrive to which it comes, and through a clock from the Enter to the Leave.
abbrev pub IsWay : (from to : Place) → List Leg → Type 0
IsWay from to [] = from ≡ to
IsWay from to (Cable c ∷ legs) = (crossing_to to ≡ Some c) × IsWay from c.from legs
IsWay from to (Clock clock stay ∷ legs) = (to ≡ stay.left) × IsStay clock stay × IsWay from stay.entered legs

-- the cables on a way
abbrev pub cables : List Leg → List Crossing
cables [] = []
cables (Cable c ∷ legs) = c ∷ cables legs
cables (Clock clock stay ∷ legs) = cables legs

-- The journey of each copy of an event message is a way: from the event that drew the message to the one to which the copy comes, by
-- the crossings of the journey.
abbrev pub EachJourneyIsAWay : Type 0
EachJourneyIsAWay =
    (network : Network) (run : Run) (p : Place) (copy : ℕ) (journey : Journey)
    → IsRun network run → IsIn run p → timed_copy p.event ≡ Some copy → journey_of p.earlier copy ≡ Some journey
    → (legs : List Leg) × IsWay journey.origin p legs × (cables legs ≡ crossings_of journey.origin journey.stays p)
