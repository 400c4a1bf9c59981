-- Journeys: an event message from the event that drew its number, through clocks (IEEE 1588-2019, 10.2).
use Rattle.std.specs.Prelude.{ℕ, ◌-◌, List, [], ◌∷◌, length, sum_by, nat_lt, ◌==◌, if◌then◌else◌, Option, Some, None}
use Rattle.std.specs.Prelude.{option_and_then}
use Rattle.network_model.specs.declared.event.Event.{Event}
use Rattle.network_model.specs.declared.event.Event.TheVariants.{Sync, SyncOne, Leave, Request}
use Rattle.network_model.specs.Run.{Run, Place, place, place_at}
use Rattle.network_model.specs.Kinds.{entered_copy}
use Rattle.network_model.specs.Clock.{reading}

-- a stay in a clock: the Enter and the Leave event
pub record Stay : Type 0 where
  pub entered : Place
  pub left : Place

-- the event that drew a message, a Sync, SyncOne or Request, and its stays in clocks, the last one first
pub record Journey : Type 0 where
  pub origin : Place
  pub stays : List Stay

-- how long a message was in one clock, by that clock's readings
abbrev pub stay_length : Stay → ℕ
stay_length s = reading s.left - reading s.entered

-- how long a message was in clocks, by their readings
abbrev pub residence : Journey → ℕ
residence journey = sum_by stay_length journey.stays

-- the journey of a message that was just drawn
abbrev pub begun : Event → Run → Journey
begun event earlier = record { origin = place event earlier; stays = [] }

-- a journey goes on by a stay, unless the clock shows less at its end than at its beginning
abbrev pub goes_on : (left entered : Place) → Journey → Option Journey
goes_on left entered journey =
    if nat_lt (reading left) (reading entered) then None
    else Some (record { origin = journey.origin; stays = record { entered = entered; left = left } ∷ journey.stays })

-- the journey that a Leave event continues, from the Enter event and the journeys of earlier copies
abbrev pub left_from : (left : Place) → (ℕ → Option Journey) → (entered : Place) → Option Journey
left_from left journeys entered =
    option_and_then (λ copy. option_and_then (goes_on left entered) (journeys copy)) (entered_copy entered.event)

-- the journey of the copy that an event makes, from those of earlier copies
abbrev pub journey_made : Event → Run → (ℕ → Option Journey) → Option Journey
journey_made (Sync node at) earlier journeys = Some (begun (Sync node at) earlier)
journey_made (SyncOne node at) earlier journeys = Some (begun (SyncOne node at) earlier)
journey_made (Leave node transit at) earlier journeys =
    option_and_then (left_from (place (Leave node transit at) earlier) journeys) (place_at earlier transit)
journey_made (Request node at) earlier journeys = Some (begun (Request node at) earlier)
journey_made _ earlier journeys = None

-- the journey of the copy of this tag, where that is an event message
abbrev pub journey_of : Run → ℕ → Option Journey
journey_of [] copy = None
journey_of (event ∷ earlier) copy =
    if length earlier == copy then journey_made event earlier (journey_of earlier) else journey_of earlier copy
