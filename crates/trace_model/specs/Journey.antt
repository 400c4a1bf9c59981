-- Journeys over lines: an event message from the line that sent it, through clocks (IEEE
-- 1588-2019, 10.2).
use Rattle.std.specs.Prelude.{ℕ, ◌-◌, Bool, ◌&&◌, List, [], ◌∷◌, length, sum_by, count_by, nat_lt, ◌==◌}
use Rattle.std.specs.Prelude.{if◌then◌else◌, Option, Some, None, option_map, option_and_then}
use Rattle.std.specs.List.{list_all}
use Rattle.network_model.specs.declared.event.Event.{Event}
use Rattle.network_model.specs.declared.event.Event.TheVariants.{Sync, SyncOne, Leave, Request}
use Rattle.network_model.specs.Network.{Network, NodeName, is_named}
use Rattle.network_model.specs.Run.{Run}
use Rattle.network_model.specs.Kinds.{entered_copy, is_leave_of}
use Rattle.trace_model.specs.Line.{Lines, counts}
use Rattle.trace_model.specs.Record.{LinePlace, line_place, line_number, event_of, site, line_at, reading}

-- a stay in a clock: the Enter line and the Leave line
pub record LineStay : Type 0 where
  pub entered : LinePlace
  pub left : LinePlace

-- The line that sent a message, a Sync, SyncOne or Request, and the message's stays in clocks, the last one first. Of a
-- run a journey ends where a clock shows less at the end of a stay than at its beginning; of lines it goes on, and its
-- readings are judged apart.
pub record LineJourney : Type 0 where
  pub origin : LinePlace
  pub stays : List LineStay

-- how long a message was in one clock, by the readings
abbrev pub line_stay_length : LineStay → ℕ
line_stay_length s = reading s.left - reading s.entered

-- how long a message was in clocks, by their readings
abbrev pub line_residence : LineJourney → ℕ
line_residence journey = sum_by line_stay_length journey.stays

-- the journey of a message that was just sent
abbrev pub line_begun : LinePlace → LineJourney
line_begun origin = record { origin = origin; stays = [] }

-- a journey and one more stay
abbrev pub with_stay : (left entered : LinePlace) → LineJourney → LineJourney
with_stay left entered journey =
    record { origin = journey.origin; stays = record { entered = entered; left = left } ∷ journey.stays }

-- the copy that entered at a line, where that is a line of this clock and the copy was made before it
abbrev pub copy_entered : NodeName → LinePlace → Option ℕ
copy_entered clock entered = option_and_then
    (λ copy. if is_named (site entered) clock && nat_lt copy (line_number entered) then Some copy else None)
    (entered_copy (event_of entered))

-- the journey of a copy that leaves a clock, from the Enter line and the journeys of earlier copies
abbrev pub line_left_from : NodeName → (left : LinePlace) → (ℕ → Option LineJourney) → (entered : LinePlace) → Option LineJourney
line_left_from clock left journeys entered =
    option_and_then (λ copy. option_map (with_stay left entered) (journeys copy)) (copy_entered clock entered)

-- the journey of the copy that a line made, from the journeys of earlier copies
abbrev pub line_journey_made : Network → Event → LinePlace → (ℕ → Option LineJourney) → Option LineJourney
line_journey_made network (Sync node at) e journeys = Some (line_begun e)
line_journey_made network (SyncOne node at) e journeys = Some (line_begun e)
line_journey_made network (Leave node transit at) e journeys =
    option_and_then (line_left_from node e journeys) (line_at network e.earlier transit)
line_journey_made network (Request node at) e journeys = Some (line_begun e)
line_journey_made network _ e journeys = None

-- the journey of the copy that the line of this number made, where that is an event message
abbrev pub line_journey_of : Network → Lines → ℕ → Option LineJourney
line_journey_of network [] n = None
line_journey_of network (line ∷ earlier) n =
    if length earlier == n
    then (if counts network line
    then line_journey_made network line.event (line_place line earlier) (line_journey_of network earlier) else None)
    else line_journey_of network earlier n

-- each stay of a journey was left by one Leave line alone
abbrev pub left_once : Run → LineJourney → Bool
left_once run journey = list_all (λ stay. count_by (is_leave_of (line_number stay.entered)) run == 1) journey.stays
