-- A run: the accepted events, newest first. An event's tag is the number of events before it.
use Rattle.std.specs.Prelude.{◌≡◌, ℕ, List, [], ◌∷◌, length, ◌==◌, if◌then◌else◌, Option, Some, None}
use Rattle.network_model.specs.declared.event.Event.{Event}
use Rattle.network_model.specs.Network.{NodeName}
use Rattle.network_model.specs.Parts.{parts}

-- the events, newest first
abbrev pub Run : Type 0
Run = List Event

-- an event with all that came before it
pub record Place : Type 0 where
  pub event : Event
  pub earlier : Run

-- this event after these
abbrev pub place : Event → Run → Place
place event earlier = record { event = event; earlier = earlier }

-- an event's tag
abbrev pub tag_of : Place → ℕ
tag_of p = length p.earlier

-- the run as it was just after an event
abbrev pub until : Place → Run
until p = p.event ∷ p.earlier

-- the event of this tag
abbrev pub place_at : Run → ℕ → Option Place
place_at [] tag = None
place_at (event ∷ earlier) tag = if length earlier == tag then Some (place event earlier) else place_at earlier tag

-- an event of the run
abbrev pub IsIn : Run → Place → Type 0
IsIn run p = place_at run (tag_of p) ≡ Some p

-- the events after the one of this tag, newest first
abbrev pub events_after : ℕ → Run → Run
events_after tag [] = []
events_after tag (event ∷ earlier) = if length earlier == tag then [] else event ∷ events_after tag earlier

-- the node at which an event happens
abbrev pub site_of : Event → NodeName
site_of event = (parts event).node

-- the true moment of an event that has one
abbrev pub true_moment : Event → Option ℕ
true_moment event = (parts event).moment
