-- Kinds of events, and the word that stands for each at `ev`.
use Rattle.std.specs.Prelude.{ℕ, List, [], ◌∷◌, codes, Option}
use Rattle.std.specs.List.{find}
use Rattle.std.specs.Str.{bytes_eq}
use Rattle.network_model.specs.declared.event.Event.{Event}
use Rattle.schedule_lines.specs.declared.event_kind.EventKind.{EventKind}
use Rattle.schedule_lines.specs.declared.event_kind.EventKind.TheVariants.{Sync, SyncOne, Follow, Enter, Leave}
use Rattle.schedule_lines.specs.declared.event_kind.EventKind.TheVariants.{Arrive, Hear, Request, Stamped, Tick}
use Rattle.schedule_lines.specs.declared.event_kind.EventKind.TheVariants.{SetMaster, StepClock}
use Rattle.network_model.specs.declared.event.Event.TheVariants as events

-- the word of a kind, as it stands at `ev`
abbrev pub event_word : EventKind → List ℕ
event_word Sync = codes "sync"
event_word SyncOne = codes "syncone"
event_word Follow = codes "follow"
event_word Enter = codes "enter"
event_word Leave = codes "leave"
event_word Arrive = codes "arrive"
event_word Hear = codes "hear"
event_word Request = codes "request"
event_word Stamped = codes "stamped"
event_word Tick = codes "tick"
event_word SetMaster = codes "setmaster"
event_word StepClock = codes "stepclock"

-- all kinds
abbrev pub event_kinds : List EventKind
event_kinds =
    Sync ∷ SyncOne ∷ Follow ∷ Enter ∷ Leave ∷ Arrive ∷
    Hear ∷ Request ∷ Stamped ∷ Tick ∷ SetMaster ∷ StepClock ∷ []

-- the kind whose word a text is; None where it is no kind's
abbrev pub kind_of : List ℕ → Option EventKind
kind_of text = find (λ kind. bytes_eq (event_word kind) text) event_kinds

-- the kind of an event
abbrev pub kind_of_event : Event → EventKind
kind_of_event (events.Sync node at) = Sync
kind_of_event (events.SyncOne node at) = SyncOne
kind_of_event (events.Follow node) = Follow
kind_of_event (events.Enter node copy at) = Enter
kind_of_event (events.Leave node transit at) = Leave
kind_of_event (events.Arrive node copy at) = Arrive
kind_of_event (events.Hear node copy) = Hear
kind_of_event (events.Request node at) = Request
kind_of_event (events.Stamped node) = Stamped
kind_of_event (events.Tick node) = Tick
kind_of_event (events.SetMaster node master) = SetMaster
kind_of_event (events.StepClock node diff) = StepClock
