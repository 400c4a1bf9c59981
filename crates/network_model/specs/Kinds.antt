-- Kinds of events.
use Rattle.std.specs.Prelude.{ℕ, ℤ, Bool, true, false, ◌&&◌, ◌||◌, ◌==◌, is_some, Option, Some, None}
use Rattle.std.specs.Option.{option_map_or}
use Rattle.network_model.specs.declared.event.Event.{Event}
use Rattle.network_model.specs.declared.event.Event.TheVariants.{Sync, SyncOne, Follow, Enter, Arrive, Hear, Request}
use Rattle.network_model.specs.declared.event.Event.TheVariants.{Stamped, Tick}
use Rattle.network_model.specs.Network.{NodeName, is_named}
use Rattle.network_model.specs.Parts.{parts}
use Rattle.network_model.specs.Run.{site_of}

-- a master sends a two-step Sync, which waits for its Follow_Up (IEEE 1588-2019, 13.3.2.8)
abbrev pub is_sync : Event → Bool
is_sync (Sync node at) = true
is_sync _ = false

-- a master sends a one-step Sync
abbrev pub is_one_step_sync : Event → Bool
is_one_step_sync (SyncOne node at) = true
is_one_step_sync _ = false

-- a master draws a number for a Sync, two-step or one-step
abbrev pub draws_sync : Event → Bool
draws_sync event = is_sync event || is_one_step_sync event

-- a master sends a Follow_Up
abbrev pub is_follow : Event → Bool
is_follow (Follow node) = true
is_follow _ = false

-- a slave sends a Delay_Req, for which it draws a number
abbrev pub is_request : Event → Bool
is_request (Request node at) = true
is_request _ = false

-- a slave learns when its Delay_Req departed
abbrev pub is_stamped : Event → Bool
is_stamped (Stamped node) = true
is_stamped _ = false

-- a slave's hold timer runs out
abbrev pub is_tick : Event → Bool
is_tick (Tick node) = true
is_tick _ = false

-- the master that a slave is told
abbrev pub named_master : Event → Option NodeName
named_master event = (parts event).master

-- a slave is told its present master
abbrev pub is_set_master : Event → Bool
is_set_master event = is_some (named_master event)

-- the difference that an event sets, where it steps a clock
abbrev pub named_difference : Event → Option ℤ
named_difference event = (parts event).difference

-- a clock is stepped
abbrev pub is_step : Event → Bool
is_step event = is_some (named_difference event)

-- a copy of an event message arrives at a master or at a slave
abbrev pub is_arrival : Event → Bool
is_arrival (Arrive node copy at) = true
is_arrival _ = false

-- a slave hears a copy of a general message
abbrev pub is_hearing : Event → Bool
is_hearing (Hear node copy) = true
is_hearing _ = false

-- the tag of the copy that an event takes
abbrev pub named_copy : Event → Option ℕ
named_copy event = (parts event).copy

-- the copy that enters a clock
abbrev pub entered_copy : Event → Option ℕ
entered_copy (Enter node copy at) = Some copy
entered_copy _ = None

-- the copy that a port hears, of an event message that arrives or of a general message
abbrev pub heard_copy : Event → Option ℕ
heard_copy (Arrive node copy at) = Some copy
heard_copy (Hear node copy) = Some copy
heard_copy _ = None

-- the copy that comes over a cable and whose moment counts: it enters a clock, or it arrives at a port
abbrev pub timed_copy : Event → Option ℕ
timed_copy (Enter node copy at) = Some copy
timed_copy (Arrive node copy at) = Some copy
timed_copy _ = None

-- the stay in a clock that an event leaves, by the tag of the event by which the message entered
abbrev pub named_transit : Event → Option ℕ
named_transit event = (parts event).transit

-- an event leaves this stay
abbrev pub is_leave_of : ℕ → Event → Bool
is_leave_of transit event = option_map_or (λ named. named == transit) (named_transit event) false

-- the event is of this kind, and at this node
abbrev pub is_at : (Event → Bool) → NodeName → Event → Bool
is_at kind node event = kind event && is_named (site_of event) node
