-- The true numbers of Syncs and requests, which the messages carry modulo 65,536 (IEEE 1588-2019, 7.3.7).
use Rattle.std.specs.Prelude.{ℕ, ◌+◌, ◌-◌, Bool, false, [], ◌∷◌, count_by, if◌then◌else◌, Option, Some, None}
use Rattle.network_model.specs.declared.event.Event.{Event}
use Rattle.network_model.specs.declared.event.Event.TheVariants.{Sync, SyncOne, Request}
use Rattle.network_model.specs.Network.{NodeName, PortSetup}
use Rattle.network_model.specs.Run.{Run, Place, place}
use Rattle.network_model.specs.Kinds.{is_at, is_sync, draws_sync, is_follow, is_request, is_stamped}

-- the events that draw from the sequence of this one: all Syncs of a master, or all requests of a slave
abbrev pub draws_with : Event → Event → Bool
draws_with (Sync node at) event = is_at draws_sync node event
draws_with (SyncOne node at) event = is_at draws_sync node event
draws_with (Request node at) event = is_at is_request node event
draws_with _ event = false

-- how many numbers of its sequence were drawn before an event that draws one
abbrev pub drawn_before : Place → ℕ
drawn_before p = count_by (draws_with p.event) p.earlier

-- the true number that an event draws, where its port's numbers begin at `first`
abbrev pub number_of : PortSetup → Place → ℕ
number_of port p = port.first + drawn_before p

-- how many numbers of its sequence were drawn in a run after the one that an event of the run drew
abbrev pub drawn_later : Place → Run → ℕ
drawn_later origin run = drawn_before (place origin.event run) - (drawn_before origin + 1)

-- the two-step Sync of a master that waits for its Follow_Up: its last one, unless a Follow came since
abbrev pub waiting_sync : NodeName → Run → Option Place
waiting_sync node [] = None
waiting_sync node (event ∷ earlier) =
    if is_at is_sync node event then Some (place event earlier)
    else if is_at is_follow node event then None
    else waiting_sync node earlier

-- the request of a slave that waits for its departure time: its last one, unless a Stamped came since
abbrev pub waiting_request : NodeName → Run → Option Place
waiting_request node [] = None
waiting_request node (event ∷ earlier) =
    if is_at is_request node event then Some (place event earlier)
    else if is_at is_stamped node event then None
    else waiting_request node earlier
