-- Which message each copy is, by the readings and the numbers of the run (IEEE 1588-2019, 10.2, 11.3 and 13.3).
use Rattle.std.specs.Prelude.{ℕ, List, [], ◌∷◌, length, ◌==◌, if◌then◌else◌, Option, Some, None, Ok, option_and_then}
use Rattle.std.specs.Prelude.{option_map}
use Rattle.std.specs.Result.{result_ok}
use Rattle.ptp_units.specs.Sequence.{of_count}
use Rattle.event_codec.specs.Packet.{Contents, Packet}
use Rattle.master_port.specs.Written.{sync, one_step_sync, follow_up, answer}
use Rattle.transparent_clock.specs.Forwarding.{resided}
use Rattle.slave_port.specs.Written.{delay_req}
use Rattle.network_model.specs.declared.event.Event.{Event}
use Rattle.network_model.specs.declared.event.Event.TheVariants.{Sync, SyncOne, Follow, Leave, Arrive, Request}
use Rattle.network_model.specs.Network.{Network, NodeName, PortSetup, kind_of, master_port, slave_port}
use Rattle.network_model.specs.Run.{Run, Place, place}
use Rattle.network_model.specs.Kinds.{heard_copy}
use Rattle.network_model.specs.Clock.{reading}
use Rattle.network_model.specs.Numbering.{number_of, waiting_sync}
use Rattle.network_model.specs.Journey.{Journey, journey_made, journey_of, residence}

-- the port of a master of this name
abbrev pub master_at : Network → NodeName → Option PortSetup
master_at network name = option_and_then master_port (kind_of network name)

-- the port of a slave of this name
abbrev pub slave_at : Network → NodeName → Option PortSetup
slave_at network name = option_and_then slave_port (kind_of network name)

-- the message that an event draws: a Sync, a one-step Sync with its reading as t1, or a Delay_Req
abbrev pub drawn : Network → Event → Run → Option Contents
drawn network (Sync node at) earlier =
    option_map (λ port. sync port.config (of_count (number_of port (place (Sync node at) earlier))))
    (master_at network node)
drawn network (SyncOne node at) earlier =
    option_map (λ port. one_step_sync port.config (of_count (number_of port (place (SyncOne node at) earlier)))
    (reading (place (SyncOne node at) earlier))) (master_at network node)
drawn network (Request node at) earlier =
    option_map (λ port. delay_req port.config (of_count (number_of port (place (Request node at) earlier))))
    (slave_at network node)
drawn network _ earlier = None

-- a message at the end of its journey: as it was drawn, with the residence of the journey added to its correction
abbrev pub message_after : Network → Journey → Option Contents
message_after network journey =
    option_map (λ m. resided m (residence journey)) (drawn network journey.origin.event journey.origin.earlier)

-- the Follow_Up of a waiting Sync: its number, and its reading as t1
abbrev pub followed : PortSetup → Place → Contents
followed port waiting = follow_up port.config (of_count (number_of port waiting)) (reading waiting)

-- the Delay_Resp to a copy that arrived at t4, where the master answers one
abbrev pub responded : PortSetup → ℕ → Contents → Option Contents
responded port t4 request = result_ok (answer port.config (Ok request) t4)

-- the message of the copy that an event makes, from those of earlier copies; for a Leave event it is the one that a
-- clock writes, by `EachLeaveForwards`
abbrev pub copy_made : Network → Event → Run → (ℕ → Option Contents) → Option Contents
copy_made network (Sync node at) earlier copies = drawn network (Sync node at) earlier
copy_made network (SyncOne node at) earlier copies = drawn network (SyncOne node at) earlier
copy_made network (Follow node) earlier copies =
    option_and_then (λ port. option_map (followed port) (waiting_sync node earlier)) (master_at network node)
copy_made network (Leave node transit at) earlier copies =
    option_and_then (message_after network) (journey_made (Leave node transit at) earlier (journey_of earlier))
copy_made network (Arrive node copy at) earlier copies =
    option_and_then (λ port. option_and_then (responded port (reading (place (Arrive node copy at) earlier)))
    (copies copy)) (master_at network node)
copy_made network (Request node at) earlier copies = drawn network (Request node at) earlier
copy_made network _ earlier copies = None

-- the message of the copy of this tag, where the event of this tag made one
abbrev pub copy_of : Network → Run → ℕ → Option Contents
copy_of network [] tag = None
copy_of network (event ∷ earlier) tag =
    if length earlier == tag then copy_made network event earlier (copy_of network earlier)
    else copy_of network earlier tag

-- what is kept of a tag: the octets of its copy's message, or nothing where there is no copy
abbrev pub TellsTruth : Option Contents → Option (List ℕ) → Type 0
TellsTruth None None = Unit {0}
TellsTruth (Some m) (Some octets) = Packet m octets
TellsTruth None (Some octets) = ⊥
TellsTruth (Some m) None = ⊥

-- The event that drew the number of a copy: a Follow_Up has its Sync's, a Delay_Resp its Delay_Req's. Said of each
-- arrival, also of one that no master answered and that made no copy.
abbrev pub origin_made : Event → Run → (ℕ → Option Place) → Option Place
origin_made (Sync node at) earlier origins = Some (place (Sync node at) earlier)
origin_made (SyncOne node at) earlier origins = Some (place (SyncOne node at) earlier)
origin_made (Follow node) earlier origins = waiting_sync node earlier
origin_made (Leave node transit at) earlier origins =
    option_map (λ journey. journey.origin) (journey_made (Leave node transit at) earlier (journey_of earlier))
origin_made (Arrive node copy at) earlier origins = origins copy
origin_made (Request node at) earlier origins = Some (place (Request node at) earlier)
origin_made _ earlier origins = None

-- the event that drew the number of the copy of this tag; None where there is no copy, but for arrivals that made none
abbrev pub origin_of : Run → ℕ → Option Place
origin_of [] tag = None
origin_of (event ∷ earlier) tag =
    if length earlier == tag then origin_made event earlier (origin_of earlier) else origin_of earlier tag

-- the event that drew the number of the message that is heard at an event
abbrev pub origin_heard : Place → Option Place
origin_heard p = option_and_then (origin_of p.earlier) (heard_copy p.event)
