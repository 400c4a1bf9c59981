-- A copy of an event message is as it was drawn, with the residence of its journey added to its correction.
use Rattle.std.proofs.Common.{◌≡◌, ◌∙◌, ℕ, pos, [], ◌∷◌, Option, Some, None, refl, sym, ap, option_map, option_and_then, arith}
use Rattle.std.proofs.lemmas.Bool.Decides.{nat_tests}
use Rattle.std.proofs.lemmas.Int.{ints}
use Rattle.ptp_units.specs.Interval.{with_residence}
use Rattle.ptp_units.specs.Moment.{fraction_of}
use Rattle.ptp_units.specs.Sequence.{of_count}
use Rattle.event_codec.specs.Packet.{Contents}
use Rattle.event_codec.specs.Correction.{with_correction}
use Rattle.master_port.specs.Written.{sync, one_step_sync}
use Rattle.slave_port.specs.Written.{delay_req}
use Rattle.transparent_clock.specs.Forwarding.{resided}
use Rattle.network_model.specs.declared.event.Event.{Event}
use Rattle.network_model.specs.declared.event.Event.TheVariants.{Sync, SyncOne, Request, Leave}
use Rattle.network_model.specs.Network.{Network, NodeName, PortSetup}
use Rattle.network_model.specs.Run.{Run, place}
use Rattle.network_model.specs.Clock.{reading}
use Rattle.network_model.specs.Numbering.{number_of}
use Rattle.network_model.specs.Journey.{Journey, journey_made, journey_of}
use Rattle.network_model.specs.Truth.{drawn, message_after, copy_made, copy_of, master_at, slave_at}

-- a fraction of a nanosecond is far from too big
fraction_as_it_was : (time : ℕ) → with_residence (pos (fraction_of time)) 0 ≡ pos (fraction_of time)
fraction_as_it_was time = grind (arith, ints, nat_tests)

-- what no residence was added to is as it was
as_drawn : (make : PortSetup → Contents) → ((port : PortSetup) → resided (make port) 0 ≡ make port)
    → (port : Option PortSetup) → option_map (λ m. resided m 0) (option_map make port) ≡ option_map make port
as_drawn make same None = refl
as_drawn make same (Some port) = ap Some (same port)

sync_as_drawn : (network : Network) (node : NodeName) (at : ℕ) (earlier : Run)
    → option_map (λ m. resided m 0) (drawn network (Sync node at) earlier) ≡ drawn network (Sync node at) earlier
sync_as_drawn network node at earlier =
    as_drawn (λ port. sync port.config (of_count (number_of port (place (Sync node at) earlier)))) (λ port. refl) (master_at network node)

one_step_sync_as_drawn : (network : Network) (node : NodeName) (at : ℕ) (earlier : Run)
    → option_map (λ m. resided m 0) (drawn network (SyncOne node at) earlier) ≡ drawn network (SyncOne node at) earlier
one_step_sync_as_drawn network node at earlier =
    let made : PortSetup → Contents =
    λ port. one_step_sync port.config (of_count (number_of port (place (SyncOne node at) earlier))) (reading (place (SyncOne node at) earlier)) in
    as_drawn made
    (λ port. ap (λ c. with_correction (made port) (record { 0 = c })) (fraction_as_it_was (reading (place (SyncOne node at) earlier))))
    (master_at network node)

request_as_drawn : (network : Network) (node : NodeName) (at : ℕ) (earlier : Run)
    → option_map (λ m. resided m 0) (drawn network (Request node at) earlier) ≡ drawn network (Request node at) earlier
request_as_drawn network node at earlier =
    as_drawn (λ port. delay_req port.config (of_count (number_of port (place (Request node at) earlier)))) (λ port. refl) (slave_at network node)

the_journey : {first second : Journey} → Some first ≡ Some second → first ≡ second
the_journey same = cc

copy_made-message_after : (network : Network) (event : Event) (earlier : Run) (journey : Journey)
    → journey_made event earlier (journey_of earlier) ≡ Some journey
    → copy_made network event earlier (copy_of network earlier) ≡ message_after network journey
copy_made-message_after network (Sync node at) earlier journey made = sym (sync_as_drawn network node at earlier) ∙ ap (message_after network) (the_journey made)
copy_made-message_after network (SyncOne node at) earlier journey made = sym (one_step_sync_as_drawn network node at earlier) ∙ ap (message_after network) (the_journey made)
copy_made-message_after network (Request node at) earlier journey made = sym (request_as_drawn network node at earlier) ∙ ap (message_after network) (the_journey made)
copy_made-message_after network (Leave node transit at) earlier journey made = ap (option_and_then (message_after network)) made
copy_made-message_after network _ earlier journey made = grind arith

-- a copy that has a journey is the message that made this journey
pub copy_of-message_after : (network : Network) (run : Run) (tag : ℕ) (journey : Journey)
    → journey_of run tag ≡ Some journey → copy_of network run tag ≡ message_after network journey
copy_of-message_after network [] tag journey made = grind arith
copy_of-message_after network (event ∷ earlier) tag journey made =
    grind (arith, nat_tests, copy_made-message_after network event earlier journey, copy_of-message_after network earlier tag journey)
