-- A worked case of a real capture: a Sync and a Delay_Req at both ports of linuxptp's transparent clock, which is of two steps. One clock
-- stamps both taps. What rests is below 0: a tap stamps what a port sends before the port's driver does, by 2,458 ns and 1,968 ns.
use Rattle.std.proofs.Common.{◌≡◌, ℕ, suc, zero, ℤ, ◌*◌, pos, ◌+ℤ◌, ◌-ℤ◌, refl, List, [], ◌∷◌, reverse, take, Option, Some, rules}
use Rattle.ptp_units.specs.Moment.{stamp}
use Rattle.event_codec.specs.declared.message.Body.TheVariants as bodies
use Rattle.event_codec.specs.declared.port.PortConfig.{PortConfig}
use Rattle.event_codec.specs.Packet.{Contents}
use Rattle.network_model.specs.declared.event.Event.{Event}
use Rattle.network_model.specs.declared.event.Event.TheVariants.{Sync, Follow, Enter, Leave, Arrive, Request}
use Rattle.network_model.specs.Network.{Network}
use Rattle.network_model.specs.Run.{Run, place}
use Rattle.network_model.specs.Outcome.{IsRun}
use Rattle.network_model.specs.Level.{time_on}
use Rattle.network_model.proofs.Accepted.{IsRun-test}
use Rattle.network_model.proofs.Worked.{m, s, t, at, master, slave_of, clock}
use Rattle.tap_crossing.specs.declared.sighting.Kind.{Kind}
use Rattle.tap_crossing.specs.declared.sighting.Kind.TheVariants as kinds
use Rattle.tap_crossing.specs.declared.sighting.Placed.{Placed}
use Rattle.tap_crossing.specs.declared.sighting.Tap.{Tap}
use Rattle.tap_crossing.specs.declared.sighting.Tap.TheVariants as taps
use Rattle.tap_crossing.specs.declared.watched.Watched.{Watched}
use Rattle.tap_crossing.specs.declared.crossing.MessageOutcome.{MessageOutcome}
use Rattle.tap_crossing.specs.declared.crossing.MessageOutcome.TheVariants as outcomes
use Rattle.tap_crossing.proofs.Worked.{crossing_of}
use Rattle.tap_laws.specs.Told.{Passage, IsEven, Keeps, message_at, message_told, moved_at}
use Rattle.tap_laws.specs.Way.{IsWay, Leg, Clock, cables}
use Rattle.tap_laws.specs.Lines.{Met, EachIs, EachRests, IsTappedAt, IsOfWay, first_tap, second_tap}
use Rattle.tap_laws.proofs.Lines.{what_rests}
use Rattle.tap_laws.proofs.Worked.{message, line, outcomes_under, need_others, it_tells}

abbrev identified : List ℕ → PortConfig
identified last = record { identity = record { clock = 2 ∷ 0 ∷ 0 ∷ 255 ∷ 254 ∷ last; port = 1 }; domain = 0; log = pos 0 }

abbrev m_config : PortConfig
m_config = identified (17 ∷ 34 ∷ 51 ∷ [])

abbrev s_config : PortConfig
s_config = identified (170 ∷ 187 ∷ 204 ∷ [])

abbrev watched : Watched
watched = record { domain = 0; master = m_config.identity; slave = Some s_config.identity }

-- what the packets say: 71,453 ns of the Sync stand in the Follow_Up at the right port, and 59,871 ns of the Delay_Req in the Delay_Resp
abbrev sync : Contents
sync = message m_config.identity 2 3 0 0 (bodies.Sync (stamp 0 0))

abbrev follow_up : (correction : ℕ) → Contents
follow_up correction = message m_config.identity 0 3 2 correction (bodies.FollowUp (stamp 1795645067 377514075))

abbrev request : Contents
request = message s_config.identity 0 0 1 0 (bodies.DelayReq (stamp 0 0))

abbrev response : (correction : ℕ) → Contents
response correction = message m_config.identity 0 0 3 correction (bodies.DelayResp (stamp 1795645068 100887611) s_config.identity)

-- the packets, by their numbers; what the left port saw of the Delay_Req stands before what the right port saw
abbrev packets : List Met
packets =
    line taps.To 30 (at 1795645068 100934092 0) (response 59871) 1
    ∷ line taps.To 29 (at 1795645068 100827185 0) request 1
    ∷ line taps.From 28 (at 1795645068 100919240 0) (response 0) 1
    ∷ line taps.From 27 (at 1795645068 100885088 0) request 1
    ∷ line taps.To 25 (at 1795645067 377639486 0) (follow_up 71453) 0
    ∷ line taps.To 24 (at 1795645067 377585474 0) sync 0
    ∷ line taps.From 22 (at 1795645067 377537820 0) (follow_up 0) 0
    ∷ line taps.From 21 (at 1795645067 377516479 0) sync 0 ∷ []

abbrev crossed : Kind → (number time taken corrected first_line second_line from_line to_line : ℕ) → Option MessageOutcome
crossed kind number time taken corrected first_line second_line from_line to_line = Some (outcomes.Crossed
    (crossing_of kind number time (pos (taken * 65536)) (pos (corrected * 65536)) (pos (taken * 65536) -ℤ pos (corrected * 65536)) first_line
    second_line (Some from_line) (Some to_line)))

abbrev waits : Option MessageOutcome
waits = Some outcomes.Waits

told_of_packets : outcomes_under watched packets ≡ crossed kinds.DelayReq 0 (at 1795645068 100827185 0) 57903 59871 29 27 28 30 ∷ waits ∷ waits ∷ waits
    ∷ crossed kinds.Sync 3 (at 1795645067 377516479 0) 68995 71453 21 24 22 25 ∷ waits ∷ waits ∷ waits ∷ []
told_of_packets = refl

-- a run that they tell: the messages entered when the taps stamped them, and left when the clock says
abbrev network : Network
network = master m m_config 3 ∷ slave_of s s_config ∷ clock t ∷ []

abbrev events : List Event
events =
    Sync m (at 1795645067 377514075 0) ∷ Enter t 0 (at 1795645067 377516479 0) ∷ Leave t 1 (at 1795645067 377587932 0)
    ∷ Arrive s 2 (at 1795645067 377590000 0) ∷ Follow m ∷ Request s (at 1795645068 100826000 0)
    ∷ Enter t 5 (at 1795645068 100827185 0) ∷ Leave t 6 (at 1795645068 100887056 0) ∷ Arrive m 7 (at 1795645068 100887611 0) ∷ []

abbrev after : ℕ → Run
after n = reverse (take n events)

accepted : IsRun network (after 9)
accepted = IsRun-test network (after 9) refl

abbrev passages : ℕ → Passage
passages zero = record {
  first = place (Enter t 0 (at 1795645067 377516479 0)) (after 1);
  second = place (Leave t 1 (at 1795645067 377587932 0)) (after 2);
  general = 4;
  moved = record { first = pos 0; second = pos 0 -ℤ pos (71453 * 65536); at_from = pos 0; at_to = pos (71453 * 65536) };
}
passages (suc n) = record {
  first = place (Enter t 5 (at 1795645068 100827185 0)) (after 6);
  second = place (Leave t 6 (at 1795645068 100887056 0)) (after 7);
  general = 8;
  moved = record { first = pos 0; second = pos 0 -ℤ pos (59871 * 65536); at_from = pos 0 -ℤ pos (59871 * 65536); at_to = pos 0 };
}

evenly_moved : (n : ℕ) → IsEven network (passages n)
evenly_moved zero = record { whole = refl; alone = λ m told none. absurd (need_others (message_at network (passages 0).second) refl m told none) }
evenly_moved (suc n) = record { whole = refl; alone = λ m told none. absurd (need_others (message_at network (passages 1).second) refl m told none) }

abbrev ways : ℕ → List Leg
ways zero = Clock t (record { entered = (passages 0).first; left = (passages 0).second }) ∷ []
ways (suc n) = Clock t (record { entered = (passages 1).first; left = (passages 1).second }) ∷ []

way_there : IsWay (passages 0).first (passages 0).second (ways 0)
way_there = (refl, record { copy = 0; entered_at = _; left_at = _; enters = refl; leaves = refl; inside = refl }, refl)

way_back : IsWay (passages 1).first (passages 1).second (ways 1)
way_back = (refl, record { copy = 5; entered_at = _; left_at = _; enters = refl; leaves = refl; inside = refl }, refl)

-- the stamps at the tap behind which a message goes on are early
abbrev early : (passage : ℕ) → Tap → ℤ
early zero taps.From = pos 0
early zero taps.To = pos 0 -ℤ pos (2458 * 65536)
early (suc n) taps.From = pos 0 -ℤ pos (1968 * 65536)
early (suc n) taps.To = pos 0

of_way_there : {message : Placed} {m : Contents} → message_told network (after 9) (passages 0) message.place ≡ Some m
    → Keeps (moved_at (passages 0).moved message.place) m message.sighting
    → IsTappedAt (early 0) message.kind (passages 0) message.place message.sighting.time
    → IsOfWay network (after 9) (early 0) (ways 0) (passages 0) message
of_way_there is_told keeps tapped =
    record { there = refl; way = way_there; even = evenly_moved 0; tells = it_tells is_told keeps; tapped = tapped }

of_way_back : {message : Placed} {m : Contents} → message_told network (after 9) (passages 1) message.place ≡ Some m
    → Keeps (moved_at (passages 1).moved message.place) m message.sighting
    → IsTappedAt (early 1) message.kind (passages 1) message.place message.sighting.time
    → IsOfWay network (after 9) (early 1) (ways 1) (passages 1) message
of_way_back is_told keeps tapped =
    record { there = refl; way = way_back; even = evenly_moved 1; tells = it_tells is_told keeps; tapped = tapped }

each_way : EachIs (λ n. IsOfWay network (after 9) (early n) (ways n) (passages n)) watched packets
each_way =
    (of_way_back refl (search rules) tt, (of_way_back refl (search rules) refl, (of_way_back refl (search rules) tt, (of_way_back refl (search rules) refl, (of_way_there refl (search rules) tt, (of_way_there refl (search rules) refl, (of_way_there refl (search rules) tt, (of_way_there refl (search rules) refl, tt))))))))

-- no cable is between, so what rests is how early they are
early_rests : EachRests (λ kind n. time_on (cables (ways n)) +ℤ (early n (second_tap kind) -ℤ early n (first_tap kind))) watched packets
early_rests = what_rests network (after 9) early ways passages watched packets accepted refl each_way
    (refl, (refl, (refl, (refl, (refl, (refl, (refl, (refl, tt))))))))
