-- Worked cases: lines at both ports of a clock, of which nothing rests, and what rests where a premise is missing.
-- Times are those of an exchange of linuxptp's ptp4l behind its transparent clock: it kept the Sync for 45,301 ns, and the Delay_Req
-- for 30,017 ns.
use Rattle.std.proofs.Common.{◌≡◌, ◌∙◌, ℕ, suc, zero, ℤ, true, false, sym, ap, ◌*◌, ◌+◌, pos, ◌+ℤ◌, ◌-ℤ◌, refl, List, [], ◌∷◌, reverse, take, Option, Some, option_map, rules}
use Rattle.ptp_units.specs.Moment.{stamp}
use Rattle.event_codec.specs.declared.message.Body.{Body}
use Rattle.event_codec.specs.declared.message.Body.TheVariants as bodies
use Rattle.event_codec.specs.declared.port.PortIdentity.{PortIdentity}
use Rattle.event_codec.specs.Packet.{Contents}
use Rattle.network_model.specs.declared.event.Event.{Event}
use Rattle.network_model.specs.declared.event.Event.TheVariants.{Sync, Follow, Enter, Leave, Arrive, Hear, Request}
use Rattle.network_model.specs.declared.event.Event.TheVariants.{Stamped, SetMaster}
use Rattle.network_model.specs.Network.{Network}
use Rattle.network_model.specs.Run.{Run, Place, place}
use Rattle.network_model.specs.Outcome.{IsRun}
use Rattle.network_model.specs.Level.{crossing, time_on}
use Rattle.network_model.proofs.Accepted.{IsRun-test}
use Rattle.network_model.proofs.Worked.{m, s, t, a, m_config, s_config, at, master, slave, clock}
use Rattle.tap_crossing.specs.declared.sighting.Kind.{Kind}
use Rattle.tap_crossing.specs.declared.sighting.Kind.TheVariants as kinds
use Rattle.tap_crossing.specs.declared.sighting.Place.{Place as RecordPlace}
use Rattle.tap_crossing.specs.declared.sighting.Placed.{Placed}
use Rattle.tap_crossing.specs.declared.sighting.Sighting.{Sighting}
use Rattle.tap_crossing.specs.declared.sighting.Tap.{Tap}
use Rattle.tap_crossing.specs.declared.sighting.Tap.TheVariants as taps
use Rattle.tap_crossing.specs.declared.watched.Watched.{Watched}
use Rattle.tap_crossing.specs.declared.crossing.Crossing.{Crossing}
use Rattle.tap_crossing.specs.declared.crossing.MessageOutcome.{MessageOutcome}
use Rattle.tap_crossing.specs.declared.crossing.MessageOutcome.TheVariants as outcomes
use Rattle.tap_crossing.specs.Placed.{needs_other}
use Rattle.tap_crossing.specs.Told.{told}
use Rattle.tap_crossing.proofs.Worked.{crossing_of}
use Rattle.tap_laws.specs.Told.{Moved, Passage, IsEven, Keeps, Tells, message_at, message_told, moved_at}
use Rattle.tap_laws.specs.Way.{IsStay, IsWay, Leg, Cable, Clock, cables}
use Rattle.tap_laws.specs.Lines.{Met, placed_of, followed, EachIs, AreApart, EachRests, IsReadAt, IsTappedAt, IsOfClock, IsOfWay, first_tap, second_tap}
use Rattle.tap_laws.proofs.Lines.{a_clock_tells, what_rests}

-- a message of this source with a correction in ns; of a two-step Sync where the first octet of its flags is 2
abbrev pub message : PortIdentity → (flags number control correction : ℕ) → Body → Contents
message source flags number control correction body = record {
  header = record {
    major_sdo = 0;
    minor_version = 0;
    domain = 0;
    minor_sdo = 0;
    flags = flags ∷ 0 ∷ [];
    correction = record { 0 = pos (correction * 65536) };
    specific = 0 ∷ 0 ∷ 0 ∷ 0 ∷ [];
    source = source;
    sequence = record { 0 = number };
    control = control;
    log = pos 0;
  };
  body = body;
  suffix = [];
}

abbrev pub line : Tap → (line time : ℕ) → Contents → (passage : ℕ) → Met
line tap number time said passage = record { tap = tap; line = number; time = time; said = said; passage = passage }

abbrev pub watched : Watched
watched = record { domain = 0; master = m_config.identity; slave = Some s_config.identity }

-- a master, whose next Sync has number 7, a slave, and two clocks between them
abbrev pub network : Network
network = master m m_config 7 ∷ slave ∷ clock t ∷ clock a ∷ []

-- what happened, the oldest first: the cables take 700 ns and 700 ns, and 1,300 ns and 1,319 ns
abbrev events : List Event
events =
    SetMaster s m
    ∷ Sync m (at 1795329064 941753892 0) ∷ Enter t 1 (at 1795329064 941754592 0)
    ∷ Leave t 2 (at 1795329064 941799893 0) ∷ Arrive s 3 (at 1795329064 941800593 0) ∷ Follow m ∷ Hear s 5
    ∷ Request s (at 1795329064 967344615 0) ∷ Enter t 7 (at 1795329064 967345915 0)
    ∷ Leave t 8 (at 1795329064 967375932 0) ∷ Arrive m 9 (at 1795329064 967377251 0) ∷ Stamped s ∷ Hear s 10 ∷ []

-- the first so many of them
abbrev after : ℕ → Run
after n = reverse (take n events)

abbrev pub run : Run
run = after 13

pub accepted : IsRun network run
accepted = IsRun-test network run refl

-- the event of this tag
abbrev pub event : Event → ℕ → Place
event e tag = place e (after tag)

abbrev sync : (correction : ℕ) → Contents
sync correction = message m_config.identity 2 7 0 correction (bodies.Sync (stamp 0 0))

abbrev follow_up : (correction : ℕ) → Contents
follow_up correction = message m_config.identity 0 7 2 correction (bodies.FollowUp (stamp 1795329064 941753892))

abbrev request : (correction : ℕ) → Contents
request correction = message s_config.identity 0 0 1 correction (bodies.DelayReq (stamp 0 0))

abbrev response : (correction : ℕ) → Contents
response correction = message m_config.identity 0 0 3 correction (bodies.DelayResp (stamp 1795329064 967377251) s_config.identity)

-- the lines of the one tap come before those of the other
abbrev lines : List Met
lines =
    line taps.To 8 (at 1795329064 967380000 0) (response 30017) 1
    ∷ line taps.To 7 (at 1795329064 967345915 0) (request 0) 1
    ∷ line taps.To 6 (at 1795329064 941803000 0) (follow_up 0) 0
    ∷ line taps.To 5 (at 1795329064 941799893 0) (sync 45301) 0
    ∷ line taps.From 4 (at 1795329064 967379000 0) (response 30017) 1
    ∷ line taps.From 3 (at 1795329064 967375932 0) (request 30017) 1
    ∷ line taps.From 2 (at 1795329064 941802000 0) (follow_up 0) 0
    ∷ line taps.From 1 (at 1795329064 941754592 0) (sync 0) 0 ∷ []

-- of each line that is followed what is told, the newest first
abbrev pub outcomes_under : Watched → List Met → List (Option MessageOutcome)
outcomes_under w [] = []
outcomes_under w (d ∷ earlier) = option_map (λ p. told 256 p (followed w earlier)) (placed_of w d) ∷ outcomes_under w earlier

abbrev pub outcomes_of : List Met → List (Option MessageOutcome)
outcomes_of = outcomes_under watched

-- a crossing of which nothing rests
abbrev exact : Kind → (number time kept first_line second_line from_line to_line : ℕ) → Option MessageOutcome
exact kind number time kept first_line second_line from_line to_line = Some (outcomes.Crossed
    (crossing_of kind number time (pos (kept * 65536)) (pos (kept * 65536)) (pos 0) first_line second_line (Some from_line) (Some to_line)))

abbrev waits : Option MessageOutcome
waits = Some outcomes.Waits

-- two crossings
told_of_them : outcomes_of lines ≡ exact kinds.DelayReq 0 (at 1795329064 967345915 0) 30017 7 3 4 8 ∷ waits
    ∷ exact kinds.Sync 7 (at 1795329064 941754592 0) 45301 1 5 2 6 ∷ waits ∷ waits ∷ waits ∷ waits ∷ waits ∷ []
told_of_them = refl

-- where nothing stands in another message
abbrev pub none_moved : Moved
none_moved = record { first = pos 0; second = pos 0; at_from = pos 0; at_to = pos 0 }

-- the passages: the Sync with the copy of its Follow_Up, and the Delay_Req with that of its Delay_Resp
abbrev passages : ℕ → Passage
passages zero = record {
  first = event (Enter t 1 (at 1795329064 941754592 0)) 2;
  second = event (Leave t 2 (at 1795329064 941799893 0)) 3;
  general = 5;
  moved = none_moved;
}
passages (suc n) = record {
  first = event (Enter t 7 (at 1795329064 967345915 0)) 8;
  second = event (Leave t 8 (at 1795329064 967375932 0)) 9;
  general = 10;
  moved = none_moved;
}

abbrev pub sync_stay : IsStay t (record { entered = event (Enter t 1 (at 1795329064 941754592 0)) 2; left = event (Leave t 2 (at 1795329064 941799893 0)) 3 })
sync_stay = record { copy = 1; entered_at = _; left_at = _; enters = refl; leaves = refl; inside = refl }

abbrev pub request_stay : IsStay t (record { entered = event (Enter t 7 (at 1795329064 967345915 0)) 8; left = event (Leave t 8 (at 1795329064 967375932 0)) 9 })
request_stay = record { copy = 7; entered_at = _; left_at = _; enters = refl; leaves = refl; inside = refl }

unmoved : (n : ℕ) → IsEven network (passages n)
unmoved zero = record { whole = refl; alone = λ m told none. refl }
unmoved (suc n) = record { whole = refl; alone = λ m told none. refl }

-- what is met tells the message that is told there
pub it_tells : {network : Network} {run : Run} {p : Passage} {place : RecordPlace} {s : Sighting} {m : Contents}
    → message_told network run p place ≡ Some m → Keeps (moved_at p.moved place) m s → Tells network run p place s
it_tells is_told keeps = record { m = _; is_told = is_told; keeps = keeps }

of_sync : {message : Placed} {m : Contents} → message_told network run (passages 0) message.place ≡ Some m
    → Keeps (moved_at (passages 0).moved message.place) m message.sighting
    → IsReadAt (passages 0) message.place message.sighting.time → IsOfClock network run t (passages 0) message
of_sync is_told keeps read = record { there = refl; stay = sync_stay; even = unmoved 0; tells = it_tells is_told keeps; read = read }

of_request : {message : Placed} {m : Contents} → message_told network run (passages 1) message.place ≡ Some m
    → Keeps (moved_at (passages 1).moved message.place) m message.sighting
    → IsReadAt (passages 1) message.place message.sighting.time → IsOfClock network run t (passages 1) message
of_request is_told keeps read = record { there = refl; stay = request_stay; even = unmoved 1; tells = it_tells is_told keeps; read = read }

each_is : EachIs (λ n. IsOfClock network run t (passages n)) watched lines
each_is =
    (of_request refl (search rules) tt, (of_request refl (search rules) refl, (of_sync refl (search rules) tt, (of_sync refl (search rules) refl, (of_request refl (search rules) tt, (of_request refl (search rules) refl, (of_sync refl (search rules) tt, (of_sync refl (search rules) refl, tt))))))))

are_apart : AreApart watched lines
are_apart = (refl, (refl, (refl, (refl, (refl, (refl, (refl, (refl, tt))))))))

nothing_rests : EachRests (λ kind n. pos 0) watched lines
nothing_rests = a_clock_tells network run t passages watched lines accepted each_is are_apart

-- The same from port to port, as these programs wrote it, whose clock is of two steps: what it measured stands in the Follow_Up and in
-- the Delay_Resp. One clock stamps both taps, and is 100 ns ahead.
abbrev ports : List Met
ports =
    line taps.From 8 (at 1795329064 967377500 0) (response 0) 1
    ∷ line taps.From 7 (at 1795329064 967377351 0) (request 0) 1
    ∷ line taps.From 6 (at 1795329064 941770000 0) (follow_up 0) 0
    ∷ line taps.From 5 (at 1795329064 941753992 0) (sync 0) 0
    ∷ line taps.To 4 (at 1795329064 967395339 0) (response 30017) 1
    ∷ line taps.To 3 (at 1795329064 967344715 0) (request 0) 1
    ∷ line taps.To 2 (at 1795329064 941818117 0) (follow_up 45301) 0
    ∷ line taps.To 1 (at 1795329064 941800693 0) (sync 0) 0 ∷ []

abbrev pub rests : Kind → (number time kept rest first_line second_line from_line to_line : ℕ) → Crossing
rests kind number time kept rest first_line second_line from_line to_line =
    crossing_of kind number time (pos ((kept + rest) * 65536)) (pos (kept * 65536)) (pos (rest * 65536)) first_line second_line
    (Some from_line) (Some to_line)

abbrev resting : Kind → (number time kept rest first_line second_line from_line to_line : ℕ) → Option MessageOutcome
resting kind number time kept rest first_line second_line from_line to_line =
    Some (outcomes.Crossed (rests kind number time kept rest first_line second_line from_line to_line))

-- 1,400 ns rest of the Sync, and 2,619 ns of the Delay_Req: the cables
told_of_ports : outcomes_of ports ≡ resting kinds.DelayReq 0 (at 1795329064 967344715 0) 30017 2619 3 7 8 4 ∷ waits
    ∷ resting kinds.Sync 7 (at 1795329064 941753992 0) 45301 1400 5 1 6 2 ∷ waits ∷ waits ∷ waits ∷ waits ∷ waits ∷ []
told_of_ports = refl

abbrev pub whole : ℕ → Passage
whole zero = record {
  first = event (Sync m (at 1795329064 941753892 0)) 1;
  second = event (Arrive s 3 (at 1795329064 941800593 0)) 4;
  general = 5;
  moved = record { first = pos 0; second = pos 0 -ℤ pos (45301 * 65536); at_from = pos 0; at_to = pos (45301 * 65536) };
}
whole (suc n) = record {
  first = event (Request s (at 1795329064 967344615 0)) 7;
  second = event (Arrive m 9 (at 1795329064 967377251 0)) 10;
  general = 10;
  moved = record { first = pos 0; second = pos 0 -ℤ pos (30017 * 65536); at_from = pos 0 -ℤ pos (30017 * 65536); at_to = pos 0 };
}

-- both event messages need another
pub need_others : (o : Option Contents) → option_map (λ (c : Contents). needs_other c.header c.body) o ≡ Some true → (m : Contents) → o ≡ Some m
    → needs_other m.header m.body ≡ false → ⊥
need_others o needs m told none =
    let is : Some true ≡ Some (needs_other m.header m.body) = sym needs ∙ ap (option_map (λ (c : Contents). needs_other c.header c.body)) told in cc

pub evenly_moved : (n : ℕ) → IsEven network (whole n)
evenly_moved zero = record { whole = refl; alone = λ m told none. absurd (need_others (message_at network (whole 0).second) refl m told none) }
evenly_moved (suc n) = record { whole = refl; alone = λ m told none. absurd (need_others (message_at network (whole 1).second) refl m told none) }

abbrev pub ways : ℕ → List Leg
ways zero =
    Cable (crossing (event (Leave t 2 (at 1795329064 941799893 0)) 3) (event (Arrive s 3 (at 1795329064 941800593 0)) 4))
    ∷ Clock t (record { entered = event (Enter t 1 (at 1795329064 941754592 0)) 2; left = event (Leave t 2 (at 1795329064 941799893 0)) 3 })
    ∷ Cable (crossing (event (Sync m (at 1795329064 941753892 0)) 1) (event (Enter t 1 (at 1795329064 941754592 0)) 2)) ∷ []
ways (suc n) =
    Cable (crossing (event (Leave t 8 (at 1795329064 967375932 0)) 9) (event (Arrive m 9 (at 1795329064 967377251 0)) 10))
    ∷ Clock t (record { entered = event (Enter t 7 (at 1795329064 967345915 0)) 8; left = event (Leave t 8 (at 1795329064 967375932 0)) 9 })
    ∷ Cable (crossing (event (Request s (at 1795329064 967344615 0)) 7) (event (Enter t 7 (at 1795329064 967345915 0)) 8)) ∷ []

abbrev ahead : Tap → ℤ
ahead tap = pos (100 * 65536)

pub way_there : IsWay (whole 0).first (whole 0).second (ways 0)
way_there = (refl, (refl, sync_stay, (refl, refl)))

pub way_back : IsWay (whole 1).first (whole 1).second (ways 1)
way_back = (refl, (refl, request_stay, (refl, refl)))

of_way_there : {message : Placed} {m : Contents} → message_told network run (whole 0) message.place ≡ Some m
    → Keeps (moved_at (whole 0).moved message.place) m message.sighting
    → IsTappedAt ahead message.kind (whole 0) message.place message.sighting.time → IsOfWay network run ahead (ways 0) (whole 0) message
of_way_there is_told keeps tapped =
    record { there = refl; way = way_there; even = evenly_moved 0; tells = it_tells is_told keeps; tapped = tapped }

of_way_back : {message : Placed} {m : Contents} → message_told network run (whole 1) message.place ≡ Some m
    → Keeps (moved_at (whole 1).moved message.place) m message.sighting
    → IsTappedAt ahead message.kind (whole 1) message.place message.sighting.time → IsOfWay network run ahead (ways 1) (whole 1) message
of_way_back is_told keeps tapped =
    record { there = refl; way = way_back; even = evenly_moved 1; tells = it_tells is_told keeps; tapped = tapped }

each_way : EachIs (λ n. IsOfWay network run ahead (ways n) (whole n)) watched ports
each_way =
    (of_way_back refl (search rules) tt, (of_way_back refl (search rules) refl, (of_way_there refl (search rules) tt, (of_way_there refl (search rules) refl, (of_way_back refl (search rules) tt, (of_way_back refl (search rules) refl, (of_way_there refl (search rules) tt, (of_way_there refl (search rules) refl, tt))))))))

cables_rest : EachRests (λ kind n. time_on (cables (ways n)) +ℤ (ahead (second_tap kind) -ℤ ahead (first_tap kind))) watched ports
cables_rest = what_rests network run (λ n. ahead) ways whole watched ports accepted refl each_way
    (refl, (refl, (refl, (refl, (refl, (refl, (refl, (refl, tt))))))))
