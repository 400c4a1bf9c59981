-- The message that each line made, if its octets are those that ports and clocks write (IEEE 1588-2019, 10.2, 11.3,
-- 13.3 and 13.6 to 13.8).
use Rattle.std.specs.Prelude.{◌↔◌, ℕ, ◌+◌, ◌*◌, ◌^◌, Bool, true, false, ◌&&◌, not, List, length, drop, nat_lt, ◌==◌}
use Rattle.std.specs.Prelude.{slice_index, slice_range, IsTrue, Option, Some, None, option_map, option_and_then}
use Rattle.std.specs.Int.{w8, w64, cast_signed}
use Rattle.std.specs.List.{list_all}
use Rattle.std.specs.Ordering.{int_eq}
use Rattle.std.specs.Str.{bytes_eq}
use Rattle.event_codec.specs.declared.message.Body.{Body}
use Rattle.event_codec.specs.declared.message.Body.TheVariants as bodies
use Rattle.event_codec.specs.declared.port.PortConfig.{PortConfig}
use Rattle.event_codec.specs.declared.port.PortIdentity.{PortIdentity}
use Rattle.event_codec.specs.Layout.{number, number_of, type_of, fields_length, stamp_in}
use Rattle.event_codec.specs.Packet.{Contents, Packet}
use Rattle.master_port.specs.Written.{sync, one_step_sync, follow_up, delay_resp}
use Rattle.slave_port.specs.Written.{delay_req}
use Rattle.transparent_clock.specs.Forwarding.{resided}
use Rattle.network_model.specs.declared.event.Event.{Event}
use Rattle.network_model.specs.declared.event.Event.TheVariants.{Sync, SyncOne, Follow, Leave, Arrive, Request}
use Rattle.network_model.specs.Network.{Network, PortSetup}
use Rattle.network_model.specs.Kinds.{is_sync}
use Rattle.network_model.specs.Truth.{master_at, slave_at}
use Rattle.trace_model.specs.declared.line.TraceOut.{TraceOut}
use Rattle.trace_model.specs.declared.line.TraceOut.TheVariants as outs
use Rattle.trace_model.specs.Record.{LinePlace, event_of, last_line, reading, sequence}
use Rattle.trace_model.specs.Journey.{LineJourney, line_journey_of, line_journey_made, line_residence}

-- whether the ten octets of b from octet i on are this port's identity
abbrev pub is_identity_at : PortIdentity → List ℕ → ℕ → Bool
is_identity_at identity b i = bytes_eq identity.clock (slice_range b i (i + 8)) && identity.port == number b (i + 8) 2

-- whether octets 44 to 53 of a Delay_Resp are its requestingPortIdentity
abbrev pub is_requesting : Body → List ℕ → Bool
is_requesting (bodies.Sync origin) b = true
is_requesting (bodies.DelayReq origin) b = true
is_requesting (bodies.FollowUp precise) b = true
is_requesting (bodies.DelayResp receive requesting) b = is_identity_at requesting b 44

-- whether b is the message, octet for octet: the test of `Packet`, as `EachPacketIsTested` says
abbrev pub is_packet : Contents → List ℕ → Bool
is_packet m b =
    list_all (λ octet. nat_lt octet 256) b
    && number b 2 2 == length b
    && not (nat_lt (length b) (fields_length (type_of m.body)))
    && slice_index b 0 == 16 * m.header.major_sdo + number_of (type_of m.body)
    && slice_index b 1 == 16 * m.header.minor_version + 2
    && m.header.domain == slice_index b 4
    && m.header.minor_sdo == slice_index b 5
    && bytes_eq m.header.flags (slice_range b 6 8)
    && int_eq m.header.correction.0 (cast_signed w64 (number b 8 8))
    && bytes_eq m.header.specific (slice_range b 16 20)
    && is_identity_at m.header.source b 20
    && m.header.sequence.0 == number b 30 2
    && m.header.control == slice_index b 32
    && int_eq m.header.log (cast_signed w8 (slice_index b 33))
    && (stamp_in m.body).seconds == number b 34 6
    && (stamp_in m.body).nanos == number b 40 4
    && nat_lt (number b 40 4) (10 ^ 9)
    && is_requesting m.body b
    && bytes_eq m.suffix (drop (fields_length (type_of m.body)) b)

-- The test holds of just those octets that are the message by the layout's one relation. `laws::each_packet_is_tested`
-- promises it.
abbrev pub EachPacketIsTested : Type 0
EachPacketIsTested = (m : Contents) (b : List ℕ) → IsTrue (is_packet m b) ↔ Packet m b

-- the port that draws a number at an event
abbrev pub drawing_port : Network → Event → Option PortSetup
drawing_port network (Sync node at) = master_at network node
drawing_port network (SyncOne node at) = master_at network node
drawing_port network (Request node at) = slave_at network node
drawing_port network _ = None

-- the message that a port with this configuration sends at an event, under this number and at this reading
abbrev pub message_sent : PortConfig → Event → (number now : ℕ) → Option Contents
message_sent config (Sync node at) number now = Some (sync config number)
message_sent config (SyncOne node at) number now = Some (one_step_sync config number now)
message_sent config (Request node at) number now = Some (delay_req config number)
message_sent config _ number now = None

-- the message that a Sync, SyncOne or Request line sent, with the drawn number
abbrev pub sent : Network → LinePlace → Option Contents
sent network e = option_and_then
    (λ port. message_sent port.config (event_of e) (sequence network port e) (reading e))
    (drawing_port network (event_of e))

-- the message at the end of a journey: as it was sent, with the residence of the journey added to its correction
abbrev pub sent_after : Network → LineJourney → Option Contents
sent_after network journey = option_map (λ m. resided m (line_residence journey)) (sent network journey.origin)

-- the Follow_Up that a master sends: of its last Sync line below, whose reading is t1
abbrev pub follow_up_sent : Network → PortSetup → (last : LinePlace) → Contents
follow_up_sent network port last = follow_up port.config (sequence network port last) (reading last)

-- the Delay_Resp that a master sends to a Delay_Req that arrived after this journey, t4 being the reading of the
-- arrival
abbrev pub answered : Network → PortSetup → (arrival : LinePlace) → LineJourney → Option Contents
answered network port arrival journey =
    option_map (λ request. delay_resp port.config request.header (reading arrival)) (sent_after network journey)

-- the message that a line made
abbrev pub message_made : Network → Event → LinePlace → Option Contents
message_made network (Sync node at) e = sent network e
message_made network (SyncOne node at) e = sent network e
message_made network (Follow node) e = option_and_then
    (λ port. option_map (follow_up_sent network port) (last_line network is_sync node e.earlier))
    (master_at network node)
message_made network (Leave node transit at) e = option_and_then
    (sent_after network)
    (line_journey_made network (Leave node transit at) e (line_journey_of network e.earlier))
message_made network (Arrive node copy at) e = option_and_then
    (λ port. option_and_then (answered network port e) (line_journey_of network e.earlier copy))
    (master_at network node)
message_made network (Request node at) e = sent network e
message_made network _ e = None

-- whether these octets are this message
abbrev pub is_written : Option Contents → TraceOut → Bool
is_written (Some m) (outs.Made octets) = is_packet m octets.items
is_written _ _ = false

-- the octets of the message that a line made are those that its port or its clock writes
abbrev pub writes_right : Network → LinePlace → Bool
writes_right network e = is_written (message_made network (event_of e) e) e.line.out
