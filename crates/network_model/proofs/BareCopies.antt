-- No message of a run has a suffix, so its octets are 54 at the most; and none is drawn with a correction below zero.
use Rattle.std.proofs.Common.{◌≡◌, ℕ, ◌≤◌, Bool, true, false, ◌==◌, List, [], ◌∷◌, length, int_lt, Option, IfSome, Ok}
use Rattle.std.proofs.Common.{Err, refl, ap, arith, length-drop, option_map, option_and_then, if◌then◌else◌, pos}
use Rattle.std.specs.Result.{result_ok}
use Rattle.ptp_units.specs.Interval.{less_fraction, least}
use Rattle.ptp_units.specs.Moment.{fraction_of}
use Rattle.ptp_units.specs.Sequence.{of_count}
use Rattle.event_codec.specs.declared.message.Body.{Body}
use Rattle.event_codec.specs.declared.message.Header.{Header}
use Rattle.event_codec.specs.declared.port.PortConfig.{PortConfig}
use Rattle.event_codec.specs.Layout.{type_of, fields_length}
use Rattle.event_codec.specs.Packet.{Contents, Packet}
use Rattle.master_port.specs.declared.refusal.MasterRefusal.TheVariants.{OtherDomain, CorrectionTooLow}
use Rattle.master_port.specs.Written.{sync, one_step_sync, delay_resp, answer_to}
use Rattle.slave_port.specs.Written.{delay_req}
use Rattle.transparent_clock.specs.Forwarding.{resided}
use Rattle.network_model.specs.declared.event.Event.{Event}
use Rattle.network_model.specs.declared.event.Event.TheVariants.{Sync, SyncOne, Follow, Leave, Arrive, Request}
use Rattle.network_model.specs.Network.{Network, PortSetup}
use Rattle.network_model.specs.Run.{Run, place}
use Rattle.network_model.specs.Clock.{reading}
use Rattle.network_model.specs.Journey.{Journey, residence, journey_made, journey_of}
use Rattle.network_model.specs.Numbering.{number_of, waiting_sync}
use Rattle.network_model.specs.Truth.{master_at, slave_at, drawn, message_after, followed, responded, copy_made, copy_of}
use Rattle.std.proofs.lemmas.Option.{IfSome_then}
use Rattle.network_model.proofs.Options.{and_then, each_mapped, mapped, either}
use Rattle.event_codec.specs.declared.message.Body.TheVariants as bodies

-- a message without suffix
abbrev pub IsBare : Contents → Type 0
IsBare m = m.suffix ≡ []

-- the correction isn't negative
abbrev pub IsAtLeastZero : Contents → Type 0
IsAtLeastZero m = (c : ℕ) × (m.header.correction.0 ≡ pos c)

abbrev IsPlain : Contents → Type 0
IsPlain m = IsBare m × IsAtLeastZero m

plain_drawn : (network : Network) (event : Event) (earlier : Run) → IfSome (drawn network event earlier) IsPlain
plain_drawn network (Sync node at) earlier =
    each_mapped IsPlain (λ (port : PortSetup). sync port.config (of_count (number_of port (place (Sync node at) earlier)))) (master_at network node) (λ port. (refl, (0, refl)))
plain_drawn network (SyncOne node at) earlier =
    each_mapped IsPlain (λ (port : PortSetup). one_step_sync port.config (of_count (number_of port (place (SyncOne node at) earlier))) (reading (place (SyncOne node at) earlier))) (master_at network node)
    (λ port. (refl, (fraction_of (reading (place (SyncOne node at) earlier)), refl)))
plain_drawn network (Request node at) earlier =
    each_mapped IsPlain (λ (port : PortSetup). delay_req port.config (of_count (number_of port (place (Request node at) earlier)))) (slave_at network node) (λ port. (refl, (0, refl)))
plain_drawn network _ earlier = tt

bare_drawn : (network : Network) (event : Event) (earlier : Run) → IfSome (drawn network event earlier) IsBare
bare_drawn network event earlier = IfSome_then (drawn network event earlier) (plain_drawn network event earlier) (λ m plain. plain.0)

pub zero_drawn : (network : Network) (event : Event) (earlier : Run) → IfSome (drawn network event earlier) IsAtLeastZero
zero_drawn network event earlier = IfSome_then (drawn network event earlier) (plain_drawn network event earlier) (λ m plain. plain.1)

bare_message_after : (network : Network) (journey : Journey) → IfSome (message_after network journey) IsBare
bare_message_after network journey =
    mapped IsBare (λ (m : Contents). resided m (residence journey)) (drawn network journey.origin.event journey.origin.earlier)
    (bare_drawn network journey.origin.event journey.origin.earlier)

bare_if : (same low : Bool) (m : Contents) → IsBare m → IfSome (result_ok (if same then (if low then Err CorrectionTooLow else Ok m) else Err OtherDomain)) IsBare
bare_if true true m h = tt
bare_if true false m h = h
bare_if false low m h = tt

bare_answer : (config : PortConfig) (body : Body) (header : Header) (t4 : ℕ) → IfSome (result_ok (answer_to config body header t4)) IsBare
bare_answer config (bodies.Sync origin) header t4 = tt
bare_answer config (bodies.DelayReq origin) header t4 =
    bare_if (header.domain == config.domain) (int_lt (less_fraction header.correction.0 (fraction_of t4)) least) (delay_resp config header t4) refl
bare_answer config (bodies.FollowUp precise) header t4 = tt
bare_answer config (bodies.DelayResp receive requesting) header t4 = tt

bare_made : (network : Network) (event : Event) (earlier : Run) (copies : ℕ → Option Contents) → IfSome (copy_made network event earlier copies) IsBare
bare_made network (Sync node at) earlier copies = bare_drawn network (Sync node at) earlier
bare_made network (SyncOne node at) earlier copies = bare_drawn network (SyncOne node at) earlier
bare_made network (Follow node) earlier copies =
    and_then IsBare (λ (port : PortSetup). option_map (followed port) (waiting_sync node earlier)) (master_at network node)
    (λ port. each_mapped IsBare (followed port) (waiting_sync node earlier) (λ waiting. refl))
bare_made network (Leave node transit at) earlier copies =
    and_then IsBare (message_after network) (journey_made (Leave node transit at) earlier (journey_of earlier)) (bare_message_after network)
bare_made network (Arrive node copy at) earlier copies =
    let now = reading (place (Arrive node copy at) earlier) in
    and_then IsBare (λ (port : PortSetup). option_and_then (responded port now) (copies copy)) (master_at network node)
    (λ port. and_then IsBare (responded port now) (copies copy) (λ m. bare_answer port.config m.body m.header now))
bare_made network (Request node at) earlier copies = bare_drawn network (Request node at) earlier
bare_made network _ earlier copies = tt

-- each copy of a run is without suffix
pub bare_copy : (network : Network) (run : Run) (tag : ℕ) → IfSome (copy_of network run tag) IsBare
bare_copy network [] tag = tt
bare_copy network (event ∷ earlier) tag =
    either IsBare (length earlier == tag) (copy_made network event earlier (copy_of network earlier)) (copy_of network earlier tag)
    (λ _. bare_made network event earlier (copy_of network earlier)) (λ _. bare_copy network earlier tag)

fields_few : (body : Body) → fields_length (type_of body) ≤ 54
fields_few (bodies.Sync origin) = omega arith
fields_few (bodies.DelayReq origin) = omega arith
fields_few (bodies.FollowUp precise) = omega arith
fields_few (bodies.DelayResp receive requesting) = omega arith

-- a message without suffix has 54 octets at the most
pub few_octets : (m : Contents) (b : List ℕ) → IsBare m → Packet m b → length b ≤ 54
few_octets m b bare packet =
    omega (arith, fields_few m.body, packet.least, ap (length {A = ℕ}) packet.suffix, ap (length {A = ℕ}) bare, length-drop (fields_length (type_of m.body)) b)
