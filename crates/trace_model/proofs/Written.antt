-- The octets of each line that tells of a message are those that its port or its clock writes: the message that the
-- lines before it ask for is the copy that the event made.
use Rattle.std.proofs.Common.{◌≡◌, ◌∙◌, ℕ, Bool, true, ◌∷◌, length, Option, Some, None, Ok, refl, sym, ap, subst}
use Rattle.std.proofs.Common.{option_map, option_and_then, if◌then◌else◌}
use Rattle.std.specs.Prelude.{◌||◌, is_some}
use Rattle.std.proofs.lemmas.Bool.{eq-eqb}
use Rattle.ptp_units.specs.Sequence.{of_count}
use Rattle.event_codec.specs.Packet.{Contents}
use Rattle.master_port.specs.Written.{sync, one_step_sync}
use Rattle.slave_port.specs.Written.{delay_req}
use Rattle.transparent_clock.specs.Forwarding.{resided}
use Rattle.network_model.specs.declared.event.Event.{Event}
use Rattle.network_model.specs.declared.event.Event.TheVariants.{Sync, SyncOne, Request}
use Rattle.network_model.specs.declared.stepped.Outcome.{Outcome}
use Rattle.network_model.specs.Network.{Network, PortSetup, master_port, slave_port}
use Rattle.network_model.specs.Run.{Run, Place, place, until, true_moment}
use Rattle.network_model.specs.Kinds.{draws_sync, is_request}
use Rattle.network_model.specs.Numbering.{number_of}
use Rattle.network_model.specs.Truth.{drawn, copy_made, copy_of, master_at, slave_at}
use Rattle.network_model.specs.Outcome.{◌>>=◌, node_as, reads, outcome_of, IsRun}
use Rattle.network_model.proofs.Options.{ok_step}
use Rattle.network_model.proofs.Journeys.{IsIn-last, IsIn-origin}
use Rattle.network_model.proofs.Paths.{stays_are}
use Rattle.trace_model.specs.declared.line.TraceOut.{TraceOut}
use Rattle.trace_model.specs.Record.{LinePlace, event_of, reading, sequence}
use Rattle.trace_model.specs.Octets.{drawing_port, message_sent, sent, sent_after, message_made, is_written}
use Rattle.trace_model.specs.Octets.{writes_right}
use Rattle.trace_model.specs.Told.{TellsMade, TellsOutcome}
use Rattle.trace_model.specs.Faithful.{TellsPlace, TellsJourney}
use Rattle.trace_model.proofs.Good.{node_is, the_value}
use Rattle.trace_model.proofs.Found.{same_event}
use Rattle.trace_model.proofs.Recorded.{sequence_told}
use Rattle.trace_model.proofs.Stays.{until_accepted, reading_told, stays_told}
use Rattle.trace_model.proofs.Packets.{is_packet-Decides}
use Rattle.network_model.specs.declared.stepped.Outcome.TheVariants as outcomes
use Rattle.network_model.specs.Clock as clocks
use Rattle.network_model.specs.Journey as made
use Rattle.network_model.specs.Truth as truth
use Rattle.trace_model.specs.declared.line.TraceOut.TheVariants as outs
use Rattle.trace_model.specs.Journey as lined

-- the octets that tell a message are its octets
told_written : (m : Contents) (out : TraceOut) → TellsMade (Some m) out → is_written (Some m) out ≡ true
told_written m (outs.Made octets) told = (is_packet-Decides m octets.items).1 told
told_written m _ told = absurd told

-- where the lines before a line ask for the copy that its event made
pub written : (network : Network) (p : Place) (e : LinePlace) (m : Contents) → TellsPlace network p e
    → outcome_of network p.earlier p.event ≡ Ok outcomes.Made
    → copy_made network p.event p.earlier (copy_of network p.earlier) ≡ Some m
    → message_made network (event_of e) e ≡ Some m → writes_right network e ≡ true
written network p e m tells is copy message =
    let stepped = tells.told.stepped in
    let made : stepped.outcome ≡ outcomes.Made =
    the_value stepped.outcome outcomes.Made (sym tells.told.answered.outcome ∙ is) in
    let here : copy_of network (p.event ∷ p.earlier) stepped.tag ≡ Some m =
    ap (copy_of network (p.event ∷ p.earlier)) tells.told.answered.tag
    ∙ ap (λ (b : Bool). if b then copy_made network p.event p.earlier (copy_of network p.earlier)
    else copy_of network p.earlier (length p.earlier))
    (eq-eqb (length p.earlier) (length p.earlier) refl) ∙ copy in
    let told : TellsOutcome (copy_of network (p.event ∷ p.earlier) stepped.tag) outcomes.Made e.line.out =
    subst (λ (o : Outcome). TellsOutcome (copy_of network (p.event ∷ p.earlier) stepped.tag) o e.line.out) made
    tells.told.told.outcome in
    let told_message : TellsMade (Some m) e.line.out =
    subst (λ (c : Option Contents). TellsMade c e.line.out) here told in
    ap (λ (c : Option Contents). is_written c e.line.out) message ∙ told_written m e.line.out told_message

-- what a Sync, SyncOne or Request line sent is what its event drew
sent_told : (network : Network) (event : Event) (earlier : Run) (e : LinePlace) → IsRun network (event ∷ earlier)
    → TellsPlace network (place event earlier) e
    → sent network e ≡ drawn network event earlier
sent_told network event earlier e accepted tells =
    ap (λ (v : Event). option_and_then
    (λ (port : PortSetup). message_sent port.config v (sequence network port e) (reading e))
    (drawing_port network v)) (same_event network (place event earlier) e tells)
    ∙ by event refl
  where
    number : (port : PortSetup) → sequence network port e ≡ of_count (number_of port (place event earlier))
    number port = sequence_told network (place event earlier) e tells port

    of : (make : PortSetup → ℕ → Contents) (o : Option PortSetup)
        → option_and_then (λ (port : PortSetup). Some (make port (sequence network port e))) o
        ≡ option_map (λ (port : PortSetup). make port (of_count (number_of port (place event earlier)))) o
    of make None = refl
    of make (Some port) = ap (λ (n : ℕ). Some (make port n)) (number port)

    by : (v : Event) → event ≡ v
        → option_and_then (λ (port : PortSetup). message_sent port.config v (sequence network port e) (reading e))
        (drawing_port network v) ≡ drawn network v earlier
    by (Sync node at) same =
        of (λ (port : PortSetup) (n : ℕ). sync port.config n) (master_at network node)
        ∙ ap (λ (v : Event). option_map
        (λ (port : PortSetup). sync port.config (of_count (number_of port (place v earlier))))
        (master_at network node)) same
    by (SyncOne node at) same =
        let read = reading_told network (event ∷ earlier) (place event earlier) e accepted
        (IsIn-last event earlier) tells (ap (λ (v : Event). is_some (true_moment v)) same) in
        of (λ (port : PortSetup) (n : ℕ). one_step_sync port.config n (reading e)) (master_at network node)
        ∙ ap (λ (t : ℕ). option_map (λ (port : PortSetup). one_step_sync port.config
        (of_count (number_of port (place event earlier))) t) (master_at network node)) read.0
        ∙ ap (λ (v : Event). option_map
        (λ (port : PortSetup). one_step_sync port.config (of_count (number_of port (place v earlier)))
        (clocks.reading (place v earlier))) (master_at network node)) same
    by (Request node at) same =
        of (λ (port : PortSetup) (n : ℕ). delay_req port.config n) (slave_at network node)
        ∙ ap (λ (v : Event). option_map (λ (port : PortSetup). delay_req port.config (of_count (number_of port (place v earlier)))) (slave_at network node)) same
    by _ same = refl

-- the message at the end of a journey
pub message_after_told : (network : Network) (run : Run) (tag : ℕ) (journey : made.Journey) (lines : lined.LineJourney)
    → IsRun network run → made.journey_of run tag ≡ Some journey
    → TellsJourney network journey lines → sent_after network lines ≡ truth.message_after network journey
message_after_told network run tag journey lines accepted is tells =
    let stays = stays_told network run journey.stays lines.stays accepted
    (stays_are network run tag journey accepted is) tells.stays in
    let origin = until_accepted network run journey.origin accepted (IsIn-origin run tag journey is) in
    ap (λ (n : ℕ). option_map (λ (m : Contents). resided m n) (sent network lines.origin)) stays.0
    ∙ ap (option_map (λ (m : Contents). resided m (made.residence journey)))
    (sent_told network journey.origin.event journey.origin.earlier lines.origin origin tells.origin)

-- what an event that was accepted drew
drawn_parts : (network : Network) (event : Event) (earlier : Run) (outcome : Outcome)
    → (draws_sync event || is_request event) ≡ true → outcome_of network earlier event ≡ Ok outcome
    → (outcome ≡ outcomes.Made) × (m : Contents) × (drawn network event earlier ≡ Some m)
drawn_parts network (Sync node at) earlier outcome draws is =
    let port = ok_step (node_as master_port network node)
    (λ port. reads (Sync node at) earlier >>= (λ now. Ok outcomes.Made)) is in
    let now = ok_step (reads (Sync node at) earlier) (λ now. Ok outcomes.Made) port.2 in (
      sym (the_value outcomes.Made outcome now.2),
      _,
      ap (option_map (λ (port : PortSetup). sync port.config
          (of_count (number_of port (place (Sync node at) earlier)))))
          (node_is master_port network node {x = port.0} port.1),
    )
drawn_parts network (SyncOne node at) earlier outcome draws is =
    let port = ok_step (node_as master_port network node)
    (λ port. reads (SyncOne node at) earlier >>= (λ now. Ok outcomes.Made)) is in
    let now = ok_step (reads (SyncOne node at) earlier) (λ now. Ok outcomes.Made) port.2 in (
      sym (the_value outcomes.Made outcome now.2),
      _,
      ap (option_map (λ (port : PortSetup). one_step_sync port.config
          (of_count (number_of port (place (SyncOne node at) earlier)))
          (clocks.reading (place (SyncOne node at) earlier))))
          (node_is master_port network node {x = port.0} port.1),
    )
drawn_parts network (Request node at) earlier outcome draws is =
    let port = ok_step (node_as slave_port network node)
    (λ port. reads (Request node at) earlier >>= (λ now. Ok outcomes.Made)) is in
    let now = ok_step (reads (Request node at) earlier) (λ now. Ok outcomes.Made) port.2 in (
      sym (the_value outcomes.Made outcome now.2),
      _,
      ap (option_map (λ (port : PortSetup). delay_req port.config
          (of_count (number_of port (place (Request node at) earlier)))))
          (node_is slave_port network node {x = port.0} port.1),
    )
drawn_parts network _ earlier outcome draws is = cc

drawn_made : (network : Network) (event : Event) (earlier : Run) (copies : ℕ → Option Contents) (e : LinePlace)
    → (draws_sync event || is_request event) ≡ true
    → (copy_made network event earlier copies ≡ drawn network event earlier)
    × (message_made network event e ≡ sent network e)
drawn_made network (Sync node at) earlier copies e draws = (refl, refl)
drawn_made network (SyncOne node at) earlier copies e draws = (refl, refl)
drawn_made network (Request node at) earlier copies e draws = (refl, refl)
drawn_made network _ earlier copies e draws = cc

-- a Sync, a one-step Sync or a Delay_Req that was sent
pub drawn_written : (network : Network) (p : Place) (e : LinePlace) → IsRun network (until p) → TellsPlace network p e
    → (draws_sync p.event || is_request p.event) ≡ true
    → writes_right network e ≡ true
drawn_written network p e accepted tells draws =
    let parts = drawn_parts network p.event p.earlier tells.told.stepped.outcome draws tells.told.answered.outcome in
    let of_event = drawn_made network p.event p.earlier (copy_of network p.earlier) e draws in
    written network p e parts.1 tells (tells.told.answered.outcome ∙ ap Ok parts.0) (of_event.0 ∙ parts.2)
    (ap (λ (v : Event). message_made network v e) (same_event network p e tells) ∙ of_event.1
    ∙ sent_told network p.event p.earlier e accepted tells ∙ parts.2)
