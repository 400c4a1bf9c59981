-- The octets of Follow_Ups, of Delay_Resps and of what leaves a clock, by lines: the message that the lines before
-- a line ask for is the copy that its event made.
use Rattle.std.proofs.Common.{◌≡◌, ◌∙◌, ℕ, Bool, true, ◌∷◌, length, Option, Some, Ok, Err, Result, IsOk}
use Rattle.std.proofs.Common.{refl, sym, ap, subst, option_map, option_and_then, if◌then◌else◌}
use Rattle.std.specs.Prelude.{◌||◌, ok_or, unwrap_or}
use Rattle.std.specs.Result.{result_ok}
use Rattle.std.proofs.lemmas.Bool.{eq-eqb}
use Rattle.ptp_units.specs.Sequence.{of_count}
use Rattle.event_codec.specs.Packet.{Contents}
use Rattle.master_port.specs.declared.refusal.MasterRefusal.{MasterRefusal}
use Rattle.master_port.specs.Written.{follow_up, delay_resp, answer}
use Rattle.slave_port.proofs.Options.{some_step}
use Rattle.transparent_clock.specs.declared.refusal.ClockRefusal.{ClockRefusal}
use Rattle.transparent_clock.specs.Forwarding.{forwarded}
use Rattle.network_model.specs.declared.event.Event.{Event}
use Rattle.network_model.specs.declared.event.Event.TheVariants.{Follow, Leave, Arrive}
use Rattle.network_model.specs.declared.node.NodeKind.{NodeKind}
use Rattle.network_model.specs.declared.node.NodeKind.TheVariants as kinds
use Rattle.network_model.specs.declared.refusal.WorldRefusal.TheVariants.{NoCopy, NothingWaiting, ReadingOutOfRange}
use Rattle.network_model.specs.declared.stepped.Outcome.{Outcome}
use Rattle.network_model.specs.declared.stepped.Outcome.TheVariants as outcomes
use Rattle.network_model.specs.Network.{Network, NodeName, PortSetup, master_port}
use Rattle.network_model.specs.Run.{Run, Place, place}
use Rattle.network_model.specs.Kinds.{is_sync, is_one_step_sync, draws_sync}
use Rattle.network_model.specs.Clock as clocks
use Rattle.network_model.specs.Numbering.{number_of, waiting_sync}
use Rattle.network_model.specs.Journey as made
use Rattle.network_model.specs.Truth as truth
use Rattle.network_model.specs.Truth.{drawn, copy_made, copy_of, master_at, slave_at}
use Rattle.network_model.specs.Outcome.{◌>>=◌, node_as, port_of, reads, answered_outcome}
use Rattle.network_model.specs.Outcome.{left_outcome, arrived_outcome, outcome_of, IsRun}
use Rattle.network_model.proofs.Options.{ok_step, ok_some}
use Rattle.network_model.proofs.Sites.{at_kind}
use Rattle.network_model.proofs.Journeys.{IsIn-last}
use Rattle.network_model.proofs.Readings.{sync_timed}
use Rattle.network_model.proofs.MessagesAfter.{copy_of-message_after}
use Rattle.network_model.proofs.Copies.{answered as answers_request}
use Rattle.network_model.proofs.Leaving.{copy_made-forwarded, copy_of-since}
use Rattle.network_model.proofs.Left.{left_parts}
use Rattle.trace_model.specs.Record.{LinePlace, last_line, reading}
use Rattle.trace_model.specs.Journey as lined
use Rattle.trace_model.specs.Octets.{sent_after, follow_up_sent, answered, message_made, writes_right}
use Rattle.trace_model.specs.Faithful.{TellsPlace}
use Rattle.trace_model.proofs.Good.{node_is, port_is, the_value}
use Rattle.trace_model.proofs.Found.{same_event}
use Rattle.trace_model.proofs.Recorded.{sequence_told}
use Rattle.trace_model.proofs.Last.{last_at-waiting, last_at-is, last_told}
use Rattle.trace_model.proofs.Certain.{sync_certain}
use Rattle.trace_model.proofs.MessagesAfter.{accepted_told, made_told, each_journey_is_told}
use Rattle.trace_model.proofs.Stays.{reading_told}
use Rattle.trace_model.proofs.Written.{written, message_after_told}

-- a message that left a clock

forwarded_of : (sent : Result Contents ClockRefusal) → left_outcome sent ≡ outcomes.Made
    → (m : Contents) × (result_ok sent ≡ Some m)
forwarded_of (Ok m) is = (m, refl)
forwarded_of (Err refusal) is = cc

pub left_written : (network : Network) (node : NodeName) (transit at : ℕ) (earlier : Run) (e : LinePlace)
    → TellsPlace network (place (Leave node transit at) earlier) e
    → outcome_of network earlier (Leave node transit at) ≡ Ok outcomes.Made → writes_right network e ≡ true
left_written network node transit at earlier e tells is =
    let left = left_parts network earlier node transit at outcomes.Made is in
    let forward : Result Contents ClockRefusal =
    forwarded (Ok left.m) (clocks.reading left.entered) (clocks.reading (place (Leave node transit at) earlier)) in
    let m = forwarded_of forward (sym left.is) in
    let message : copy_of network earlier left.copy ≡ Some left.m =
    copy_of-since network earlier transit left.entered left.copy left.m left.there left.message in
    let copy : copy_made network (Leave node transit at) earlier (copy_of network earlier) ≡ Some m.0 =
    copy_made-forwarded network earlier node left.copy transit at left.entered left.m message left.there left.takes
    ∙ m.1 in
    let journey = some_step (truth.message_after network)
    (made.journey_made (Leave node transit at) earlier (made.journey_of earlier)) copy in
    let lines = made_told network earlier e.line e.earlier tells.before
    (λ tag j known. each_journey_is_told network earlier e.earlier tag j tells.before known)
    (Leave node transit at) journey.0 tells.told journey.1 in
    let run : Run = Leave node transit at ∷ earlier in
    let accepted : IsRun network run =
    (subst IsOk (sym is) refl, accepted_told network earlier e.earlier tells.before) in
    let there : made.journey_of run (length earlier) ≡ Some journey.0 =
    ap (λ (b : Bool). if b then made.journey_made (Leave node transit at) earlier (made.journey_of earlier)
    else made.journey_of earlier (length earlier)) (eq-eqb (length earlier) (length earlier) refl) ∙ journey.1 in
    let by_lines : lined.line_journey_made network (Leave node transit at) e (lined.line_journey_of network e.earlier)
    ≡ Some lines.by_lines =
    ap (λ (v : Event). lined.line_journey_made network v e (lined.line_journey_of network e.earlier))
    (sym (same_event network (place (Leave node transit at) earlier) e tells)) ∙ lines.there in
    written network (place (Leave node transit at) earlier) e m.0 tells is copy
    (ap (λ (v : Event). message_made network v e) (same_event network (place (Leave node transit at) earlier) e tells)
    ∙ ap (option_and_then (sent_after network)) by_lines
    ∙ message_after_told network run (length earlier) journey.0 lines.by_lines accepted there lines.tells ∙ journey.2)

-- a Follow_Up

follow_parts : (network : Network) (node : NodeName) (earlier : Run) (outcome : Outcome)
    → outcome_of network earlier (Follow node) ≡ Ok outcome
    → (outcome ≡ outcomes.Made) × (port : PortSetup) × (master_at network node ≡ Some port)
follow_parts network node earlier outcome is =
    let port = ok_step (node_as master_port network node)
    (λ port. ok_or (waiting_sync node earlier) NothingWaiting >>= (λ waiting. Ok outcomes.Made)) is in
    let waiting = ok_step (ok_or (waiting_sync node earlier) NothingWaiting) (λ waiting. Ok outcomes.Made) port.2 in
    (sym (the_value outcomes.Made outcome waiting.2), port.0, node_is master_port network node {x = port.0} port.1)

follow_written_at : (network : Network) (node : NodeName) (earlier : Run) (e : LinePlace) (origin : Place)
    → TellsPlace network (place (Follow node) earlier) e
    → waiting_sync node earlier ≡ Some origin → writes_right network e ≡ true
follow_written_at network node earlier e origin tells waits =
    let parts = follow_parts network node earlier tells.told.stepped.outcome tells.told.answered.outcome in
    let last = last_at-waiting node earlier origin waits in
    let found = last_told network is_sync sync_certain node earlier e.earlier origin tells.before last in
    let there = last_at-is is_sync node earlier origin last in
    let accepted = accepted_told network earlier e.earlier tells.before in
    let timed = sync_timed origin.event (draws_from (at_kind is_sync node origin.event there.1)) in
    let read = reading_told network earlier origin found.e accepted there.0 found.tells timed in
    let port : PortSetup = parts.1 in
    let copy : copy_made network (Follow node) earlier (copy_of network earlier) ≡ Some (truth.followed port origin) =
    ap (option_and_then (λ (p : PortSetup). option_map (truth.followed p) (waiting_sync node earlier))) parts.2
    ∙ ap (option_map (truth.followed port)) waits in
    let message : message_made network (Follow node) e ≡ Some (truth.followed port origin) =
    ap (option_and_then (λ (p : PortSetup). option_map (follow_up_sent network p)
    (last_line network is_sync node e.earlier))) parts.2
    ∙ ap (option_map (follow_up_sent network port)) found.there
    ∙ ap (λ (n : ℕ). Some (follow_up port.config n (reading found.e)))
    (sequence_told network origin found.e found.tells port)
    ∙ ap (λ (t : ℕ). Some (follow_up port.config (of_count (number_of port origin)) t)) read.0 in
    written network (place (Follow node) earlier) e (truth.followed port origin) tells
    (tells.told.answered.outcome ∙ ap Ok parts.0) copy
    (ap (λ (v : Event). message_made network v e) (same_event network (place (Follow node) earlier) e tells) ∙ message)
  where
    draws_from : is_sync origin.event ≡ true → draws_sync origin.event ≡ true
    draws_from is = ap (λ (b : Bool). b || is_one_step_sync origin.event) is

pub follow_written : (network : Network) (node : NodeName) (p : Place) (e : LinePlace) (origin : Place)
    → p.event ≡ Follow node → TellsPlace network p e
    → waiting_sync node p.earlier ≡ Some origin → writes_right network e ≡ true
follow_written network node p e origin event tells waits =
    follow_written_at network node p.earlier e origin
    (subst (λ (v : Event). TellsPlace network (place v p.earlier) e) event tells) waits

-- a Delay_Resp

-- what came of an arrival at a master that made a message
pub record IsAnswer (network : Network) (node : NodeName) (copy at : ℕ) (earlier : Run) (outcome : Outcome)
    (response : Contents) : Type 0 where
  pub port : PortSetup
  pub master : master_at network node ≡ Some port
  pub m : Contents
  pub message : copy_of network earlier copy ≡ Some m
  pub is_made : outcome ≡ outcomes.Made
  pub is : response ≡ delay_resp port.config m.header (clocks.reading (place (Arrive node copy at) earlier))

master_of : (kind : NodeKind) (port : PortSetup) → master_port kind ≡ Some port
    → (network : Network) (node : NodeName) (earlier : Run) (now : ℕ) (m : Contents)
    → arrived_outcome network kind node earlier now m ≡ answered_outcome (answer port.config (Ok m) now)
master_of (kinds.Master config first) port is network node earlier now m =
    ap (λ (p : PortSetup). answered_outcome (answer p.config (Ok m) now)) (same_port is)
  where
    same_port : {one other : PortSetup} → Some one ≡ Some other → one ≡ other
    same_port is = cc
master_of (kinds.Slave config first) port is network node earlier now m = cc
master_of kinds.Clock port is network node earlier now m = cc

made_answer : (sent : Result Contents MasterRefusal) (m : Contents) → result_ok sent ≡ Some m
    → answered_outcome sent ≡ outcomes.Made
made_answer (Ok m) other is = refl
made_answer (Err refusal) other is = cc

pub arrival_parts : (network : Network) (node : NodeName) (copy at : ℕ) (earlier : Run) (outcome : Outcome)
    (response : Contents) → outcome_of network earlier (Arrive node copy at) ≡ Ok outcome
    → copy_made network (Arrive node copy at) earlier (copy_of network earlier) ≡ Some response
    → IsAnswer network node copy at earlier outcome response
arrival_parts network node copy at earlier outcome response is made =
    let kind = ok_step (node_as port_of network node)
    (λ kind. ok_or (copy_of network earlier copy)
    NoCopy >>= (λ m. reads (Arrive node copy at)
    earlier >>= (λ now. Ok (arrived_outcome network kind node earlier now m)))) is in
    let message = ok_step (ok_or (copy_of network earlier copy) NoCopy)
    (λ m. reads (Arrive node copy at) earlier >>= (λ now. Ok (arrived_outcome network kind.0 node earlier now m)))
    kind.2 in
    let now = ok_step (reads (Arrive node copy at) earlier)
    (λ now. Ok (arrived_outcome network kind.0 node earlier now message.0)) message.2 in
    let read : clocks.reading_of (place (Arrive node copy at) earlier) ≡ Some now.0 =
    ok_some (clocks.reading_of (place (Arrive node copy at) earlier)) ReadingOutOfRange {x = now.0} now.1 in
    let read_is : clocks.reading (place (Arrive node copy at) earlier) ≡ now.0 =
    ap (λ (r : Option ℕ). unwrap_or r 0) read in
    let m_is : copy_of network earlier copy ≡ Some message.0 =
    ok_some (copy_of network earlier copy) NoCopy {x = message.0} message.1 in
    let port = some_step (λ (port : PortSetup). option_and_then
    (truth.responded port (clocks.reading (place (Arrive node copy at) earlier))) (copy_of network earlier copy))
    (master_at network node) made in
    let respond : result_ok (answer port.0.config (Ok message.0)
    (clocks.reading (place (Arrive node copy at) earlier))) ≡ Some response =
    sym (ap (option_and_then (truth.responded port.0 (clocks.reading (place (Arrive node copy at) earlier)))) m_is)
    ∙ port.2 in
    let own : master_port kind.0 ≡ Some port.0 =
    sym (ap (option_and_then master_port) (port_is network node kind.0 kind.1)) ∙ port.1 in
    record {
      port = port.0;
      master = port.1;
      m = message.0;
      message = m_is;
      is_made = sym (the_value (arrived_outcome network kind.0 node earlier now.0 message.0) outcome now.2)
          ∙ master_of kind.0 port.0 own network node earlier now.0 message.0
          ∙ ap (λ (t : ℕ). answered_outcome (answer port.0.config (Ok message.0) t)) (sym read_is)
          ∙ made_answer (answer port.0.config (Ok message.0) (clocks.reading (place (Arrive node copy at) earlier)))
          response respond;
      is = (answers_request port.0.config message.0.body message.0.header
          (clocks.reading (place (Arrive node copy at) earlier)) response respond).1;
    }

arrival_written_at : (network : Network) (node : NodeName) (copy at : ℕ) (earlier : Run) (e : LinePlace)
    (response : Contents) (journey : made.Journey)
    → TellsPlace network (place (Arrive node copy at) earlier) e
    → copy_made network (Arrive node copy at) earlier (copy_of network earlier) ≡ Some response
    → made.journey_of earlier copy ≡ Some journey → writes_right network e ≡ true
arrival_written_at network node copy at earlier e response journey tells made is =
    let parts = arrival_parts network node copy at earlier tells.told.stepped.outcome response
    tells.told.answered.outcome made in
    let lines = each_journey_is_told network earlier e.earlier copy journey tells.before is in
    let accepted = accepted_told network earlier e.earlier tells.before in
    let here : IsRun network (Arrive node copy at ∷ earlier) =
    (subst IsOk (sym tells.told.answered.outcome) refl, accepted) in
    let read = reading_told network (Arrive node copy at ∷ earlier) (place (Arrive node copy at) earlier) e here
    (IsIn-last (Arrive node copy at) earlier) tells refl in
    let message : sent_after network lines.by_lines ≡ Some parts.m =
    message_after_told network earlier copy journey lines.by_lines accepted is lines.tells
    ∙ sym (copy_of-message_after network earlier copy journey is) ∙ parts.message in
    written network (place (Arrive node copy at) earlier) e response tells
    (tells.told.answered.outcome ∙ ap Ok parts.is_made) made
    (ap (λ (v : Event). message_made network v e) (same_event network (place (Arrive node copy at) earlier) e tells)
    ∙ ap (option_and_then (λ (port : PortSetup). option_and_then (answered network port e)
    (lined.line_journey_of network e.earlier copy))) parts.master
    ∙ ap (option_and_then (answered network parts.port e)) lines.there
    ∙ ap (option_map (λ (request : Contents). delay_resp parts.port.config request.header (reading e))) message
    ∙ ap (λ (t : ℕ). Some (delay_resp parts.port.config parts.m.header t)) read.0
    ∙ ap Some (sym parts.is))

pub arrival_written : (network : Network) (node : NodeName) (copy at : ℕ) (p : Place) (e : LinePlace)
    (response : Contents) (journey : made.Journey) → p.event ≡ Arrive node copy at
    → TellsPlace network p e → copy_made network p.event p.earlier (copy_of network p.earlier) ≡ Some response
    → made.journey_of p.earlier copy ≡ Some journey → writes_right network e ≡ true
arrival_written network node copy at p e response journey event tells made is =
    arrival_written_at network node copy at p.earlier e response journey
    (subst (λ (v : Event). TellsPlace network (place v p.earlier) e) event tells)
    (subst (λ (v : Event). copy_made network v p.earlier (copy_of network p.earlier) ≡ Some response) event made) is
