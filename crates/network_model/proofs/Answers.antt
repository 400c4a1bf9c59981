-- An event that a slave answers is a message that its port was told, and the answer is its port's.
-- A report of a run is read back to the slave's history by it.
use Rattle.std.proofs.Common.{◌≡◌, ◌∙◌, ℕ, Bool, true, false, length, Option, Some, Ok, Err, sym, ap, if◌then◌else◌, option_map, option_and_then}
use Rattle.std.specs.Prelude.{Result, ok_or, unwrap_or, nat_lt, unsigned_abs}
use Rattle.ptp_units.specs.Moment.{bound}
use Rattle.event_codec.specs.Packet.{Contents}
use Rattle.master_port.specs.declared.refusal.MasterRefusal.{MasterRefusal}
use Rattle.master_port.specs.Written.{answer}
use Rattle.transparent_clock.specs.declared.refusal.ClockRefusal.{ClockRefusal}
use Rattle.transparent_clock.specs.Forwarding.{forwarded}
use Rattle.slave_port.specs.declared.heard.Heard.{Heard}
use Rattle.slave_port.specs.declared.reason.SlaveRefusal.TheVariants.{NotHeld}
use Rattle.slave_port.specs.Refusal.{code_of as refusal_code}
use Rattle.slave_port.specs.History as calls
use Rattle.slave_port.specs.History.{Call}
use Rattle.slave_port.specs.Requests.{is_held}
use Rattle.slave_port.specs.Answer as slaves
use Rattle.network_model.specs.declared.event.Event.{Event}
use Rattle.network_model.specs.declared.event.Event.TheVariants.{Sync, SyncOne, Follow, Enter, Leave, Arrive, Hear, Request, Stamped, Tick, SetMaster, StepClock}
use Rattle.network_model.specs.declared.node.NodeKind.{NodeKind}
use Rattle.network_model.specs.declared.node.NodeKind.TheVariants as kinds
use Rattle.network_model.specs.declared.stepped.Outcome.{Outcome}
use Rattle.network_model.specs.declared.stepped.Outcome.TheVariants as outcomes
use Rattle.network_model.specs.declared.refusal.WorldRefusal.{WorldRefusal}
use Rattle.network_model.specs.declared.refusal.WorldRefusal.TheVariants.{NoNode, WrongKind, NoCopy, NoTransit, ReadingOutOfRange, NothingWaiting}
use Rattle.network_model.specs.Network.{Network, NodeName, PortSetup, kind_of, master_port, slave_port}
use Rattle.network_model.specs.Run.{Run, place, place_at, site_of}
use Rattle.network_model.specs.Clock.{reading, reading_of}
use Rattle.network_model.specs.Numbering.{waiting_sync, waiting_request}
use Rattle.network_model.specs.Truth.{slave_at, copy_of}
use Rattle.network_model.specs.SlaveHistory.{slave_setup, request_sequence, call_made, history_of}
use Rattle.network_model.specs.Outcome.{◌>>=◌, node_as, clock_of, port_of, reads, open_transit, copy_in, left_outcome, answered_outcome, arrived_outcome, heard, stamped_outcome, outcome_of}
use Rattle.network_model.proofs.Options.{ok_step, ok_some}

-- a slave was told this call, and answered so
pub record IsAnswered (network : Network) (earlier : Run) (event : Event) (answered : Heard) : Type 0 where
  pub port : PortSetup
  pub call : Call
  pub slave : slave_at network (site_of event) ≡ Some port
  pub made : call_made network port event earlier ≡ Some call
  pub is : answered ≡ slaves.answer (slave_setup port) (history_of network port (site_of event) earlier) call

-- what a node is, from what it was asked to be
kind_known : {X : Type 0} (wanted : NodeKind → Option X) (network : Network) (node : NodeName) {x : X} → node_as wanted network node ≡ Ok x
    → (kind : NodeKind) × (kind_of network node ≡ Some kind) × (wanted kind ≡ Some x)
kind_known wanted network node {x = x} is =
    let known = ok_step (ok_or (kind_of network node) NoNode) (λ kind. ok_or (wanted kind) WrongKind) is in
    (known.0, ok_some (kind_of network node) NoNode {x = known.0} known.1, ok_some (wanted known.0) WrongKind {x = x} known.2)

-- what masters and clocks answer is no answer of a slave
master_silent : (r : Result Contents MasterRefusal) (answered : Heard) → answered_outcome r ≡ outcomes.Heard answered → ⊥
master_silent (Ok m) answered is = cc
master_silent (Err refusal) answered is = cc

clock_silent : (r : Result Contents ClockRefusal) (answered : Heard) → left_outcome r ≡ outcomes.Heard answered → ⊥
clock_silent (Ok m) answered is = cc
clock_silent (Err refusal) answered is = cc

stamp_silent : (held : Bool) (code : ℕ) (answered : Heard) → (if held then outcomes.Done else outcomes.Refused code) ≡ outcomes.Heard answered → ⊥
stamp_silent true code answered is = cc
stamp_silent false code answered is = cc

step_silent : (small : Bool) (answered : Heard)
    → ◌≡◌ {A = Result Outcome WorldRefusal} (if small then Ok outcomes.Done else Err ReadingOutOfRange) (Ok (outcomes.Heard answered)) → ⊥
step_silent true answered is = cc
step_silent false answered is = cc

module _ (network : Network) (earlier : Run) (answered : Heard) where
  at_kind : (node : NodeName) (copy at : ℕ) (m : Contents) (now : ℕ) (kind own : NodeKind) → kind_of network node ≡ Some kind → port_of kind ≡ Some own
      → copy_of network earlier copy ≡ Some m → now ≡ reading (place (Arrive node copy at) earlier)
      → arrived_outcome network own node earlier now m ≡ outcomes.Heard answered → IsAnswered network earlier (Arrive node copy at) answered
  at_kind node copy at m now (kinds.Slave config first) own known port copy_is now_is is =
      let same : kinds.Slave config first ≡ own = cc in
      let setup : PortSetup = record { config = config; first = first.0 } in
      let whole : outcomes.Heard (slaves.answer (slave_setup setup) (history_of network setup node earlier) (calls.Event (Ok m) now (length earlier))) ≡ outcomes.Heard answered =
      ap (λ (k : NodeKind). arrived_outcome network k node earlier now m) same ∙ is in
      let one : slaves.answer (slave_setup setup) (history_of network setup node earlier) (calls.Event (Ok m) now (length earlier)) ≡ answered = cc in
      record {
        port = setup;
        call = calls.Event (Ok m) (reading (place (Arrive node copy at) earlier)) (length earlier);
        slave = ap (option_and_then slave_port) known;
        made = ap (option_map (λ (m : Contents). calls.Event (Ok m) (reading (place (Arrive node copy at) earlier)) (length earlier))) copy_is;
        is = sym one ∙ ap (λ (t2 : ℕ). slaves.answer (slave_setup setup) (history_of network setup node earlier) (calls.Event (Ok m) t2 (length earlier))) now_is;
      }
  at_kind node copy at m now (kinds.Master config first) own known port copy_is now_is is =
      let same : kinds.Master config first ≡ own = cc in
      absurd (master_silent (answer config (Ok m) now) answered (ap (λ (k : NodeKind). arrived_outcome network k node earlier now m) same ∙ is))
  at_kind node copy at m now kinds.Clock own known port copy_is now_is is = cc

  -- each event with an answer of a slave
  pub answered_by : (event : Event) → outcome_of network earlier event ≡ Ok (outcomes.Heard answered) → IsAnswered network earlier event answered
  answered_by (Arrive node copy at) is =
      let kind = ok_step (node_as port_of network node)
      (λ kind. ok_or (copy_of network earlier copy) NoCopy >>= (λ m. reads (Arrive node copy at) earlier >>= (λ now. Ok (arrived_outcome network kind node earlier now m)))) is in
      let message = ok_step (ok_or (copy_of network earlier copy) NoCopy)
      (λ m. reads (Arrive node copy at) earlier >>= (λ now. Ok (arrived_outcome network kind.0 node earlier now m))) kind.2 in
      let now = ok_step (reads (Arrive node copy at) earlier) (λ now. Ok (arrived_outcome network kind.0 node earlier now message.0)) message.2 in
      let known = kind_known port_of network node {x = kind.0} kind.1 in
      let outcome : arrived_outcome network kind.0 node earlier now.0 message.0 ≡ outcomes.Heard answered = let same = now.2 in cc in
      let now_is : reading_of (place (Arrive node copy at) earlier) ≡ Some now.0 = ok_some (reading_of (place (Arrive node copy at) earlier)) ReadingOutOfRange {x = now.0} now.1 in
      at_kind node copy at message.0 now.0 known.0 kind.0 known.1 known.2 (ok_some (copy_of network earlier copy) NoCopy {x = message.0} message.1)
      (sym (ap (λ (r : Option ℕ). unwrap_or r 0) now_is)) outcome
  answered_by (Hear node copy) is =
      let own = ok_step (node_as slave_port network node)
      (λ port. ok_or (copy_of network earlier copy) NoCopy >>= (λ m. Ok (heard network port node earlier (calls.General (Ok m) (length earlier))))) is in
      let message = ok_step (ok_or (copy_of network earlier copy) NoCopy) (λ m. Ok (heard network own.0 node earlier (calls.General (Ok m) (length earlier)))) own.2 in
      let known = kind_known slave_port network node {x = own.0} own.1 in
      let outcome : slaves.answer (slave_setup own.0) (history_of network own.0 node earlier) (calls.General (Ok message.0) (length earlier)) ≡ answered = let same = message.2 in cc in
      record {
        port = own.0;
        call = calls.General (Ok message.0) (length earlier);
        slave = ap (option_and_then slave_port) known.1 ∙ known.2;
        made = ap (option_map (λ (m : Contents). calls.General (Ok m) (length earlier))) (ok_some (copy_of network earlier copy) NoCopy {x = message.0} message.1);
        is = sym outcome;
      }
  answered_by (Sync node at) is =
      let port = ok_step (node_as master_port network node) (λ port. reads (Sync node at) earlier >>= (λ now. Ok outcomes.Made)) is in
      let now = ok_step (reads (Sync node at) earlier) (λ now. Ok outcomes.Made) port.2 in let same = now.2 in cc
  answered_by (SyncOne node at) is =
      let port = ok_step (node_as master_port network node) (λ port. reads (SyncOne node at) earlier >>= (λ now. Ok outcomes.Made)) is in
      let now = ok_step (reads (SyncOne node at) earlier) (λ now. Ok outcomes.Made) port.2 in let same = now.2 in cc
  answered_by (Follow node) is =
      let port = ok_step (node_as master_port network node) (λ port. ok_or (waiting_sync node earlier) NothingWaiting >>= (λ waiting. Ok outcomes.Made)) is in
      let waits = ok_step (ok_or (waiting_sync node earlier) NothingWaiting) (λ waiting. Ok outcomes.Made) port.2 in let same = waits.2 in cc
  answered_by (Enter node copy at) is =
      let clock = ok_step (node_as clock_of network node)
      (λ clock. ok_or (copy_of network earlier copy) NoCopy >>= (λ m. reads (Enter node copy at) earlier >>= (λ now. Ok outcomes.Entered))) is in
      let message = ok_step (ok_or (copy_of network earlier copy) NoCopy) (λ m. reads (Enter node copy at) earlier >>= (λ now. Ok outcomes.Entered)) clock.2 in
      let now = ok_step (reads (Enter node copy at) earlier) (λ now. Ok outcomes.Entered) message.2 in let same = now.2 in cc
  answered_by (Leave node transit at) is =
      let clock = ok_step (node_as clock_of network node)
      (λ clock. ok_or (option_and_then (open_transit node earlier transit) (place_at earlier transit)) NoTransit >>= (λ entered. ok_or (copy_in network entered) NoTransit
      >>= (λ m. reads (Leave node transit at) earlier >>= (λ now. Ok (left_outcome (forwarded (Ok m) (reading entered) now)))))) is in
      let entered = ok_step (ok_or (option_and_then (open_transit node earlier transit) (place_at earlier transit)) NoTransit)
      (λ entered. ok_or (copy_in network entered) NoTransit
      >>= (λ m. reads (Leave node transit at) earlier >>= (λ now. Ok (left_outcome (forwarded (Ok m) (reading entered) now))))) clock.2 in
      let message = ok_step (ok_or (copy_in network entered.0) NoTransit)
      (λ m. reads (Leave node transit at) earlier >>= (λ now. Ok (left_outcome (forwarded (Ok m) (reading entered.0) now)))) entered.2 in
      let now = ok_step (reads (Leave node transit at) earlier) (λ now. Ok (left_outcome (forwarded (Ok message.0) (reading entered.0) now))) message.2 in
      let outcome : left_outcome (forwarded (Ok message.0) (reading entered.0) now.0) ≡ outcomes.Heard answered = let same = now.2 in cc in
      absurd (clock_silent (forwarded (Ok message.0) (reading entered.0) now.0) answered outcome)
  answered_by (Request node at) is =
      let port = ok_step (node_as slave_port network node) (λ port. reads (Request node at) earlier >>= (λ now. Ok outcomes.Made)) is in
      let now = ok_step (reads (Request node at) earlier) (λ now. Ok outcomes.Made) port.2 in let same = now.2 in cc
  answered_by (Stamped node) is =
      let port = ok_step (node_as slave_port network node)
      (λ port. ok_or (waiting_request node earlier) NothingWaiting >>= (λ request. Ok (stamped_outcome network port node earlier request))) is in
      let waits = ok_step (ok_or (waiting_request node earlier) NothingWaiting) (λ request. Ok (stamped_outcome network port.0 node earlier request)) port.2 in
      let outcome : stamped_outcome network port.0 node earlier waits.0 ≡ outcomes.Heard answered = let same = waits.2 in cc in
      absurd (stamp_silent (is_held (slave_setup port.0) (history_of network port.0 node earlier) (request_sequence port.0 waits.0)) (refusal_code NotHeld) answered outcome)
  answered_by (Tick node) is = let port = ok_step (node_as slave_port network node) (λ port. Ok outcomes.Done) is in let same = port.2 in cc
  answered_by (SetMaster node master) is =
      let kind = ok_step (ok_or (kind_of network node) NoNode)
      (λ kind. ok_or (kind_of network master) NoNode >>= (λ other. ok_or (slave_port kind) WrongKind >>= (λ port. ok_or (master_port other) WrongKind >>= (λ present. Ok outcomes.Done)))) is in
      let other = ok_step (ok_or (kind_of network master) NoNode)
      (λ other. ok_or (slave_port kind.0) WrongKind >>= (λ port. ok_or (master_port other) WrongKind >>= (λ present. Ok outcomes.Done))) kind.2 in
      let port = ok_step (ok_or (slave_port kind.0) WrongKind) (λ port. ok_or (master_port other.0) WrongKind >>= (λ present. Ok outcomes.Done)) other.2 in
      let present = ok_step (ok_or (master_port other.0) WrongKind) (λ present. Ok outcomes.Done) port.2 in let same = present.2 in cc
  answered_by (StepClock node diff) is =
      let kind = ok_step (ok_or (kind_of network node) NoNode) (λ kind. if nat_lt (unsigned_abs diff) bound then Ok outcomes.Done else Err ReadingOutOfRange) is in
      absurd (step_silent (nat_lt (unsigned_abs diff) bound) answered kind.2)
