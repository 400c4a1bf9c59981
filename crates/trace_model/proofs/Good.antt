-- Each line that tells an event of a run is good, and it counts where the event took effect.
use Rattle.std.proofs.Common.{◌≡◌, ◌∙◌, ℕ, Bool, true, false, ◌∷◌, length, Option, Some, None, Ok, Err}
use Rattle.std.proofs.Common.{Result, refl, sym, ap, subst, inl, inr, option_and_then, if◌then◌else◌}
use Rattle.std.specs.Prelude.{◌&&◌, ◌||◌, not, is_some, ok_or, unsigned_abs, nat_lt, ◌⊎◌}
use Rattle.std.proofs.lemmas.Bool.{and_from, or_left, or_right}
use Rattle.ptp_units.specs.Moment.{bound}
use Rattle.event_codec.specs.Packet.{Contents}
use Rattle.master_port.specs.declared.refusal.MasterRefusal.{MasterRefusal}
use Rattle.transparent_clock.specs.declared.refusal.ClockRefusal.{ClockRefusal}
use Rattle.transparent_clock.specs.Forwarding.{forwarded}
use Rattle.slave_port.specs.declared.heard.Heard.{Heard}
use Rattle.slave_port.specs.declared.heard.Heard.TheVariants as answers
use Rattle.slave_port.specs.declared.reason.SlaveRefusal.TheVariants.{NotHeld}
use Rattle.slave_port.specs.Refusal.{code_of as slave_code}
use Rattle.slave_port.specs.History as calls
use Rattle.slave_port.specs.Answer as slaves
use Rattle.slave_port.specs.Requests.{is_held}
use Rattle.master_port.specs.Written.{answer}
use Rattle.network_model.specs.declared.event.Event.{Event}
use Rattle.network_model.specs.declared.event.Event.TheVariants.{Sync, SyncOne, Follow, Enter, Leave, Arrive, Hear}
use Rattle.network_model.specs.declared.event.Event.TheVariants.{Request, Stamped, Tick, SetMaster, StepClock}
use Rattle.network_model.specs.declared.node.NodeKind.{NodeKind}
use Rattle.network_model.specs.declared.node.NodeKind.TheVariants as kinds
use Rattle.network_model.specs.declared.refusal.WorldRefusal.{WorldRefusal}
use Rattle.network_model.specs.declared.refusal.WorldRefusal.TheVariants.{NoNode, WrongKind, NoCopy, NoTransit}
use Rattle.network_model.specs.declared.refusal.WorldRefusal.TheVariants.{ReadingOutOfRange, NothingWaiting}
use Rattle.network_model.specs.declared.stepped.Outcome.{Outcome}
use Rattle.network_model.specs.declared.stepped.Outcome.TheVariants as outcomes
use Rattle.network_model.specs.Network.{Network, NodeName, PortSetup, kind_of, master_port, slave_port}
use Rattle.network_model.specs.Run.{Run, place_at}
use Rattle.network_model.specs.Clock.{reading}
use Rattle.network_model.specs.Numbering.{waiting_sync, waiting_request}
use Rattle.network_model.specs.Truth.{copy_of}
use Rattle.network_model.specs.SlaveHistory.{slave_setup, history_of, request_sequence}
use Rattle.network_model.specs.Outcome.{◌>>=◌, node_as, clock_of, port_of, reads, open_transit, copy_in, left_outcome}
use Rattle.network_model.specs.Outcome.{answered_outcome, heard, arrived_outcome, stamped_outcome, outcome_of}
use Rattle.network_model.specs.Premises.{is_of_use}
use Rattle.network_model.proofs.Options.{ok_step, ok_some}
use Rattle.trace_model.specs.declared.line.TraceOut.{TraceOut}
use Rattle.trace_model.specs.declared.line.TraceOut.TheVariants as outs
use Rattle.trace_model.specs.Line.{is_done, is_made, is_entered, is_heard, is_refused, is_ignored, is_master}
use Rattle.trace_model.specs.Line.{is_slave, is_clock, is_kind, clock_kind, may_arrive, is_good}
use Rattle.trace_model.specs.Told.{TellsMade, TellsOutcome, heard_out}
use Rattle.trace_model.specs.Faithful.{is_effective, took_effect, EachLineIsGood}

-- what a node is that was asked to be something
pub node_is : {X : Type 0} (wanted : NodeKind → Option X) (network : Network) (node : NodeName) {x : X}
    → node_as wanted network node ≡ Ok x
    → option_and_then wanted (kind_of network node) ≡ Some x
node_is wanted network node {x = x} is = by (kind_of network node) is
  where
    by : (kind : Option NodeKind) → (ok_or kind NoNode >>= (λ k. ok_or (wanted k) WrongKind)) ≡ Ok x
        → option_and_then wanted kind ≡ Some x
    by None is = cc
    by (Some k) is = ok_some (wanted k) WrongKind {x = x} is

master_is : (network : Network) (node : NodeName) {port : PortSetup} → node_as master_port network node ≡ Ok port
    → is_master network node ≡ true
master_is network node is = ap is_some (node_is master_port network node is)

slave_is : (network : Network) (node : NodeName) {port : PortSetup} → node_as slave_port network node ≡ Ok port
    → is_slave network node ≡ true
slave_is network node is = ap is_some (node_is slave_port network node is)

clock_is : (network : Network) (node : NodeName) {clock : Unit {0}} → node_as clock_of network node ≡ Ok clock
    → is_clock network node ≡ true
clock_is network node {clock = clock} is = by (kind_of network node) (node_is clock_of network node {x = clock} is)
  where
    by : (kind : Option NodeKind) → option_and_then clock_of kind ≡ Some clock → is_kind clock_kind kind ≡ true
    by None is = cc
    by (Some (kinds.Master config first)) is = cc
    by (Some (kinds.Slave config first)) is = cc
    by (Some kinds.Clock) is = refl

-- a master or a slave, at which a message arrives
pub port_is : (network : Network) (node : NodeName) (own : NodeKind) → node_as port_of network node ≡ Ok own
    → kind_of network node ≡ Some own
port_is network node own is = by (kind_of network node) (node_is port_of network node {x = own} is)
  where
    by : (kind : Option NodeKind) → option_and_then port_of kind ≡ Some own → kind ≡ Some own
    by None is = cc
    by (Some (kinds.Master config first)) is = is
    by (Some (kinds.Slave config first)) is = is
    by (Some kinds.Clock) is = cc

-- what lines have of outcomes
pub made_told : (copy : Option Contents) (out : TraceOut) → TellsMade copy out → is_made out ≡ true
made_told copy (outs.Made octets) told = refl
made_told copy _ told = absurd told

heard_told : (answer : Heard) → is_heard (heard_out answer) ≡ true
heard_told answers.Held = refl
heard_told _ = refl

pub the_value : (one other : Outcome) → ◌≡◌ {A = Result Outcome WorldRefusal} (Ok one) (Ok other) → one ≡ other
the_value one other is = cc

-- what came of an event that makes a message or is refused
abbrev IsMadeOrRefused : Outcome → Type 0
IsMadeOrRefused outcome = (outcome ≡ outcomes.Made) ⊎ ((code : ℕ) × (outcome ≡ outcomes.Refused code))

left_is : (sent : Result Contents ClockRefusal) → IsMadeOrRefused (left_outcome sent)
left_is (Ok m) = inl refl
left_is (Err refusal) = inr (_, refl)

answered_is : (sent : Result Contents MasterRefusal) → IsMadeOrRefused (answered_outcome sent)
answered_is (Ok m) = inl refl
answered_is (Err refusal) = inr (_, refl)

made_or_refused : (copy : Option Contents) (outcome : Outcome) (out : TraceOut) → IsMadeOrRefused outcome
    → TellsOutcome copy outcome out → (is_made out || is_refused out) ≡ true
made_or_refused copy outcome out (inl is) told =
    or_from_left (is_made out) (is_refused out)
    (made_told copy out (subst (λ (o : Outcome). TellsOutcome copy o out) is told))
  where
    or_from_left : (x y : Bool) → x ≡ true → (x || y) ≡ true
    or_from_left x y is = or_left x y is
made_or_refused copy outcome out (inr (code, is)) told =
    let same : out ≡ outs.Refused code = subst (λ (o : Outcome). TellsOutcome copy o out) is told in
    or_right (is_made out) (is_refused out) (ap is_refused same)

module _ (network : Network) (earlier : Run) (copy : Option Contents) (outcome : Outcome) (out : TraceOut)
    (told : TellsOutcome copy outcome out) where
  of_made : ◌≡◌ {A = Result Outcome WorldRefusal} (Ok outcomes.Made) (Ok outcome) → is_made out ≡ true
  of_made is = let same : outcomes.Made ≡ outcome =
      cc in made_told copy out (subst (λ (o : Outcome). TellsOutcome copy o out) (sym same) told)

  of_done : ◌≡◌ {A = Result Outcome WorldRefusal} (Ok outcomes.Done) (Ok outcome) → is_done out ≡ true
  of_done is = let same : outcomes.Done ≡ outcome = cc in
      let known : out ≡ outs.Done =
      subst (λ (o : Outcome). TellsOutcome copy o out) (sym same) told in ap is_done known

  of_entered : ◌≡◌ {A = Result Outcome WorldRefusal} (Ok outcomes.Entered) (Ok outcome) → is_entered out ≡ true
  of_entered is = let same : outcomes.Entered ≡ outcome = cc in
      let known : out ≡ outs.Entered =
      subst (λ (o : Outcome). TellsOutcome copy o out) (sym same) told in ap is_entered known

  of_heard : (answer : Heard) → outcomes.Heard answer ≡ outcome → is_heard out ≡ true
  of_heard answer same =
      let known : out ≡ heard_out answer =
      subst (λ (o : Outcome). TellsOutcome copy o out) (sym same) told in ap is_heard known ∙ heard_told answer

  of_arrival : (node : NodeName) (own : NodeKind) (tag now : ℕ) (m : Contents) → node_as port_of network node ≡ Ok own
      → ◌≡◌ {A = Result Outcome WorldRefusal} (Ok (arrived_outcome network own node earlier now m)) (Ok outcome)
      → may_arrive network node out ≡ true
  of_arrival node (kinds.Master config first) tag now m known is =
      let same : answered_outcome (answer config (Ok m) now) ≡ outcome = cc in
      let at : is_master network node ≡ true =
      ap (λ (k : Option NodeKind). is_some (option_and_then master_port k))
      (port_is network node (kinds.Master config first) known) in
      or_left (is_master network node && (is_made out || is_refused out)) (is_slave network node && is_heard out)
      (and_from (is_master network node) (is_made out || is_refused out) at
      (made_or_refused copy outcome out (subst IsMadeOrRefused same (answered_is (answer config (Ok m) now))) told))
  of_arrival node (kinds.Slave config first) tag now m known is =
      let port : PortSetup = record { config = config; first = first.0 } in
      let same : heard network port node earlier (calls.Event (Ok m) now (length earlier)) ≡ outcome = cc in
      let at : is_slave network node ≡ true =
      ap (λ (k : Option NodeKind). is_some (option_and_then slave_port k))
      (port_is network node (kinds.Slave config first) known) in
      or_right (is_master network node && (is_made out || is_refused out)) (is_slave network node && is_heard out)
      (and_from (is_slave network node) (is_heard out) at
      (of_heard (slaves.answer (slave_setup port) (history_of network port node earlier)
      (calls.Event (Ok m) now (length earlier))) same))
  of_arrival node kinds.Clock tag now m known is =
      clockless (kind_of network node) (node_is port_of network node {x = kinds.Clock} known)
    where
      clockless : (kind : Option NodeKind) → option_and_then port_of kind ≡ Some kinds.Clock
          → may_arrive network node out ≡ true
      clockless None is = cc
      clockless (Some (kinds.Master config first)) is = cc
      clockless (Some (kinds.Slave config first)) is = cc
      clockless (Some kinds.Clock) is = cc

  of_stamp : (held : Bool) (code : ℕ)
      → ◌≡◌ {A = Result Outcome WorldRefusal} (Ok (if held then outcomes.Done else outcomes.Refused code))
      (Ok outcome) → (is_done out || is_refused out) ≡ true
  of_stamp true code is = or_left (is_done out) (is_refused out) (of_done is)
  of_stamp false code is =
      let same : outcomes.Refused code ≡ outcome = cc in
      let known : out ≡ outs.Refused code = subst (λ (o : Outcome). TellsOutcome copy o out) (sym same) told in
      or_right (is_done out) (is_refused out) (ap is_refused known)

  of_step : (small : Bool) → (if small then Ok outcomes.Done else Err ReadingOutOfRange) ≡ Ok outcome
      → is_done out ≡ true
  of_step true is = of_done is
  of_step false is = cc

  -- a line of each kind of event is good
  good_at : (event : Event) → outcome_of network earlier event ≡ Ok outcome → is_good network event out ≡ true
  good_at (Sync node at) is =
      let port = ok_step (node_as master_port network node)
      (λ port. reads (Sync node at) earlier >>= (λ now. Ok outcomes.Made)) is in
      let now = ok_step (reads (Sync node at) earlier) (λ now. Ok outcomes.Made) port.2 in
      and_from (is_master network node) (is_made out) (master_is network node {port = port.0} port.1) (of_made now.2)
  good_at (SyncOne node at) is =
      let port = ok_step (node_as master_port network node)
      (λ port. reads (SyncOne node at) earlier >>= (λ now. Ok outcomes.Made)) is in
      let now = ok_step (reads (SyncOne node at) earlier) (λ now. Ok outcomes.Made) port.2 in
      and_from (is_master network node) (is_made out) (master_is network node {port = port.0} port.1) (of_made now.2)
  good_at (Follow node) is =
      let port = ok_step (node_as master_port network node)
      (λ port. ok_or (waiting_sync node earlier) NothingWaiting >>= (λ waiting. Ok outcomes.Made)) is in
      let waiting = ok_step (ok_or (waiting_sync node earlier) NothingWaiting) (λ waiting. Ok outcomes.Made) port.2 in
      and_from (is_master network node) (is_made out) (master_is network node {port = port.0} port.1)
      (of_made waiting.2)
  good_at (Enter node tag at) is =
      let clock = ok_step (node_as clock_of network node)
      (λ clock. ok_or (copy_of network earlier tag)
      NoCopy >>= (λ m. reads (Enter node tag at) earlier >>= (λ now. Ok outcomes.Entered))) is in
      let message = ok_step (ok_or (copy_of network earlier tag) NoCopy)
      (λ m. reads (Enter node tag at) earlier >>= (λ now. Ok outcomes.Entered)) clock.2 in
      let now = ok_step (reads (Enter node tag at) earlier) (λ now. Ok outcomes.Entered) message.2 in
      and_from (is_clock network node) (is_entered out) (clock_is network node {clock = clock.0} clock.1)
      (of_entered now.2)
  good_at (Leave node transit at) is =
      let clock = ok_step (node_as clock_of network node)
      (λ clock. ok_or (option_and_then (open_transit node earlier transit) (place_at earlier transit))
      NoTransit >>= (λ entered. ok_or (copy_in network entered) NoTransit
      >>= (λ m. reads (Leave node transit at)
      earlier >>= (λ now. Ok (left_outcome (forwarded (Ok m) (reading entered) now)))))) is in
      let entered = ok_step (ok_or
      (option_and_then (open_transit node earlier transit) (place_at earlier transit)) NoTransit)
      (λ entered. ok_or (copy_in network entered) NoTransit
      >>= (λ m. reads (Leave node transit at)
      earlier >>= (λ now. Ok (left_outcome (forwarded (Ok m) (reading entered) now))))) clock.2 in
      let message = ok_step (ok_or (copy_in network entered.0) NoTransit)
      (λ m. reads (Leave node transit at)
      earlier >>= (λ now. Ok (left_outcome (forwarded (Ok m) (reading entered.0) now)))) entered.2 in
      let now = ok_step (reads (Leave node transit at) earlier)
      (λ now. Ok (left_outcome (forwarded (Ok message.0) (reading entered.0) now))) message.2 in
      let same : left_outcome (forwarded (Ok message.0) (reading entered.0) now.0) ≡ outcome =
      the_value (left_outcome (forwarded (Ok message.0) (reading entered.0) now.0)) outcome now.2 in
      and_from (is_clock network node) (is_made out || is_refused out)
      (clock_is network node {clock = clock.0} clock.1)
      (made_or_refused copy outcome out
      (subst IsMadeOrRefused same (left_is (forwarded (Ok message.0) (reading entered.0) now.0))) told)
  good_at (Arrive node tag at) is =
      let kind = ok_step (node_as port_of network node)
      (λ kind. ok_or (copy_of network earlier tag)
      NoCopy >>= (λ m. reads (Arrive node tag at)
      earlier >>= (λ now. Ok (arrived_outcome network kind node earlier now m)))) is in
      let message = ok_step (ok_or (copy_of network earlier tag) NoCopy)
      (λ m. reads (Arrive node tag at) earlier >>= (λ now. Ok (arrived_outcome network kind.0 node earlier now m)))
      kind.2 in
      let now = ok_step (reads (Arrive node tag at) earlier)
      (λ now. Ok (arrived_outcome network kind.0 node earlier now message.0)) message.2 in
      of_arrival node kind.0 tag now.0 message.0 kind.1 now.2
  good_at (Hear node tag) is =
      let port = ok_step (node_as slave_port network node)
      (λ port. ok_or (copy_of network earlier tag)
      NoCopy >>= (λ m. Ok (heard network port node earlier (calls.General (Ok m) (length earlier))))) is in
      let message = ok_step (ok_or (copy_of network earlier tag) NoCopy)
      (λ m. Ok (heard network port.0 node earlier (calls.General (Ok m) (length earlier)))) port.2 in
      and_from (is_slave network node) (is_heard out) (slave_is network node {port = port.0} port.1)
      (of_heard (slaves.answer (slave_setup port.0) (history_of network port.0 node earlier)
      (calls.General (Ok message.0) (length earlier)))
      (the_value (heard network port.0 node earlier (calls.General (Ok message.0) (length earlier))) outcome
      message.2))
  good_at (Request node at) is =
      let port = ok_step (node_as slave_port network node)
      (λ port. reads (Request node at) earlier >>= (λ now. Ok outcomes.Made)) is in
      let now = ok_step (reads (Request node at) earlier) (λ now. Ok outcomes.Made) port.2 in
      and_from (is_slave network node) (is_made out) (slave_is network node {port = port.0} port.1) (of_made now.2)
  good_at (Stamped node) is =
      let port = ok_step (node_as slave_port network node)
      (λ port. ok_or (waiting_request node earlier)
      NothingWaiting >>= (λ request. Ok (stamped_outcome network port node earlier request))) is in
      let request = ok_step (ok_or (waiting_request node earlier) NothingWaiting)
      (λ request. Ok (stamped_outcome network port.0 node earlier request)) port.2 in
      and_from (is_slave network node) (is_done out || is_refused out) (slave_is network node {port = port.0} port.1)
      (of_stamp (is_held (slave_setup port.0) (history_of network port.0 node earlier)
      (request_sequence port.0 request.0)) (slave_code NotHeld) request.2)
  good_at (Tick node) is =
      let port = ok_step (node_as slave_port network node) (λ port. Ok outcomes.Done) is in
      and_from (is_slave network node) (is_done out) (slave_is network node {port = port.0} port.1) (of_done port.2)
  good_at (SetMaster node master) is =
      let kind = ok_step (ok_or (kind_of network node) NoNode)
      (λ kind. ok_or (kind_of network master)
      NoNode >>= (λ other. ok_or (slave_port kind)
      WrongKind >>= (λ port. ok_or (master_port other) WrongKind >>= (λ present. Ok outcomes.Done)))) is in
      let other = ok_step (ok_or (kind_of network master) NoNode)
      (λ other. ok_or (slave_port kind.0)
      WrongKind >>= (λ port. ok_or (master_port other) WrongKind >>= (λ present. Ok outcomes.Done))) kind.2 in
      let port = ok_step (ok_or (slave_port kind.0) WrongKind)
      (λ port. ok_or (master_port other.0) WrongKind >>= (λ present. Ok outcomes.Done)) other.2 in
      let present = ok_step (ok_or (master_port other.0) WrongKind) (λ present. Ok outcomes.Done) port.2 in
      let slave : is_slave network node ≡ true =
      ap is_some (ap (option_and_then slave_port) (ok_some (kind_of network node) NoNode {x = kind.0} kind.1)
      ∙ ok_some (slave_port kind.0) WrongKind {x = port.0} port.1) in
      let named : is_master network master ≡ true =
      ap is_some (ap (option_and_then master_port) (ok_some (kind_of network master) NoNode {x = other.0} other.1)
      ∙ ok_some (master_port other.0) WrongKind {x = present.0} present.1) in
      and_from (is_slave network node && is_master network master) (is_done out)
      (and_from (is_slave network node) (is_master network master) slave named) (of_done present.2)
  good_at (StepClock node diff) is =
      let kind = ok_step (ok_or (kind_of network node) NoNode)
      (λ kind. if nat_lt (unsigned_abs diff) bound then Ok outcomes.Done else Err ReadingOutOfRange) is in
      and_from (is_some (kind_of network node)) (is_done out)
      (ap is_some (ok_some (kind_of network node) NoNode {x = kind.0} kind.1))
      (of_step (nat_lt (unsigned_abs diff) bound) kind.2)

-- what a line of such an outcome says
made_effective : (copy : Option Contents) (out : TraceOut) → TellsMade copy out
    → not (is_refused out || is_ignored out) ≡ true
made_effective copy (outs.Made octets) told = refl
made_effective copy _ told = absurd told

heard_effective : (answer : Heard)
    → not (is_refused (heard_out answer) || is_ignored (heard_out answer)) ≡ is_of_use answer
heard_effective answers.Held = refl
heard_effective _ = refl

effective : (copy : Option Contents) (outcome : Outcome) (out : TraceOut) → TellsOutcome copy outcome out
    → not (is_refused out || is_ignored out) ≡ is_effective outcome
effective copy outcomes.Made out told = made_effective copy out told
effective copy (outcomes.Heard answer) out told =
    ap (λ (o : TraceOut). not (is_refused o || is_ignored o)) told ∙ heard_effective answer
effective copy _ out told = ap (λ (o : TraceOut). not (is_refused o || is_ignored o)) told

-- each line
pub each_line_is_good : EachLineIsGood
each_line_is_good network event earlier line told =
    let answered = told.told in
    let copy : Option Contents = copy_of network (event ∷ earlier) told.stepped.tag in
    let good : is_good network line.event line.out ≡ true =
    ap (λ (e : Event). is_good network e line.out) answered.event
    ∙ good_at network earlier copy told.stepped.outcome line.out answered.outcome event told.answered.outcome in
    record {
      good = good;
      counts = ap (λ (b : Bool). b && not (is_refused line.out || is_ignored line.out)) good
          ∙ effective copy told.stepped.outcome line.out answered.outcome
          ∙ ap took_effect (sym told.answered.outcome);
    }
