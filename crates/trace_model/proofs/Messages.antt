-- Each line that tells of a message has the right octets, whichever event made it.
use Rattle.std.proofs.Common.{◌≡◌, ◌∙◌, ℕ, Bool, true, false, Option, Some, Ok, Err}
use Rattle.std.proofs.Common.{Result, refl, sym, ap, subst, option_and_then}
use Rattle.std.specs.Prelude.{◌&&◌, ◌||◌, is_some, ok_or, unwrap_or}
use Rattle.std.specs.Result.{result_ok}
use Rattle.event_codec.specs.Packet.{Contents}
use Rattle.master_port.specs.declared.refusal.MasterRefusal.{MasterRefusal}
use Rattle.master_port.specs.Written.{answer}
use Rattle.network_model.specs.declared.event.Event.{Event}
use Rattle.network_model.specs.declared.event.Event.TheVariants.{Follow, Enter, Leave, Arrive, Hear}
use Rattle.network_model.specs.declared.event.Event.TheVariants.{Stamped, Tick, SetMaster, StepClock}
use Rattle.network_model.specs.declared.node.NodeKind.{NodeKind}
use Rattle.network_model.specs.declared.node.NodeKind.TheVariants as kinds
use Rattle.network_model.specs.declared.refusal.WorldRefusal.TheVariants.{NoCopy, NothingWaiting, ReadingOutOfRange}
use Rattle.network_model.specs.declared.stepped.Outcome.TheVariants as outcomes
use Rattle.network_model.specs.Network.{Network, NodeName, PortSetup, kind_of, master_port}
use Rattle.network_model.specs.Run.{Run, Place, place, until}
use Rattle.network_model.specs.Kinds.{draws_sync, is_request}
use Rattle.network_model.specs.Clock as clocks
use Rattle.network_model.specs.Numbering.{waiting_sync}
use Rattle.network_model.specs.Journey as made
use Rattle.network_model.specs.Truth as truth
use Rattle.network_model.specs.Truth.{copy_made, copy_of, master_at}
use Rattle.network_model.specs.Outcome.{◌>>=◌, node_as, port_of, reads, answered_outcome}
use Rattle.network_model.specs.Outcome.{arrived_outcome, outcome_of, IsRun}
use Rattle.network_model.proofs.Options.{ok_step, ok_some}
use Rattle.network_model.proofs.Copies.{answered as answers_request}
use Rattle.network_model.proofs.Entries.{delay_req_copy}
use Rattle.trace_model.specs.declared.line.TraceOut.{TraceOut}
use Rattle.trace_model.specs.declared.line.TraceOut.TheVariants as outs
use Rattle.trace_model.specs.Line.{is_made, is_entered, is_done, is_heard, is_refused}
use Rattle.trace_model.specs.Line.{is_slave, is_clock, is_master, is_good}
use Rattle.trace_model.specs.Octets.{writes_right}
use Rattle.trace_model.specs.Sound.{lines_to}
use Rattle.trace_model.specs.Faithful.{TellsPlace}
use Rattle.trace_model.specs.Complete.{EachMessageIsWritten}
use Rattle.trace_model.proofs.Good.{port_is, the_value, each_line_is_good}
use Rattle.trace_model.proofs.Found.{same_event}
use Rattle.trace_model.proofs.MessagesAfter.{accepted_told}
use Rattle.trace_model.proofs.Written.{drawn_written}
use Rattle.trace_model.proofs.Octets.{left_written, follow_written, arrival_written}
use Rattle.trace_model.proofs.Exchanges.{is_made_told}

-- the Sync that a Follow_Up follows
follow_waits : (network : Network) (node : NodeName) (earlier : Run)
    → outcome_of network earlier (Follow node) ≡ Ok outcomes.Made
    → (origin : Place) × (waiting_sync node earlier ≡ Some origin)
follow_waits network node earlier is =
    let port = ok_step (node_as master_port network node)
    (λ port. ok_or (waiting_sync node earlier) NothingWaiting >>= (λ waiting. Ok outcomes.Made)) is in
    let waiting = ok_step (ok_or (waiting_sync node earlier) NothingWaiting) (λ waiting. Ok outcomes.Made) port.2 in
    (waiting.0, ok_some (waiting_sync node earlier) NothingWaiting {x = waiting.0} waiting.1)

-- the master at which a message arrived that it answered
record IsAtMaster (kind : NodeKind) (now : ℕ) (m : Contents) : Type 0 where
  port : PortSetup
  master : master_port kind ≡ Some port
  response : Contents
  is : answer port.config (Ok m) now ≡ Ok response

at_master : (network : Network) (kind : NodeKind) (node : NodeName) (earlier : Run) (now : ℕ) (m : Contents)
    → arrived_outcome network kind node earlier now m ≡ outcomes.Made
    → IsAtMaster kind now m
at_master network (kinds.Master config first) node earlier now m is = by (answer config (Ok m) now) refl is
  where
    by : (sent : Result Contents MasterRefusal) → answer config (Ok m) now ≡ sent
        → answered_outcome sent ≡ outcomes.Made → IsAtMaster (kinds.Master config first) now m
    by (Ok response) e is = record {
      port =
          record { config = config; first = first.0 };
      master = refl;
      response = response;
      is = e;
    }
    by (Err refusal) e is = cc
at_master network (kinds.Slave config first) node earlier now m is = cc
at_master network kinds.Clock node earlier now m is = cc

-- what an arrival made that is answered, and the journey of what arrived
record IsResponse (network : Network) (node : NodeName) (copy at : ℕ) (earlier : Run) : Type 0 where
  response : Contents
  is_made : copy_made network (Arrive node copy at) earlier (copy_of network earlier) ≡ Some response
  journey : made.Journey
  journey_is : made.journey_of earlier copy ≡ Some journey

responds : (network : Network) (node : NodeName) (copy at : ℕ) (earlier : Run)
    → outcome_of network earlier (Arrive node copy at) ≡ Ok outcomes.Made → IsResponse network node copy at earlier
responds network node copy at earlier is =
    let kind = ok_step (node_as port_of network node)
    (λ kind. ok_or (copy_of network earlier copy)
    NoCopy >>= (λ m. reads (Arrive node copy at)
    earlier >>= (λ now. Ok (arrived_outcome network kind node earlier now m)))) is in
    let message = ok_step (ok_or (copy_of network earlier copy) NoCopy)
    (λ m. reads (Arrive node copy at) earlier >>= (λ now. Ok (arrived_outcome network kind.0 node earlier now m)))
    kind.2 in
    let now = ok_step (reads (Arrive node copy at) earlier)
    (λ now. Ok (arrived_outcome network kind.0 node earlier now message.0)) message.2 in
    let read : clocks.reading_of (place (Arrive node copy at) earlier) ≡ Some now.0 =
    ok_some (clocks.reading_of (place (Arrive node copy at) earlier)) ReadingOutOfRange {x = now.0} now.1 in
    let read_is : clocks.reading (place (Arrive node copy at) earlier) ≡ now.0 =
    ap (λ (r : Option ℕ). unwrap_or r 0) read in
    let m_is : copy_of network earlier copy ≡ Some message.0 =
    ok_some (copy_of network earlier copy) NoCopy {x = message.0} message.1 in
    let master = at_master network kind.0 node earlier now.0 message.0
    (the_value (arrived_outcome network kind.0 node earlier now.0 message.0) outcomes.Made now.2) in
    let master_is : master_at network node ≡ Some master.port =
    ap (option_and_then master_port) (port_is network node kind.0 kind.1) ∙ master.master in
    let asked = (answers_request master.port.config message.0.body message.0.header now.0 master.response
    (ap result_ok master.is)).0 in
    let drawn = delay_req_copy network earlier copy message.0 asked.0 m_is asked.1 in
    record {
      response = master.response;
      is_made = ap (option_and_then
          (λ (port : PortSetup). option_and_then
          (truth.responded port (clocks.reading (place (Arrive node copy at) earlier)))
          (copy_of network earlier copy))) master_is
          ∙ ap (option_and_then (truth.responded master.port (clocks.reading (place (Arrive node copy at) earlier))))
          m_is
          ∙ ap (λ (t : ℕ). result_ok (answer master.port.config (Ok message.0) t)) read_is
          ∙ ap result_ok master.is;
      journey = drawn.journey;
      journey_is = drawn.made;
    }

-- a line that tells of a message tells of nothing else
record IsMessageAlone (out : TraceOut) : Type 0 where
  entered : is_entered out ≡ false
  done : is_done out ≡ false
  heard : is_heard out ≡ false
  refused : is_refused out ≡ false

alone : (out : TraceOut) → is_made out ≡ true → IsMessageAlone out
alone (outs.Made octets) is = record { entered = refl; done = refl; heard = refl; refused = refl }
alone _ is = cc

never : (x y : Bool) → y ≡ false → (x && y) ≡ true → ⊥
never true y other is = cc
never false y other is = cc

neither : (x y : Bool) → x ≡ false → y ≡ false → (x || y) ≡ false
neither x y none other = λ i. none i || other i

pub each_message_is_written : EachMessageIsWritten
each_message_is_written network p e tells is = by p.event refl
  where
    accepted : IsRun network (until p)
    accepted = accepted_told network (until p) (lines_to e) (tells.told, tells.before)

    made : is_made e.line.out ≡ true
    made = is_made_told network p.event p.earlier e.line tells.told
        (the_value tells.told.stepped.outcome outcomes.Made (sym tells.told.answered.outcome ∙ is))

    good : is_good network p.event e.line.out ≡ true
    good = ap (λ (v : Event). is_good network v e.line.out) (sym (same_event network p e tells))
        ∙ (each_line_is_good network p.event p.earlier e.line tells.told).good

    good_as : (v : Event) → p.event ≡ v → is_good network v e.line.out ≡ true
    good_as v same = subst (λ (v : Event). is_good network v e.line.out ≡ true) same good

    outcome_as : (v : Event) → p.event ≡ v → outcome_of network p.earlier v ≡ Ok outcomes.Made
    outcome_as v same = subst (λ (v : Event). outcome_of network p.earlier v ≡ Ok outcomes.Made) same is

    by : (v : Event) → p.event ≡ v → writes_right network e ≡ true
    by (Leave node transit at) same =
        left_written network node transit at p.earlier e
        (subst (λ (v : Event). TellsPlace network (place v p.earlier) e) same tells)
        (outcome_as (Leave node transit at) same)
    by (Follow node) same =
        let waits = follow_waits network node p.earlier (outcome_as (Follow node) same) in
        follow_written network node p e waits.0 same tells waits.1
    by (Arrive node copy at) same =
        let r = responds network node copy at p.earlier (outcome_as (Arrive node copy at) same) in
        arrival_written network node copy at p e r.response r.journey same tells
        (subst (λ (v : Event). copy_made network v p.earlier (copy_of network p.earlier) ≡ Some r.response)
        (sym same) r.is_made) r.journey_is
    by (Enter node copy at) same =
        absurd (never (is_clock network node) (is_entered e.line.out) (alone e.line.out made).entered
        (good_as (Enter node copy at) same))
    by (Hear node copy) same = absurd
        (never (is_slave network node) (is_heard e.line.out) (alone e.line.out made).heard
        (good_as (Hear node copy) same))
    by (Stamped node) same =
        absurd (never (is_slave network node) (is_done e.line.out || is_refused e.line.out)
        (neither (is_done e.line.out) (is_refused e.line.out) (alone e.line.out made).done
        (alone e.line.out made).refused) (good_as (Stamped node) same))
    by (Tick node) same = absurd
        (never (is_slave network node) (is_done e.line.out) (alone e.line.out made).done (good_as (Tick node) same))
    by (SetMaster node master) same =
        absurd (never (is_slave network node && is_master network master) (is_done e.line.out)
        (alone e.line.out made).done (good_as (SetMaster node master) same))
    by (StepClock node diff) same =
        absurd (never (is_some (kind_of network node)) (is_done e.line.out) (alone e.line.out made).done
        (good_as (StepClock node diff) same))
    by _ same =
        drawn_written network p e accepted tells (ap (λ (v : Event). draws_sync v || is_request v) same)
