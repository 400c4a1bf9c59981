-- Messages that ports hear.
use Rattle.std.proofs.Common.{◌≡◌, ◌∙◌, ℕ, ◌∷◌, length, Option, Some, None, Ok, Err, Result, ok_or, option_map, option_and_then, sym, ap, refl, subst}
use Rattle.std.specs.Result.{result_ok}
use Rattle.event_codec.specs.Packet.{Contents, Packet}
use Rattle.master_port.specs.declared.refusal.MasterRefusal.{MasterRefusal}
use Rattle.master_port.specs.Refusal.{code_of as master_code}
use Rattle.master_port.specs.Written.{answer as master_answer}
use Rattle.slave_port.specs.History as calls
use Rattle.slave_port.specs.History.{Call}
use Rattle.slave_port.specs.Answer as slaves
use Rattle.slave_port.specs.StandsFor.{StandsFor, Port}
use Rattle.slave_port.specs.declared.heard.Heard.{Heard}
use Rattle.network_model.specs.declared.event.Event.TheVariants.{Arrive, Hear}
use Rattle.network_model.specs.declared.node.NodeKind.{NodeKind}
use Rattle.network_model.specs.declared.node.NodeKind.TheVariants as kinds
use Rattle.network_model.specs.declared.refusal.WorldRefusal.TheVariants.{NoNode, WrongKind, NoCopy}
use Rattle.network_model.specs.declared.stepped.Outcome.{Outcome}
use Rattle.network_model.specs.declared.stepped.Outcome.TheVariants as outcomes
use Rattle.network_model.specs.Network.{Network, NodeName, PortSetup, kind_of, master_port, slave_port}
use Rattle.network_model.specs.Run.{Run, place}
use Rattle.network_model.specs.Clock.{reading}
use Rattle.network_model.specs.Truth.{TellsTruth, copy_of, master_at, slave_at, responded}
use Rattle.network_model.specs.SlaveHistory.{slave_setup, history_of}
use Rattle.network_model.specs.Outcome.{◌>>=◌, node_as, port_of, reads, heard, answered_outcome, arrived_outcome}
use Rattle.world_model.specs.declared.entry.Happened.{Happened}
use Rattle.world_model.specs.declared.entry.Octets.{Octets}
use Rattle.world_model.specs.declared.entry.Left.TheVariants.{Copy, Nothing}
use Rattle.world_model.specs.declared.station.Master.{Master}
use Rattle.world_model.specs.declared.station.Slave.{Slave}
use Rattle.world_model.specs.Inner.Stands.{listed, octets_in, MasterStands, SlaveStands}
use Rattle.world_model.specs.Inner.Acts.{Brings, Gives}
use Rattle.world_model.proofs.Own.{history-made, reading_of-read, reading-read, node_as-at}

-- the port at which a message arrives, and what comes of one
record ArrivesAt (network : Network) (node : NodeName) (run : Run) (outcome : ℕ → Contents → Outcome) : Type 0 where
  kind : NodeKind
  is : node_as port_of network node ≡ Ok kind
  outcomes : (now : ℕ) (m : Contents) → arrived_outcome network kind node run now m ≡ outcome now m

arrives_at_slave : (network : Network) (node : NodeName) (run : Run) (setup : PortSetup) → slave_at network node ≡ Some setup
    → ArrivesAt network node run (λ now m. heard network setup node run (calls.Event (Ok m) now (length run)))
arrives_at_slave network node run setup is = at (kind_of network node) refl is
  where
    at : (kind : Option NodeKind) → kind_of network node ≡ kind → option_and_then slave_port kind ≡ Some setup
        → ArrivesAt network node run (λ now m. heard network setup node run (calls.Event (Ok m) now (length run)))
    at None same there = absurd (cc)
    at (Some (kinds.Master config first)) same there = absurd (cc)
    at (Some (kinds.Slave config first)) same there =
        let made : PortSetup = record { config = config; first = first.0 } in
        let is_setup : made ≡ setup = cc in
        record {
          kind = kinds.Slave config first;
          is = ap (λ k. ok_or k NoNode >>= (λ x. ok_or (port_of x) WrongKind)) same;
          outcomes = λ now m. ap (λ s. heard network s node run (calls.Event (Ok m) now (length run))) is_setup;
        }
    at (Some kinds.Clock) same there = absurd (cc)

arrives_at_master : (network : Network) (node : NodeName) (run : Run) (setup : PortSetup) → master_at network node ≡ Some setup
    → ArrivesAt network node run (λ now m. answered_outcome (master_answer setup.config (Ok m) now))
arrives_at_master network node run setup is = at (kind_of network node) refl is
  where
    at : (kind : Option NodeKind) → kind_of network node ≡ kind → option_and_then master_port kind ≡ Some setup
        → ArrivesAt network node run (λ now m. answered_outcome (master_answer setup.config (Ok m) now))
    at None same there = absurd (cc)
    at (Some (kinds.Slave config first)) same there = absurd (cc)
    at (Some (kinds.Master config first)) same there =
        let made : PortSetup = record { config = config; first = first.0 } in
        let is_setup : made ≡ setup = cc in
        record {
          kind = kinds.Master config first;
          is = ap (λ k. ok_or k NoNode >>= (λ x. ok_or (port_of x) WrongKind)) same;
          outcomes = λ now m. ap (λ (s : PortSetup). answered_outcome (master_answer s.config (Ok m) now)) is_setup;
        }
    at (Some kinds.Clock) same there = absurd (cc)

-- a slave is no master
no_master : (network : Network) (node : NodeName) (setup : PortSetup) → slave_at network node ≡ Some setup → master_at network node ≡ None
no_master network node setup is = at (kind_of network node) is
  where
    at : (kind : Option NodeKind) → option_and_then slave_port kind ≡ Some setup → option_and_then master_port kind ≡ None
    at None there = refl
    at (Some (kinds.Master config first)) there = absurd (cc)
    at (Some (kinds.Slave config first)) there = refl
    at (Some kinds.Clock) there = refl

-- an outcome after three steps that go on
arrived : (network : Network) (run : Run) (node : NodeName) (copy at now : ℕ) (m : Contents) (outcome : ℕ → Contents → Outcome)
    → ArrivesAt network node run outcome → copy_of network run copy ≡ Some m → Ok now ≡ reads (Arrive node copy at) run
    → (node_as port_of network node >>= (λ kind. ok_or (copy_of network run copy) NoCopy >>= (λ x. reads (Arrive node copy at) run >>= (λ t. Ok (arrived_outcome network kind node run t x)))))
    ≡ Ok (outcome now m)
arrived network run node copy at now m outcome here is shown =
    ap (λ r. r >>= (λ kind. ok_or (copy_of network run copy) NoCopy >>= (λ x. reads (Arrive node copy at) run >>= (λ t. Ok (arrived_outcome network kind node run t x))))) here.is
    ∙ ap (λ o. ok_or o NoCopy >>= (λ x. reads (Arrive node copy at) run >>= (λ t. Ok (arrived_outcome network here.kind node run t x)))) is
    ∙ sym (ap (λ r. r >>= (λ t. Ok (arrived_outcome network here.kind node run t m))) shown)
    ∙ ap Ok (here.outcomes now m)

module _ (network : Network) (run : Run) (node : NodeName) (copy : ℕ) (setup : PortSetup) (slave : Slave)
    (is : slave_at network node ≡ Some setup) (stands : SlaveStands network run node setup slave) (m : Contents) (is_copy : copy_of network run copy ≡ Some m)
    (new : Port) (answer : Heard) where
  -- a message that arrives at a slave
  pub arrive-brings : (at now : ℕ) → Ok now ≡ reads (Arrive node copy at) run
      → answer ≡ slaves.answer (slave_setup setup) (history_of network setup node run) (calls.Event (Ok m) now (length run))
      → StandsFor (slave_setup setup) new (calls.Event (Ok m) now (length run) ∷ history_of network setup node run)
      → Brings network run (Arrive node copy at) (SlaveStands network (Arrive node copy at ∷ run) node setup (record { port = new; waiting = slave.waiting }))
      (record { reading = Some now; outcome = outcomes.Heard answer; left = Nothing })
  arrive-brings at now shown answers stood = record {
    outcome = arrived network run node copy at now m (λ t x. heard network setup node run (calls.Event (Ok x) t (length run))) (arrives_at_slave network node run setup is) is_copy shown
        ∙ ap (λ a. Ok (outcomes.Heard a)) (sym answers);
    read = sym (reading_of-read (Arrive node copy at) run now shown);
    stands = record {
      port = subst (StandsFor (slave_setup setup) new)
          (sym (history-made network setup (Arrive node copy at) run (calls.Event (Ok m) (reading (place (Arrive node copy at) run)) (length run))
          (ap (option_map (λ (x : Contents). calls.Event (Ok x) (reading (place (Arrive node copy at) run)) (length run))) is_copy)))
          (subst (λ (t : ℕ). StandsFor (slave_setup setup) new (calls.Event (Ok m) t (length run) ∷ history_of network setup node run)) (sym (reading-read (Arrive node copy at) run now shown)) stood);
      waiting = stands.waiting;
    };
    copy = rw (no_master network node setup is) tt;
    stay = refl;
  }

  -- a general message that a slave hears
  pub hear-brings : answer ≡ slaves.answer (slave_setup setup) (history_of network setup node run) (calls.General (Ok m) (length run))
      → StandsFor (slave_setup setup) new (calls.General (Ok m) (length run) ∷ history_of network setup node run)
      → Brings network run (Hear node copy) (SlaveStands network (Hear node copy ∷ run) node setup (record { port = new; waiting = slave.waiting }))
      (record { reading = None; outcome = outcomes.Heard answer; left = Nothing })
  hear-brings answers stood = record {
    outcome = ap (λ r. r >>= (λ port. ok_or (copy_of network run copy) NoCopy >>= (λ x. Ok (heard network port node run (calls.General (Ok x) (length run)))))) (node_as-at slave_port network node setup is)
        ∙ ap (λ o. ok_or o NoCopy >>= (λ x. Ok (heard network setup node run (calls.General (Ok x) (length run))))) is_copy
        ∙ ap (λ a. Ok (outcomes.Heard a)) (sym answers);
    read = refl;
    stands = record {
      port = subst (StandsFor (slave_setup setup) new)
          (sym (history-made network setup (Hear node copy) run (calls.General (Ok m) (length run))
          (ap (option_map (λ (x : Contents). calls.General (Ok x) (length run))) is_copy))) stood;
      waiting = stands.waiting;
    };
    copy = tt;
    stay = refl;
  }

-- a message that arrives at a master
pub answer-brings : (network : Network) (run : Run) (node : NodeName) (copy at now : ℕ) (setup : PortSetup) (master : Master) (m : Contents) (happened : Happened)
    → master_at network node ≡ Some setup → MasterStands run node setup master → copy_of network run copy ≡ Some m → Ok now ≡ reads (Arrive node copy at) run
    → Gives (Some now) (answered_outcome (master_answer master.port.config (Ok m) now)) (result_ok (master_answer master.port.config (Ok m) now)) happened
    → Brings network run (Arrive node copy at) (MasterStands (Arrive node copy at ∷ run) node setup master) happened
answer-brings network run node copy at now setup master m happened is stands is_copy shown gives = record {
  outcome = arrived network run node copy at now m (λ t x. answered_outcome (master_answer setup.config (Ok x) t)) (arrives_at_master network node run setup is) is_copy shown
      ∙ ap Ok (sym (gives.answered ∙ ap (λ config. answered_outcome (master_answer config (Ok m) now)) stands.config));
  read = gives.read ∙ sym (reading_of-read (Arrive node copy at) run now shown);
  stands = record { config = stands.config; next = stands.next; number = stands.number; waiting = stands.waiting };
  copy = subst (λ (o : Option Contents). TellsTruth o (octets_in happened.left))
      (ap (λ config. result_ok (master_answer config (Ok m) now)) stands.config
      ∙ sym (made ∙ ap (λ t. result_ok (master_answer setup.config (Ok m) t)) (reading-read (Arrive node copy at) run now shown)))
      gives.made;
  stay = gives.stay;
}
  where
    made : option_and_then (λ port. option_and_then (responded port (reading (place (Arrive node copy at) run))) (copy_of network run copy)) (master_at network node)
        ≡ result_ok (master_answer setup.config (Ok m) (reading (place (Arrive node copy at) run)))
    made = ap (λ o. option_and_then (λ port. option_and_then (responded port (reading (place (Arrive node copy at) run))) (copy_of network run copy)) o) is
        ∙ ap (λ o. option_and_then (responded setup (reading (place (Arrive node copy at) run))) o) is_copy

-- a master's answer as what it gives
pub gives_answer : (answer : Result Contents MasterRefusal) (response : Contents) (now : ℕ) (octets : Octets) → answer ≡ Ok response → Packet response (listed octets)
    → Gives (Some now) (answered_outcome answer) (result_ok answer) (record { reading = Some now; outcome = outcomes.Made; left = Copy octets })
gives_answer answer response now octets is packet = record {
  read = refl;
  answered = sym (ap answered_outcome is);
  made = subst (λ (a : Result Contents MasterRefusal). TellsTruth (result_ok a) (Some (listed octets))) (sym is) packet;
  stay = refl;
}

pub gives_refusal : (answer : Result Contents MasterRefusal) (refusal : MasterRefusal) (now code : ℕ) → answer ≡ Err refusal → code ≡ master_code refusal
    → Gives (Some now) (answered_outcome answer) (result_ok answer) (record { reading = Some now; outcome = outcomes.Refused code; left = Nothing })
gives_refusal answer refusal now code is number = record {
  read = refl;
  answered = ap outcomes.Refused number ∙ sym (ap answered_outcome is);
  made = subst (λ (a : Result Contents MasterRefusal). TellsTruth (result_ok a) None) (sym is) tt;
  stay = refl;
}
