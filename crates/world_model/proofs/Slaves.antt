-- Events that a slave answers.
use Rattle.std.proofs.Common.{◌≡◌, ◌∙◌, ℕ, ◌+◌, ◌%◌, Bool, true, false, List, [], ◌∷◌, ◌++◌, length, count_by, if◌then◌else◌, Option, Some, None, Ok, option_map, sym, ap, refl, subst, arith}
use Rattle.std.specs.Prelude.{◌&&◌}
use Rattle.std.specs.Option.{option_to_list}
use Rattle.std.proofs.lemmas.List.Sums.{sum_by-cons}
use Rattle.ptp_units.specs.declared.sequence.Seq.{Seq}
use Rattle.event_codec.specs.Packet.{Packet, Contents}
use Rattle.slave_port.specs.History as calls
use Rattle.slave_port.specs.History.{Call, requests_drawn, next_number}
use Rattle.slave_port.specs.StandsFor.{StandsFor, Port}
use Rattle.slave_port.specs.Written.{delay_req}
use Rattle.network_model.specs.declared.event.Event.{Event}
use Rattle.network_model.specs.declared.event.Event.TheVariants.{Arrive, Hear, Request, Stamped, Tick, SetMaster}
use Rattle.network_model.specs.declared.stepped.Outcome.TheVariants.{Made}
use Rattle.network_model.specs.Network.{Network, NodeName, PortSetup, slave_port, is_named}
use Rattle.network_model.specs.Run.{Run, Place, place, site_of}
use Rattle.network_model.specs.Kinds.{is_at, is_request, is_stamped}
use Rattle.network_model.specs.Clock.{reading}
use Rattle.network_model.specs.Numbering.{draws_with, waiting_request}
use Rattle.network_model.specs.Truth.{slave_at, copy_of, master_at}
use Rattle.network_model.specs.SlaveHistory.{slave_setup, call_made, history_of}
use Rattle.network_model.specs.Outcome.{◌>>=◌, reads}
use Rattle.network_model.proofs.Sites.{named-self}
use Rattle.world_model.specs.declared.entry.Octets.{Octets}
use Rattle.world_model.specs.declared.entry.Left.TheVariants.{Copy}
use Rattle.world_model.specs.declared.station.Slave.{Slave}
use Rattle.world_model.specs.Inner.Stands.{listed, departure, sequence_of, SlaveStands}
use Rattle.world_model.specs.Inner.Acts.{Brings}
use Rattle.world_model.proofs.Own.{history-made, reading_of-read, reading-read, node_as-at}

-- a call that an event makes where it makes one, which draws nothing
none_drawn : {X : Type 0} (o : Option X) (call : X → Call) (history : List Call)
    → ((x : X) → requests_drawn (call x ∷ history) ≡ requests_drawn history)
    → requests_drawn (option_to_list (option_map call o) ++ history) ≡ requests_drawn history + 0
none_drawn None call history draws = omega arith
none_drawn (Some x) call history draws = omega (arith, draws x)

-- a call draws a number where its event is a request
drawn_by : (network : Network) (setup : PortSetup) (event : Event) (earlier : Run) (history : List Call)
    → requests_drawn (option_to_list (call_made network setup event earlier) ++ history) ≡ requests_drawn history + (if is_request event then 1 else 0)
drawn_by network setup (Arrive node copy at) earlier history =
    none_drawn (copy_of network earlier copy) (λ (m : Contents). calls.Event (Ok m) (reading (place (Arrive node copy at) earlier)) (length earlier)) history (λ x. refl)
drawn_by network setup (Hear node copy) earlier history =
    none_drawn (copy_of network earlier copy) (λ (m : Contents). calls.General (Ok m) (length earlier)) history (λ x. refl)
drawn_by network setup (Request node at) earlier history = refl
drawn_by network setup (Stamped node) earlier history =
    none_drawn (waiting_request node earlier) (λ (request : Place). calls.RequestLeft (sequence_of setup request) (reading request)) history (λ x. refl)
drawn_by network setup (Tick node) earlier history = omega arith
drawn_by network setup (SetMaster node master) earlier history =
    none_drawn (master_at network master) (λ (other : PortSetup). calls.SetMaster other.config.identity) history (λ x. refl)
drawn_by network setup _ earlier history = omega arith

at_node : (named request : Bool) (with without count : ℕ) → with ≡ without + (if request then 1 else 0) → without ≡ count
    → (if named then with else without) ≡ (if request && named then 1 else 0) + count
at_node true true with without count drawn same = omega arith
at_node true false with without count drawn same = omega arith
at_node false true with without count drawn same = omega arith
at_node false false with without count drawn same = omega arith

of_if : (b : Bool) (xs ys : List Call) → requests_drawn (if b then xs else ys) ≡ (if b then requests_drawn xs else requests_drawn ys)
of_if true xs ys = refl
of_if false xs ys = refl

-- a slave's port drew as many numbers as it had Request events
requests_drawn-history : (network : Network) (setup : PortSetup) (node : NodeName) (run : Run)
    → requests_drawn (history_of network setup node run) ≡ count_by (draws_with (Request node 0)) run
requests_drawn-history network setup node [] = refl
requests_drawn-history network setup node (event ∷ earlier) =
    of_if (is_named (site_of event) node) (option_to_list (call_made network setup event earlier) ++ history_of network setup node earlier) (history_of network setup node earlier)
    ∙ at_node (is_named (site_of event) node) (is_request event) _ _ (count_by (draws_with (Request node 0)) earlier)
    (drawn_by network setup event earlier (history_of network setup node earlier)) (requests_drawn-history network setup node earlier)
    ∙ sym (sum_by-cons (λ e. if draws_with (Request node 0) e then 1 else 0) event earlier)

request_number : (network : Network) (setup : PortSetup) (node : NodeName) (at : ℕ) (run : Run)
    → next_number (slave_setup setup) (history_of network setup node run) ≡ sequence_of setup (place (Request node at) run)
request_number network setup node at run = ap (λ n. (setup.first + n) % 65536) (requests_drawn-history network setup node run)

module _ (network : Network) (run : Run) (node : NodeName) (at now : ℕ) (setup : PortSetup) (slave : Slave)
    (is : slave_at network node ≡ Some setup) (stands : SlaveStands network run node setup slave) (shown : Ok now ≡ reads (Request node at) run)
    (octets : Octets) (number : Seq) (new : Port) where
  waits : waiting_request node (Request node at ∷ run) ≡ Some (place (Request node at) run)
  waits = ap (λ b. if b then Some (place (Request node at) run) else (if is_at is_stamped node (Request node at) then None else waiting_request node run)) (named-self node)

  pub request-brings : Packet (delay_req setup.config (next_number (slave_setup setup) (history_of network setup node run))) (listed octets)
      → number.0 ≡ next_number (slave_setup setup) (history_of network setup node run)
      → StandsFor (slave_setup setup) new (calls.NextRequest (length run) ∷ history_of network setup node run)
      → Brings network run (Request node at)
      (SlaveStands network (Request node at ∷ run) node setup (record { port = new; waiting = Some (record { number = number; at = now }) }))
      (record { reading = Some now; outcome = Made; left = Copy octets })
  request-brings packet drawn stood = record {
    outcome = ap (λ r. r >>= (λ port. reads (Request node at) run >>= (λ moment. Ok Made))) (node_as-at slave_port network node setup is)
        ∙ sym (ap (λ r. r >>= (λ moment. Ok Made)) shown);
    read = sym (reading_of-read (Request node at) run now shown);
    stands = record {
      port = subst (StandsFor (slave_setup setup) new) (sym (history-made network setup (Request node at) run (calls.NextRequest (length run)) refl)) stood;
      waiting = (λ i. Some (record { number = record { 0 = (drawn ∙ request_number network setup node at run) i }; at = sym (reading-read (Request node at) run now shown) i }))
          ∙ sym (ap (option_map (λ (p : Place). departure (sequence_of setup p) p)) waits);
    };
    copy = rw is (subst (λ (n : ℕ). Packet (delay_req setup.config n) (listed octets)) (request_number network setup node at run) packet);
    stay = refl;
  }
