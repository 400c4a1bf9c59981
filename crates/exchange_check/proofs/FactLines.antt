-- The fact that is kept of a line is what the line and those before it say.
use Rattle.std.proofs.Common.{◌≡◌, ◌∙◌, ℕ, Bool, true, false, cond, eqb, ◌∷◌, length}
use Rattle.std.proofs.Common.{Option, Some, None, inl, inr, refl, sym, ap, subst, arith}
use Rattle.std.specs.Prelude.{option_map, option_and_then}
use Rattle.std.specs.Option.{option_map_or}
use Rattle.std.proofs.lemmas.Option.{none-some}
use Rattle.event_codec.specs.Packet.{Contents}
use Rattle.master_port.specs.Written.{follow_up, delay_resp}
use Rattle.network_model.specs.declared.event.Event.{Event}
use Rattle.network_model.specs.declared.event.Event.TheVariants.{Sync, SyncOne, Follow, Leave, Arrive}
use Rattle.network_model.specs.declared.event.Event.TheVariants.{Request}
use Rattle.network_model.specs.Network.{Network, NodeName, PortSetup}
use Rattle.network_model.specs.Kinds.{is_sync}
use Rattle.network_model.specs.Truth.{master_at}
use Rattle.exchange_check.specs.declared.facts.Fact.{Fact}
use Rattle.exchange_check.specs.declared.facts.KeptJourney.{KeptJourney}
use Rattle.trace_model.specs.declared.line.TraceLine.{TraceLine}
use Rattle.trace_model.specs.Line.{Lines, counts}
use Rattle.trace_model.specs.Record.{LinePlace, line_place, line_number, event_of}
use Rattle.trace_model.specs.Record.{line_at, last_line, reading, sequence}
use Rattle.trace_model.specs.Journey.{LineJourney, line_journey_made}
use Rattle.trace_model.specs.Journey.{line_journey_of}
use Rattle.trace_model.specs.Octets.{drawing_port, sent, sent_after, follow_up_sent, answered}
use Rattle.trace_model.specs.Octets.{message_made, writes_right, is_written}
use Rattle.exchange_check.specs.Exchange.{number_drawn}
use Rattle.exchange_check.specs.Inner.Kept.{Facts, kept_journey_at, kept_journey_by, sent_by, message_after_by}
use Rattle.exchange_check.specs.Inner.Kept.{followed_by, answered_by, message_by, fact_known, fact_made}
use Rattle.exchange_check.specs.Inner.Kept.{written_journey, fact_by}
use Rattle.exchange_check.proofs.Noted.{site_at}
use Rattle.exchange_check.proofs.Told.{kept_journey_of, fact_of, facts_at, known_of}
use Rattle.exchange_check.proofs.Told.{kept_journey_at-is, kept_journey_is, known_is}
use Rattle.std.proofs.lemmas.Slice.Eq.{bytes_eq-Decides}
use Rattle.network_model.specs.Kinds.{is_at}
use Rattle.network_model.specs.Run.{site_of}
use Rattle.exchange_check.specs.Inner.Machine.{with_fact}
use Rattle.trace_model.proofs.JourneyLines.{origin_there}
use Rattle.trace_model.proofs.Lines.{last_is}
use Rattle.exchange_check.proofs.JourneysMade.{made-so}
use Rattle.exchange_check.proofs.Messages.{sent_is, message_after_is}

-- the port of a master sent its Syncs
sync_port : (network : Network) (event : Event) (node : NodeName) (port : PortSetup) → is_at is_sync node event ≡ true
    → master_at network node ≡ Some port → drawing_port network event ≡ Some port
sync_port network (Sync at_node at) node port h there =
    ap (master_at network) ((bytes_eq-Decides at_node node).0 h) ∙ there
sync_port network _ node port h there = grind arith

-- a line, and lines among which those before it are
module _ (network : Network) (e : LinePlace) (lines : Lines)
    (among : (n : ℕ) (x : LinePlace) → line_at network e.earlier n ≡ Some x → line_at network lines n ≡ Some x) where
  abbrev facts : Facts
  facts = facts_at network lines

  follow_of : (node : NodeName) (port : PortSetup) → master_at network node ≡ Some port → (o : Option LinePlace)
      → last_line network is_sync node e.earlier ≡ o
      → followed_by facts port (option_map line_number o) ≡ option_map (follow_up_sent network port) o
  follow_of node port there None h = refl
  follow_of node port there (Some k) h =
      let found = last_is network is_sync node e.earlier k h in
      let number : number_drawn network k ≡ sequence network port k =
      ap (λ (o : Option PortSetup). option_map_or (λ (p : PortSetup). sequence network p k) o 0)
      (sync_port network (event_of k) node port found.1 there) in
      ap (λ (o : Option LinePlace). option_map (λ (sync : Fact). follow_up port.config sync.number.0 sync.reading)
      (option_map (fact_of network) o)) (among (line_number k) k found.0)
      ∙ (λ i. Some (follow_up port.config (number i) (reading k)))

  pub follow_at : (node : NodeName) (o : Option PortSetup) → master_at network node ≡ o
      → option_and_then (λ port. followed_by facts port
      (option_map line_number (last_line network is_sync node e.earlier))) o
      ≡ option_and_then (λ port. option_map (follow_up_sent network port) (last_line network is_sync node e.earlier)) o
  follow_at node None h = refl
  follow_at node (Some port) h = follow_of node port h (last_line network is_sync node e.earlier) refl

  pub message_of : (o : Option LineJourney)
      → ((j : LineJourney) → o ≡ Some j → line_at network e.earlier (line_number j.origin) ≡ Some j.origin)
      → option_and_then (message_after_by network facts) (option_map (kept_journey_of network) o)
      ≡ option_and_then (sent_after network) o
  message_of None known = refl
  message_of (Some j) known =
      message_after_is network lines j (among (line_number j.origin) j.origin (known j refl))

  answer_of : (g : Contents → Contents) (o : Option LineJourney)
      → option_map g (option_and_then (sent_after network) o)
      ≡ option_and_then (λ j. option_map g (sent_after network j)) o
  answer_of g None = refl
  answer_of g (Some j) = refl

  pub answer_at : (copy : ℕ)
      → kept_journey_at facts copy ≡ option_map (kept_journey_of network) (line_journey_of network e.earlier copy)
      → (o : Option PortSetup)
      → option_and_then (λ port. answered_by network facts port (reading e) (kept_journey_at facts copy)) o
      ≡ option_and_then (λ port. option_and_then (answered network port e) (line_journey_of network e.earlier copy)) o
  answer_at copy heard None = refl
  answer_at copy heard (Some port) =
      ap (λ (t : Option KeptJourney). option_map
      (λ (request : Contents). delay_resp port.config request.header (reading e))
      (option_and_then (message_after_by network facts) t)) heard
      ∙ ap (λ (m : Option Contents). option_map
      (λ (request : Contents). delay_resp port.config request.header (reading e)) m)
      (message_of (line_journey_of network e.earlier copy) (origin_there network e.earlier copy))
      ∙ answer_of (λ request. delay_resp port.config request.header (reading e))
      (line_journey_of network e.earlier copy)

module _ (network : Network) (e : LinePlace) where
  abbrev facts_before : Facts
  facts_before = facts_at network e.earlier

  itself : (n : ℕ) (x : LinePlace) → line_at network e.earlier n ≡ Some x → line_at network e.earlier n ≡ Some x
  itself n x h = h

  unwritten : (writes : Bool) (n : ℕ) (t : Option KeptJourney)
      → option_and_then (message_after_by network facts_before) (option_map (written_journey writes n) t)
      ≡ option_and_then (message_after_by network facts_before) t
  unwritten writes n None = refl
  unwritten writes n (Some t) = refl

  -- the line that sent a message is among those before the line by which it left a clock
  pub left_there : (node : NodeName) (transit at : ℕ) (j : LineJourney)
      → line_journey_made network (Leave node transit at) e (line_journey_of network e.earlier) ≡ Some j
      → line_at network e.earlier (line_number j.origin) ≡ Some j.origin
  left_there node transit at j h = elim (made-so network e (Leave node transit at) j h) [
    | inl sent ↦ absurd (none-some transit (sym sent.alone))
    | inr left ↦ subst (λ (x : LineJourney). line_at network e.earlier (line_number x.origin) ≡ Some x.origin) left.more
        (origin_there network e.earlier left.copy left.prior left.known)
  ]

  left_message : (node : NodeName) (transit at : ℕ)
      → option_and_then (message_after_by network facts_before)
      (kept_journey_by facts_before (known_of network e) (Leave node transit at))
      ≡ option_and_then (sent_after network)
      (line_journey_made network (Leave node transit at) e (line_journey_of network e.earlier))
  left_message node transit at =
      sym (unwritten (writes_right network e) (line_number e)
      (kept_journey_by facts_before (known_of network e) (Leave node transit at)))
      ∙ ap (λ (t : Option KeptJourney). option_and_then (message_after_by network facts_before) t)
      (kept_journey_is network e (Leave node transit at))
      ∙ message_of network e e.earlier itself
      (line_journey_made network (Leave node transit at) e (line_journey_of network e.earlier))
      (left_there node transit at)

  pub sent_at : (event : Event) → event ≡ event_of e
      → sent_by network event (number_drawn network e) (reading e) ≡ sent network e
  sent_at event same = ap (λ (x : Event). sent_by network x (number_drawn network e) (reading e)) same
      ∙ sent_is network e

  -- the message that is to be written of a line
  pub message_is : (event : Event) → event ≡ event_of e
      → message_by network facts_before (known_of network e)
      (kept_journey_by facts_before (known_of network e) event) event
      ≡ message_made network event e
  message_is (Sync node at) same = sent_at (Sync node at) same
  message_is (SyncOne node at) same = sent_at (SyncOne node at) same
  message_is (Follow node) same =
      ap (λ (name : NodeName). option_and_then
      (λ port. followed_by facts_before port (option_map line_number (last_line network is_sync name e.earlier)))
      (master_at network node)) (sym (ap site_of same))
      ∙ follow_at network e e.earlier itself node (master_at network node) refl
  message_is (Leave node transit at) same = left_message node transit at
  message_is (Arrive node copy at) same =
      answer_at network e e.earlier itself copy (kept_journey_at-is network e.earlier copy) (master_at network node)
  message_is (Request node at) same = sent_at (Request node at) same
  message_is _ same = refl

  -- what is kept of a line
  pub fact_is : fact_known network facts_before e.line (known_of network e)
      (kept_journey_by facts_before (known_of network e) (event_of e)) ≡ fact_of network e
  fact_is =
      let writes : is_written (message_by network facts_before (known_of network e)
      (kept_journey_by facts_before (known_of network e) (event_of e)) (event_of e)) e.line.out
      ≡ writes_right network e =
      ap (λ (m : Option Contents). is_written m e.line.out) (message_is (event_of e) refl) in
      (λ i. fact_made e.line (known_of network e) (writes i)
      (kept_journey_by facts_before (known_of network e) (event_of e)))
      ∙ (λ i. record {
        line = line_number e;
        event = event_of e;
        reading = reading e;
        made = (fact_of network e).made;
        completes = (fact_of network e).completes;
        number = record { 0 = number_drawn network e };
        reads_right = (fact_of network e).reads_right;
        writes_right = writes_right network e;
        last_sync = (fact_of network e).last_sync;
        journey = kept_journey_is network e (event_of e) i;
      })

-- what is kept of a line, where it counts
pub fact_by-is : (network : Network) (line : TraceLine) (earlier : Lines)
    → fact_by network (facts_at network earlier) (site_at network earlier) line (length earlier)
    ≡ cond (counts network line) (Some (fact_of network (line_place line earlier))) None
fact_by-is network line earlier =
    (λ i. cond (counts network line)
    (Some (fact_known network (facts_at network earlier) line (known_is network line earlier i)
    (kept_journey_by (facts_at network earlier) (known_is network line earlier i) line.event))) None)
    ∙ (λ i. cond (counts network line) (Some (fact_is network (line_place line earlier) i)) None)

either_fact : (network : Network) (line : TraceLine) (earlier : Lines) (n : ℕ) (here counted : Bool)
    → cond here (cond counted (Some (fact_of network (line_place line earlier))) None) (facts_at network earlier n)
    ≡ option_map (fact_of network)
    (cond here (cond counted (Some (line_place line earlier)) None) (line_at network earlier n))
either_fact network line earlier n true true = refl
either_fact network line earlier n true false = refl
either_fact network line earlier n false counted = refl

-- what is kept of all lines after one more line
pub facts-line : (network : Network) (line : TraceLine) (earlier : Lines)
    → with_fact (facts_at network earlier) (length earlier)
    (cond (counts network line) (Some (fact_of network (line_place line earlier))) None)
    ≡ facts_at network (line ∷ earlier)
facts-line network line earlier =
    λ i n. either_fact network line earlier n (eqb (length earlier) n) (counts network line) i
