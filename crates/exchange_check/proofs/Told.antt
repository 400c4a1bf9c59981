-- What is kept of a line is what the line and those before it say.
use Rattle.std.proofs.Common.{◌≡◌, ◌∙◌, ℕ, ◌+◌, ◌-◌, Bool, true, false, cond, eqb}
use Rattle.std.proofs.Common.{[], ◌∷◌, length, Option, Some, None, refl, sym, ap, arith}
use Rattle.std.specs.Prelude.{option_map, option_and_then, unwrap_or, count_by}
use Rattle.std.specs.Option.{option_or, option_map_or}
use Rattle.std.proofs.lemmas.List.Sums.{sum_by-cons}
use Rattle.ptp_units.specs.Sequence.{of_count}
use Rattle.network_model.specs.declared.event.Event.{Event}
use Rattle.network_model.specs.declared.event.Event.TheVariants.{Sync, SyncOne, Leave}
use Rattle.network_model.specs.declared.event.Event.TheVariants.{Request}
use Rattle.network_model.specs.Network.{Network, NodeName, PortSetup}
use Rattle.network_model.specs.Run.{place, site_of}
use Rattle.network_model.specs.Kinds.{is_at, is_sync, draws_sync, is_request, is_step}
use Rattle.network_model.specs.Numbering.{number_of}
use Rattle.network_model.specs.Truth.{master_at, slave_at}
use Rattle.exchange_check.specs.declared.facts.Fact.{Fact}
use Rattle.exchange_check.specs.declared.facts.Known.{Known}
use Rattle.exchange_check.specs.declared.facts.KeptJourney.{KeptJourney}
use Rattle.trace_model.specs.declared.finding.Finding.{Finding}
use Rattle.trace_model.specs.declared.finding.Finding.TheVariants as findings
use Rattle.trace_model.specs.declared.line.TraceLine.{TraceLine}
use Rattle.trace_model.specs.Line.{Lines, counts, is_made, completes}
use Rattle.trace_model.specs.Record.{LinePlace, line_place, line_number, event_of, site, line_at}
use Rattle.trace_model.specs.Record.{events, last_line, reading, reads_right}
use Rattle.trace_model.specs.Journey.{LineJourney, line_stay_length, line_residence, line_begun, with_stay}
use Rattle.trace_model.specs.Journey.{copy_entered, line_left_from, line_journey_made, line_journey_of}
use Rattle.trace_model.specs.Octets.{drawing_port, writes_right}
use Rattle.trace_model.specs.Finding.{broken}
use Rattle.exchange_check.specs.Exchange.{number_drawn}
use Rattle.exchange_check.specs.Inner.Kept.{Facts, number_by, known_by, kept_journey_at, stayed}
use Rattle.exchange_check.specs.Inner.Kept.{left_by, begun_by, kept_journey_by, written_journey, stay_line}
use Rattle.exchange_check.specs.Inner.Kept.{wrong_line, wrong_lines, wrong_reading_in, wrong_octets_in}
use Rattle.exchange_check.proofs.Noted.{site_at}
use Rattle.exchange_check.proofs.Options.{or_none}
use Rattle.exchange_check.proofs.WrongLines.{reading_in_is, octets_in_are, line_met, broken_line, journey_readings}
use Rattle.exchange_check.proofs.WrongLines.{journey_octets, reading-more, octets-more}

-- what is kept of a journey
abbrev pub kept_journey_of : Network → LineJourney → KeptJourney
kept_journey_of network journey = record {
  origin = line_number journey.origin;
  residence = line_residence journey;
  wrong = wrong_lines
      (option_map line_met (journey_readings network journey))
      (option_map line_met (journey_octets network journey));
}

-- the journey of the copy that a line made
abbrev pub journey_from : Network → LinePlace → Option LineJourney
journey_from network e = line_journey_made network (event_of e) e (line_journey_of network e.earlier)

-- what is kept of a line
abbrev pub fact_of : Network → LinePlace → Fact
fact_of network e = record {
  line = line_number e;
  event = event_of e;
  reading = reading e;
  made = is_made e.line.out;
  completes = completes e.line.out;
  number = record { 0 = number_drawn network e };
  reads_right = reads_right network e;
  writes_right = writes_right network e;
  last_sync = option_map line_number (last_line network is_sync (site e) e.earlier);
  journey = option_map (kept_journey_of network) (journey_from network e);
}

-- what is kept of the line of each number
abbrev pub facts_at : Network → Lines → Facts
facts_at network lines n = option_map (fact_of network) (line_at network lines n)

-- what is known of a line from the line itself and from its node
abbrev pub known_of : Network → LinePlace → Known
known_of network e = record {
  line = line_number e;
  reading = reading e;
  number = record { 0 = number_drawn network e };
  reads = reads_right network e;
  last_sync = option_map line_number (last_line network is_sync (site e) e.earlier);
}

sum_count : (first n : ℕ) → of_count (first + of_count n) ≡ of_count (first + n)
sum_count first n = omega arith

number_is : (network : Network) (earlier : Lines) (event : Event) → number_by network (site_at network earlier) event
    ≡ option_map_or (λ port. of_count (number_of port (place event (events network earlier))))
    (drawing_port network event) 0
number_is network earlier (Sync node at) =
    λ i. option_map_or (λ (port : PortSetup). sum_count port.first
    (count_by (is_at draws_sync node) (events network earlier)) i) (master_at network node) 0
number_is network earlier (SyncOne node at) =
    λ i. option_map_or (λ (port : PortSetup). sum_count port.first
    (count_by (is_at draws_sync node) (events network earlier)) i) (master_at network node) 0
number_is network earlier (Request node at) =
    λ i. option_map_or (λ (port : PortSetup). sum_count port.first
    (count_by (is_at is_request node) (events network earlier)) i) (slave_at network node) 0
number_is network earlier _ = refl

pub known_is : (network : Network) (line : TraceLine) (earlier : Lines)
    → known_by network (site_at network earlier) line (length earlier) ≡ known_of network (line_place line earlier)
known_is network line earlier = λ i. record {
  line = length earlier;
  reading = unwrap_or line.reading 0;
  number = record { 0 = number_is network earlier line.event i };
  reads = reads_right network (line_place line earlier);
  last_sync = option_map line_number (last_line network is_sync (site_of line.event) earlier);
}

either_way : (network : Network) (line : TraceLine) (earlier : Lines) (n : ℕ) (here counted : Bool)
    → line_journey_of network earlier n ≡ option_and_then (journey_from network) (line_at network earlier n)
    → cond here (cond counted (line_journey_made network line.event (line_place line earlier) (line_journey_of network earlier))
    None) (line_journey_of network earlier n)
    ≡ option_and_then (journey_from network)
    (cond here (cond counted (Some (line_place line earlier)) None) (line_at network earlier n))
either_way network line earlier n true true h = refl
either_way network line earlier n true false h = refl
either_way network line earlier n false counted h = h

-- the journey of a copy is that of the line which made it
pub journey_of-line_at : (network : Network) (lines : Lines) (n : ℕ)
    → line_journey_of network lines n ≡ option_and_then (journey_from network) (line_at network lines n)
journey_of-line_at network [] n = refl
journey_of-line_at network (line ∷ earlier) n =
    either_way network line earlier n (eqb (length earlier) n) (counts network line)
    (journey_of-line_at network earlier n)

kept_journey_from : (network : Network) (o : Option LinePlace)
    → option_and_then (λ (fact : Fact). fact.journey) (option_map (fact_of network) o)
    ≡ option_map (kept_journey_of network) (option_and_then (journey_from network) o)
kept_journey_from network None = refl
kept_journey_from network (Some e) = refl

-- what is kept of a copy is its journey
pub kept_journey_at-is : (network : Network) (lines : Lines) (n : ℕ)
    → kept_journey_at (facts_at network lines) n ≡ option_map (kept_journey_of network) (line_journey_of network lines n)
kept_journey_at-is network lines n = kept_journey_from network (line_at network lines n)
    ∙ ap (λ (o : Option LineJourney). option_map (kept_journey_of network) o) (sym (journey_of-line_at network lines n))

-- the first line of a journey, where something of it isn't right
alone_line : (right : Bool) (found : Finding)
    → wrong_line right (line_met found) ≡ option_map line_met (option_or (broken right found) None)
alone_line right found =
    sym (ap (option_map line_met) (or_none (broken right found)) ∙ broken_line right found)

begun_is : (network : Network) (e : LinePlace)
    → written_journey (writes_right network e) (line_number e) (begun_by (known_of network e))
    ≡ kept_journey_of network (line_begun e)
begun_is network e =
    let reads = wrong_line (reads_right network e) (line_number e) in
    let set = option_map line_number (last_line network is_step (site e) e.earlier) in λ i. record {
      origin = line_number e;
      residence = 0;
      wrong = wrong_lines
          ((reading_in_is reads None
          ∙ alone_line (reads_right network e) (findings.WrongReading (line_number e) set)) i)
          (((λ k. option_or (octets_in_are reads None k) (wrong_line (writes_right network e) (line_number e)))
          ∙ alone_line (writes_right network e) (findings.OtherOctets (line_number e))) i);
    }

turned : (r s : ℕ) → r + s ≡ s + r
turned r s = omega arith

residence_more : (e entered : LinePlace) (j : LineJourney)
    → line_residence j + (reading e - reading entered) ≡ line_residence (with_stay e entered j)
residence_more e entered j =
    turned (line_residence j) (reading e - reading entered)
    ∙ sym (sum_by-cons line_stay_length (record { entered = entered; left = e }) j.stays)

stayed_is : (network : Network) (e entered : LinePlace) (j : LineJourney)
    → written_journey (writes_right network e) (line_number e)
    (stayed (known_of network e) (fact_of network entered) (kept_journey_of network j))
    ≡ kept_journey_of network (with_stay e entered j)
stayed_is network e entered j =
    let readings = option_map line_met (journey_readings network j) in
    let octets = option_map line_met (journey_octets network j) in
    let stay = stay_line (known_of network e) (fact_of network entered) in
    let reading : wrong_reading_in (wrong_lines
    (option_or (wrong_reading_in (wrong_lines readings octets)) stay) (wrong_octets_in (wrong_lines readings octets)))
    ≡ option_map line_met (journey_readings network (with_stay e entered j)) =
    reading_in_is (option_or (wrong_reading_in (wrong_lines readings octets)) stay) (wrong_octets_in (wrong_lines readings octets))
    ∙ (λ i. option_or (reading_in_is readings octets i) stay) ∙ reading-more network e entered j in
    let written : wrong_octets_in (wrong_lines
    (option_or (wrong_reading_in (wrong_lines readings octets)) stay) (wrong_octets_in (wrong_lines readings octets)))
    ≡ octets =
    octets_in_are (option_or (wrong_reading_in (wrong_lines readings octets)) stay) (wrong_octets_in (wrong_lines readings octets))
    ∙ octets_in_are readings octets in λ i. record {
      origin = line_number j.origin;
      residence = residence_more e entered j i;
      wrong = wrong_lines (reading i)
          (((λ k. option_or (written k) (wrong_line (writes_right network e) (line_number e)))
          ∙ octets-more network e entered j) i);
    }

module _ (network : Network) (e : LinePlace) where
  after_stay : (entered : LinePlace) (o : Option LineJourney)
      → option_map (written_journey (writes_right network e) (line_number e))
      (option_map (stayed (known_of network e) (fact_of network entered)) (option_map (kept_journey_of network) o))
      ≡ option_map (kept_journey_of network) (option_map (with_stay e entered) o)
  after_stay entered None = refl
  after_stay entered (Some j) = ap Some (stayed_is network e entered j)

  after_copy : (entered : LinePlace) (c : Option ℕ)
      → option_map (written_journey (writes_right network e) (line_number e))
      (option_and_then (λ copy. option_map (stayed (known_of network e) (fact_of network entered))
      (kept_journey_at (facts_at network e.earlier) copy)) c)
      ≡ option_map (kept_journey_of network)
      (option_and_then (λ copy. option_map (with_stay e entered) (line_journey_of network e.earlier copy)) c)
  after_copy entered None = refl
  after_copy entered (Some copy) =
      ap (λ (o : Option KeptJourney). option_map (written_journey (writes_right network e) (line_number e))
      (option_map (stayed (known_of network e) (fact_of network entered)) o)) (kept_journey_at-is network e.earlier copy)
      ∙ after_stay entered (line_journey_of network e.earlier copy)

  after_entered : (node : NodeName) (o : Option LinePlace)
      → option_map (written_journey (writes_right network e) (line_number e))
      (option_and_then (left_by (facts_at network e.earlier) node (known_of network e))
      (option_map (fact_of network) o))
      ≡ option_map (kept_journey_of network) (option_and_then (line_left_from node e (line_journey_of network e.earlier)) o)
  after_entered node None = refl
  after_entered node (Some entered) = after_copy entered (copy_entered node entered)

  -- the journey that is kept of the copy that a line made
  pub kept_journey_is : (event : Event)
      → option_map (written_journey (writes_right network e) (line_number e))
      (kept_journey_by (facts_at network e.earlier) (known_of network e) event)
      ≡ option_map (kept_journey_of network) (line_journey_made network event e (line_journey_of network e.earlier))
  kept_journey_is (Sync node at) = ap Some (begun_is network e)
  kept_journey_is (SyncOne node at) = ap Some (begun_is network e)
  kept_journey_is (Leave node transit at) = after_entered node (line_at network e.earlier transit)
  kept_journey_is (Request node at) = ap Some (begun_is network e)
  kept_journey_is _ = refl
