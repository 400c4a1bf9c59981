-- The first message of an exchange whose octets tell otherwise, by what is kept and noted, is the one that the lines say.
use Rattle.std.proofs.Common.{◌≡◌, ◌∙◌, ℕ, ◌+◌, ◌-◌, true, ◌∷◌, [], length, Option, Some, None, refl, sym, ap, arith}
use Rattle.std.specs.Prelude.{option_map, option_and_then}
use Rattle.std.specs.Option.{option_or}
use Rattle.std.specs.BTreeMap.{get}
use Rattle.std.specs.Ordering.{nat_cmp}
use Rattle.std.proofs.lemmas.Option.{none-some, same_Some}
use Rattle.slave_port.specs.declared.heard.Report.{Report}
use Rattle.network_model.specs.declared.event.Event.{Event}
use Rattle.network_model.specs.declared.event.Event.TheVariants.{Follow, Arrive}
use Rattle.network_model.specs.Network.{Network, NodeName}
use Rattle.network_model.specs.Kinds.{draws_sync, is_follow, is_request, is_arrival, is_hearing}
use Rattle.trace_model.specs.declared.finding.Finding.{Finding}
use Rattle.trace_model.specs.declared.finding.Finding.TheVariants as findings
use Rattle.trace_model.specs.declared.line.TraceLine.{TraceLine}
use Rattle.trace_model.specs.Line.{Lines, counts}
use Rattle.trace_model.specs.Record.{LinePlace, line_place, line_number, event_of, line_at}
use Rattle.trace_model.specs.Journey.{LineJourney, line_journey_of, line_journey_made}
use Rattle.trace_model.specs.Sound.{Exchange as Lined, line_of, sender, follow_line, follow_lines, sync_line, arrival_line}
use Rattle.trace_model.specs.Sound.{unbroken}
use Rattle.trace_model.proofs.OctetsOfExchanges.{passed, heard_of}
use Rattle.exchange_check.specs.declared.exceptions.Exceptions.{Exceptions}
use Rattle.exchange_check.specs.declared.facts.Fact.{Fact}
use Rattle.exchange_check.specs.declared.kept.Kept.{Kept}
use Rattle.exchange_check.specs.Evidence.{noted, told_by, otherwise_finding, journey_otherwise, made_otherwise}
use Rattle.exchange_check.specs.Evidence.{exchange_otherwise, first_otherwise_at, last_otherwise}
use Rattle.exchange_check.specs.Inner.Found.{of_found}
use Rattle.exchange_check.specs.Inner.Machine.{IsKept, machine, facts_of, stamps_of}
use Rattle.exchange_check.specs.Inner.Noting.{mapped}
use Rattle.exchange_check.specs.Inner.Otherwise.{copy_in, exchange_otherwise_by, otherwise_by}
use Rattle.exchange_check.specs.Inner.Stays.{last_stays}
use Rattle.copy_stays.specs.Leaves.{once_of}
use Rattle.copy_stays.specs.Stays.{once_in}
use Rattle.exchange_check.proofs.Bounds.{chain_parts}
use Rattle.exchange_check.proofs.Exchanges.{found_of}
use Rattle.exchange_check.proofs.FindingTold.{placed}
use Rattle.exchange_check.proofs.FirstOtherwise.{of_made}
use Rattle.exchange_check.proofs.Inside.{facts-kept, once-kept, stamps-kept}
use Rattle.exchange_check.proofs.Noted.{leaves_at, stamps_at}
use Rattle.exchange_check.proofs.Options.{or_none}
use Rattle.exchange_check.proofs.OfExchange.{journeys-there, last_if}
use Rattle.exchange_check.proofs.Standing.{slave, all_lines}
use Rattle.exchange_check.proofs.Telling.{Arrives, arrives}
use Rattle.exchange_check.proofs.Told.{fact_of, facts_at, journey_from}

-- neither a Follow_Up nor a Delay_Resp has a journey
follow_alone : (network : Network) (e : LinePlace) (journeys : ℕ → Option LineJourney) (event : Event)
    → is_follow event ≡ true → line_journey_made network event e journeys ≡ None
follow_alone network e journeys (Follow node) h = refl
follow_alone network e journeys _ h = cc

arrival_alone : (network : Network) (e : LinePlace) (journeys : ℕ → Option LineJourney) (event : Event)
    → is_arrival event ≡ true → line_journey_made network event e journeys ≡ None
arrival_alone network e journeys (Arrive node copy at) h = refl
arrival_alone network e journeys _ h = cc

module _ (network : Network) (fed : Lines) where
  abbrev firsts : ℕ → Option Finding
  firsts = first_otherwise_at network fed

  alone : (e : LinePlace) → line_at network fed (line_number e) ≡ Some e → journey_from network e ≡ None
      → firsts (line_number e) ≡ otherwise_finding network e
  alone e there none =
      ap (option_and_then (λ (x : LinePlace). made_otherwise network x (journey_from network x))) there
      ∙ ap (made_otherwise network e) none

  follow_at : (at : NodeName) (tag : Option ℕ) (f : Option LinePlace) → follow_lines network fed at tag ≡ Some f
      → option_and_then (λ (fact : Fact). firsts fact.line) (option_map (fact_of network) f)
      ≡ option_and_then (otherwise_finding network) f
  follow_at at tag None is = refl
  follow_at at None (Some f) is = absurd (none-some f (same_Some None (Some f) is))
  follow_at at (Some hearing) (Some f) is =
      by (follow_line network fed at hearing) refl is
    where
      by : (o : Option LinePlace) → follow_line network fed at hearing ≡ o → option_map Some o ≡ Some (Some f)
          → firsts (line_number f) ≡ otherwise_finding network f
      by None found h = absurd (none-some (Some f) h)
      by (Some k) found h =
          let same : Some k ≡ Some f = same_Some (Some k) (Some f) h in
          let heard = passed (λ (x : LinePlace). is_follow (event_of x))
          (option_and_then (sender network fed) (line_of network fed is_hearing at hearing)) (found ∙ same) in
          alone f (heard_of network fed (line_of network fed is_hearing at hearing) f heard.0)
          (follow_alone network f (line_journey_of network f.earlier) (event_of f) heard.1)

module _ (network : Network) (line : TraceLine) (earlier : Lines) (report : Report) where
  abbrev e : LinePlace
  e = line_place line earlier

  abbrev fed : Lines
  fed = line ∷ earlier

  abbrev at : NodeName
  at = slave network line earlier

  module _ (counted : counts network line ≡ true) where
    copy_is : (arrival : LinePlace) (journey : LineJourney) → Arrives network line earlier counted arrival journey
        → copy_in (first_otherwise_at network fed) (fact_of network arrival) ≡ journey_otherwise network journey
    copy_is arrival journey found = ap (option_and_then (first_otherwise_at network fed)) found.1
        ∙ of_made network fed found.0 journey found.2

    same : (x : Lined) → all_lines network line earlier report ≡ Some x → (s r : LineJourney)
        → unbroken network e draws_sync x.sync_arrival ≡ Some s → unbroken network e is_request x.request_arrival ≡ Some r
        → exchange_otherwise_by (first_otherwise_at network fed) (found_of network x) ≡ exchange_otherwise network x s r
    same x found s r p q =
        let parts = chain_parts network fed (sync_line network fed at report)
        (follow_lines network fed at report.follow_tag)
        (line_of network fed is_request at report.request_tag)
        (arrival_line network fed at report.response_tag) x found in
        let there = placed network report line earlier x found in
        (λ i. option_or (copy_is x.sync_arrival s (arrives network line earlier counted draws_sync x.sync_arrival s p) i)
        (option_or (follow_at network fed at report.follow_tag x.follow parts.2 i)
        (option_or (copy_is x.request_arrival r (arrives network line earlier counted is_request x.request_arrival r q) i)
        (alone network fed x.request_arrival there.request
        (arrival_alone network x.request_arrival (line_journey_of network x.request_arrival.earlier)
        (event_of x.request_arrival) there.request_arrives) i))))
        ∙ (λ i. option_or (journey_otherwise network s) (option_or (option_and_then (otherwise_finding network) x.follow)
        (option_or (journey_otherwise network r) (sym (or_none (otherwise_finding network x.request_arrival)) i))))

  pub otherwise-there : (number : ℕ) → number + 1 ≡ length fed
      → otherwise_by (facts_at network fed) (once_of (last_stays (facts_at network fed)) (leaves_at network fed))
      (stamps_at network fed) (first_otherwise_at network fed) number report ≡ last_otherwise network fed report
  otherwise-there number h =
      let last : number ≡ length earlier = omega (arith, h) in
      ap (λ (n : ℕ). otherwise_by (facts_at network fed)
      (once_of (last_stays (facts_at network fed)) (leaves_at network fed)) (stamps_at network fed)
      (first_otherwise_at network fed) n report) last
      ∙ last_if network report
      (λ e x. option_and_then (λ sync. option_and_then (exchange_otherwise network x sync)
      (unbroken network e is_request x.request_arrival)) (unbroken network e draws_sync x.sync_arrival))
      (λ fact. of_found (facts_at network fed) (once_of (last_stays (facts_at network fed)) (leaves_at network fed))
      (λ told sync request. exchange_otherwise_by (first_otherwise_at network fed) told)) line earlier (counts network line) refl
      (λ counted. journeys-there network line earlier report counted
      (λ told sync request. exchange_otherwise_by (first_otherwise_at network fed) told)
      (exchange_otherwise network)
      (λ x found quiet s r p q. same counted x found s r p q))

module _ (network : Network) (report : Report) (fed : Lines) (kept : Kept)
    (h : IsKept network kept (length fed) (machine network fed)) (exceptions : Exceptions)
    (evidence : told_by exceptions ≡ noted network fed) (number : ℕ)
    (number_is : number ≡ length kept.facts.items - 1) where
  at_last : (l : Lines) → length kept.facts.items ≡ length l
      → otherwise_by (facts_at network l) (once_of (last_stays (facts_at network l)) (leaves_at network l))
      (stamps_at network l) (first_otherwise_at network l) number report ≡ last_otherwise network l report
  at_last [] n = refl
  at_last (line ∷ earlier) n = otherwise-there network line earlier report number (omega (arith, n, number_is))

  pub otherwise-told : otherwise_by (facts_of kept) (once_in kept.stays) (stamps_of kept)
      (mapped findings.OtherOctets (get nat_cmp exceptions.first_otherwise)) number report
      ≡ last_otherwise network fed report
  otherwise-told =
      (λ i. otherwise_by (facts-kept network fed kept h i) (once-kept network fed kept h i)
      (stamps-kept network fed kept h i) (evidence i).first_otherwise number report)
      ∙ at_last fed h.count_is
