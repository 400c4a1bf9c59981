-- What is found of an exchange and its journeys by what is kept and noted is what is found by the lines.
use Rattle.std.proofs.Common.{◌≡◌, ◌∙◌, ℕ, Bool, true, false, ◌&&◌, ◌∷◌, Option, Some, None, refl, sym, ap}
use Rattle.std.proofs.Common.{is_some, cond, eqb}
use Rattle.std.specs.Prelude.{option_map, option_and_then}
use Rattle.std.specs.Option.{option_or, option_map_or}
use Rattle.slave_port.specs.declared.heard.Report.{Report}
use Rattle.network_model.specs.declared.event.Event.{Event}
use Rattle.network_model.specs.declared.event.Event.TheVariants.{Arrive}
use Rattle.network_model.specs.Network.{Network, NodeName, is_named}
use Rattle.network_model.specs.Run.{site_of, true_moment}
use Rattle.network_model.specs.Kinds.{draws_sync, is_request, is_arrival, is_set_master, named_master}
use Rattle.network_model.specs.Truth.{master_at, slave_at}
use Rattle.trace_model.specs.declared.finding.Finding.TheVariants as findings
use Rattle.trace_model.specs.declared.finding.Part.TheVariants as parts
use Rattle.trace_model.specs.declared.line.TraceLine.{TraceLine}
use Rattle.trace_model.specs.Line.{Lines, counts}
use Rattle.trace_model.specs.Record.{LinePlace, line_place, line_number, event_of, site, line_at, last_line, reads_right}
use Rattle.trace_model.specs.Octets.{writes_right}
use Rattle.trace_model.specs.Journey.{LineJourney}
use Rattle.trace_model.specs.Finding.{broken, follow_finding, pair_finding, early_finding, told_finding, master_finding}
use Rattle.trace_model.specs.Finding.{reading_finding, stay_finding, stays_finding, readings_finding, size_finding}
use Rattle.trace_model.specs.Finding.{octets_finding, follow_octets, all_octets_finding}
use Rattle.trace_model.specs.Sound.{Exchange as Lined, unbroken, are_results, is_domain, fits}
use Rattle.trace_model.proofs.Lines.{last_is, last_more}
use Rattle.exchange_check.specs.Evidence.{wrong_reading_at}
use Rattle.exchange_check.specs.Inner.Finding.{follow_finding_by, pair_finding_by, told_finding_by, master_finding_by}
use Rattle.exchange_check.specs.Inner.Finding.{readings_finding_by, size_finding_by, value_finding_by, follow_line_by}
use Rattle.exchange_check.specs.Inner.Finding.{octets_finding_by}
use Rattle.exchange_check.proofs.Exchanges.{found_of, found_journey_of}
use Rattle.exchange_check.proofs.Noted.{site_at, told_master}
use Rattle.exchange_check.proofs.Options.{or_none, map_four}
use Rattle.exchange_check.proofs.ReadingsMet.{met-is, IsMet, or_met, reading-met, journey-met}
use Rattle.exchange_check.proofs.Standing.{followed_line}
use Rattle.exchange_check.proofs.Telling.{IsSilent, arrives}
use Rattle.exchange_check.proofs.Told.{fact_of, facts_at}
use Rattle.exchange_check.proofs.WrongLines.{reading_in_is, octets_in_are, line_met, broken_line, journey_readings}
use Rattle.exchange_check.proofs.WrongLines.{journey_octets, reading_of, ByLine, or_by_line, octets_by_line, journey_by_line}

-- options

six : {X : Type 0} (a o l b p k : Option X)
    → option_or (option_or (option_or a (option_or o l)) b) (option_or p k)
    ≡ option_or a (option_or o (option_or l (option_or b (option_or p (option_or k None)))))
six (Some x) o l b p k = refl
six None (Some x) l b p k = refl
six None None (Some x) b p k = refl
six None None None (Some x) p k = refl
six None None None None (Some x) k = refl
six None None None None None k = sym (or_none k)

octets_six : {X : Type 0} (o l f p k a : Option X)
    → option_or (option_or (option_or (option_or o l) f) (option_or p k)) a
    ≡ option_or o (option_or l (option_or f (option_or p (option_or k (option_or a None)))))
octets_six (Some x) l f p k a = refl
octets_six None (Some x) f p k a = refl
octets_six None None (Some x) p k a = refl
octets_six None None None (Some x) k a = refl
octets_six None None None None (Some x) a = refl
octets_six None None None None None a = sym (or_none a)

module _ (network : Network) where
  -- 702
  follow-found : (follow : Option LinePlace) (origin : LinePlace)
      → follow_finding_by (option_map (fact_of network) follow) (fact_of network origin)
      ≡ follow_finding network follow origin
  follow-found None origin = refl
  follow-found (Some follow) origin = refl

  pub pair-found : (x : Lined) (s r : LineJourney)
      → pair_finding_by (found_of network x) (found_journey_of network s) (found_journey_of network r)
      ≡ pair_finding network x s r
  pair-found x s r = λ i. option_or
      (broken (followed_line network x.follow s.origin i) (follow-found x.follow s.origin i))
      (sym (or_none (broken (eqb (line_number r.origin) (line_number x.request))
      (findings.OtherRequest (line_number r.origin)))) i)

  -- 706 and 707
  pub size-found : (s r : LineJourney)
      → size_finding_by (found_journey_of network s) (found_journey_of network r) ≡ size_finding s r
  size-found s r = λ i. option_or (broken (fits s) (findings.TooLong parts.Sync))
      (sym (or_none (broken (fits r) (findings.TooLong parts.DelayReq))) i)

  pub value-found : (report : Report) (x : Lined) (s r : LineJourney)
      → value_finding_by report (found_of network x) (found_journey_of network s) (found_journey_of network r)
      ≡ broken (are_results report x s r) findings.OtherResults
  value-found report x s r = refl

  -- 708
  follow_is : (follow : Option LinePlace)
      → follow_line_by (option_map (fact_of network) follow) ≡ option_map line_met (follow_octets network follow)
  follow_is None = refl
  follow_is (Some follow) =
      sym (broken_line (writes_right network follow) (findings.OtherOctets (line_number follow)))

  follow_by_line : (follow : Option LinePlace) → ByLine network (follow_octets network follow)
  follow_by_line None = refl
  follow_by_line (Some follow) = octets_by_line network follow

  pub octets-found : (x : Lined) (s r : LineJourney)
      → octets_finding_by (found_of network x) (found_journey_of network s) (found_journey_of network r)
      ≡ all_octets_finding network x s r
  octets-found x s r =
      let sync = journey_octets network s in
      let follow = follow_octets network x.follow in
      let request = journey_octets network r in
      let answer = octets_finding network x.request_arrival in
      ap (option_map findings.OtherOctets) ((λ i. option_or (option_or (option_or
      (octets_in_are (option_map line_met (journey_readings network s)) (option_map line_met sync) i)
      (follow_is x.follow i))
      (octets_in_are (option_map line_met (journey_readings network r)) (option_map line_met request) i))
      (sym (broken_line (writes_right network x.request_arrival)
      (findings.OtherOctets (line_number x.request_arrival))) i))
      ∙ map_four line_met sync follow request answer)
      ∙ or_by_line network (option_or (option_or sync follow) request) answer
      (or_by_line network (option_or sync follow) request
      (or_by_line network sync follow (journey_by_line network s) (follow_by_line x.follow)) (journey_by_line network r))
      (octets_by_line network x.request_arrival)
      ∙ octets_six (octets_finding network s.origin) (stays_finding (λ t. octets_finding network t.left) s.stays)
      follow (octets_finding network r.origin) (stays_finding (λ t. octets_finding network t.left) r.stays) answer

-- 703
set_told : (master : NodeName) (report : Report) (n : ℕ) (named : Option NodeName) → is_some named ≡ true
    → told_finding_by (option_map (λ (name : NodeName). (name, n)) named) master report
    ≡ option_or (broken (option_map_or (λ (name : NodeName). is_named name master) named false) (findings.ToldOther n))
    (option_or (early_finding n report) None)
set_told master report n None h = cc
set_told master report n (Some name) h =
    ap (option_or (broken (is_named name master) (findings.ToldOther n))) (sym (or_none (early_finding n report)))

told_at : (master : NodeName) (report : Report) (o : Option LinePlace)
    → ((k : LinePlace) → o ≡ Some k → is_set_master (event_of k) ≡ true)
    → told_finding_by (option_and_then (λ (k : LinePlace). told_master (event_of k) (line_number k)) o) master report
    ≡ told_finding master report o
told_at master report None each = refl
told_at master report (Some k) each =
    set_told master report (line_number k) (named_master (event_of k)) (each k refl)

pub left_holds : (a b : Bool) → (a && b) ≡ true → a ≡ true
left_holds true b h = refl
left_holds false b h = h

arrival_timed : (event : Event) → is_arrival event ≡ true → is_some (true_moment event) ≡ true
arrival_timed (Arrive node copy at) h = refl
arrival_timed _ h = cc

module _ (network : Network) (line : TraceLine) (earlier : Lines) (counted : counts network line ≡ true) where
  abbrev e : LinePlace
  e = line_place line earlier

  abbrev fed : Lines
  fed = line ∷ earlier

  module _ (report : Report) (x : Lined) (quiet : IsSilent line.event) (s : LineJourney) where
    abbrev at : NodeName
    at = site_of line.event

    set_same : (site_at network fed at).set_master ≡ option_and_then
        (λ (k : LinePlace). told_master (event_of k) (line_number k)) (last_line network is_set_master at earlier)
    set_same = ap (λ (o : Option LinePlace). option_and_then
        (λ (k : LinePlace). told_master (event_of k) (line_number k)) o)
        (last_more network is_set_master at line earlier true counted
        ∙ (λ i. cond (quiet.0.1 i && is_named at at) (Some e) (last_line network is_set_master at earlier)))

    pub master-found : master_finding_by network (site_at network fed at) at report (found_of network x)
        (found_journey_of network s) ≡ master_finding network at e report x s
    master-found =
        (λ i. option_or (told_finding_by (set_same i) (site s.origin) report)
        (option_or
        (broken (is_named (site x.request_arrival) (site s.origin)) (findings.OtherAnswers (line_number x.request_arrival)))
        (broken (is_domain (slave_at network at) (master_at network (site s.origin))) findings.OtherDomain)))
        ∙ (λ i. option_or (told_at (site s.origin) report (last_line network is_set_master at earlier)
        (λ k is. left_holds (is_set_master (event_of k)) _ (last_is network is_set_master at earlier k is).1) i)
        (option_or
        (broken (is_named (site x.request_arrival) (site s.origin)) (findings.OtherAnswers (line_number x.request_arrival)))
        (sym (or_none (broken (is_domain (slave_at network at) (master_at network (site s.origin))) findings.OtherDomain)) i)))

  -- 705
  module _ (x : Lined) (s r : LineJourney) (p : unbroken network e draws_sync x.sync_arrival ≡ Some s)
      (q : unbroken network e is_request x.request_arrival ≡ Some r) where
    arrival_met : (arrival : LinePlace) → line_at network fed (line_number arrival) ≡ Some arrival
        → is_arrival (event_of arrival) ≡ true → IsMet network fed (reading_finding network arrival)
    arrival_met arrival there is = reading-met network fed arrival there (arrival_timed (event_of arrival) is)

    way_met : (kind : Event → Bool) (arrival : LinePlace) (journey : LineJourney)
        → unbroken network e kind arrival ≡ Some journey → IsMet network fed (journey_readings network journey)
    way_met kind arrival journey is =
        let found = arrives network line earlier counted kind arrival journey is in
        journey-met network fed _ journey found.2

    pub readings-found : line_at network fed (line_number x.sync_arrival) ≡ Some x.sync_arrival
        → is_arrival (event_of x.sync_arrival) ≡ true
        → line_at network fed (line_number x.request_arrival) ≡ Some x.request_arrival
        → is_arrival (event_of x.request_arrival) ≡ true
        → readings_finding_by (facts_at network fed) (wrong_reading_at network fed) (found_of network x)
        (found_journey_of network s) (found_journey_of network r)
        ≡ readings_finding network x s r
    readings-found there is other other_is =
        let a = reading_finding network x.sync_arrival in
        let sync = journey_readings network s in
        let b = reading_finding network x.request_arrival in
        let request = journey_readings network r in
        (λ i. option_and_then (met-is network fed i) ((
        (λ k. option_or (option_or (option_or
        (sym (broken_line (reads_right network x.sync_arrival) (reading_of network x.sync_arrival)) k)
        (reading_in_is (option_map line_met sync) (option_map line_met (journey_octets network s)) k))
        (sym (broken_line (reads_right network x.request_arrival) (reading_of network x.request_arrival)) k))
        (reading_in_is (option_map line_met request) (option_map line_met (journey_octets network r)) k))
        ∙ map_four line_met a sync b request) i))
        ∙ or_met network fed (option_or (option_or a sync) b) request
        (or_met network fed (option_or a sync) b
        (or_met network fed a sync (arrival_met x.sync_arrival there is) (way_met draws_sync x.sync_arrival s p))
        (arrival_met x.request_arrival other other_is)) (way_met is_request x.request_arrival r q)
        ∙ six a (reading_finding network s.origin) (stays_finding (stay_finding network) s.stays) b
        (reading_finding network r.origin) (stays_finding (stay_finding network) r.stays)
