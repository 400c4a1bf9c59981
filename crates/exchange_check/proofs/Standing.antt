-- What is kept after lines is what the lines say, and so is the verdict.
use Rattle.std.proofs.Common.{◌≡◌, ◌∙◌, ℕ, suc, ◌<◌, ◌≤◌, Bool, true, false, ◌&&◌, cond}
use Rattle.std.proofs.Common.{eqb, slice_get, [], ◌∷◌, length, Option, Some, None, Result, Ok, Err, refl, sym, ap, arith}
use Rattle.std.specs.Prelude.{option_map, option_and_then, nat_lt}
use Rattle.std.specs.Option.{option_map_or}
use Rattle.std.specs.Result.{result_ok}
use Rattle.std.proofs.lemmas.Bool.{ltb-true}
use Rattle.std.proofs.lemmas.Bool.Decides.{nat_tests}
use Rattle.slave_port.specs.declared.heard.Report.{Report}
use Rattle.network_model.specs.declared.event.Event.{Event}
use Rattle.network_model.specs.Network.{Network, NodeName, is_named}
use Rattle.network_model.specs.Run.{site_of}
use Rattle.network_model.specs.Kinds.{is_sync, draws_sync, is_request, is_set_master, named_master, heard_copy}
use Rattle.network_model.specs.Truth.{master_at, slave_at}
use Rattle.trace_model.specs.declared.line.TraceLine.{TraceLine}
use Rattle.trace_model.specs.declared.judgement.Judgement.{Judgement}
use Rattle.trace_model.specs.declared.verdict.Why.TheVariants.{NoSuchLine, OtherNumber, OtherMaster, BrokenJourney}
use Rattle.trace_model.specs.declared.verdict.Why.TheVariants.{WrongReading, WrongValue, TooBig, Bytes}
use Rattle.trace_model.specs.Line.{Lines, counts}
use Rattle.trace_model.specs.Record.{LinePlace, line_place, line_number, event_of, site, events, last_line, reads_right}
use Rattle.trace_model.specs.Octets.{writes_right}
use Rattle.trace_model.specs.Journey.{LineJourney, line_journey_of, left_once}
use Rattle.trace_model.specs.Sound.{where_passes, below, Exchange, line_of, sync_line}
use Rattle.trace_model.specs.Sound.{follow_lines, arrival_line, is_of_line, is_stamped_between, unbroken, is_followed}
use Rattle.trace_model.specs.Sound.{are_paired, are_later, is_domain, is_of_master, are_readings, fits}
use Rattle.trace_model.specs.Sound.{results_of, are_results, are_octets, Conditions, needs, failing, reason, judgement}
use Rattle.exchange_check.specs.declared.facts.FoundJourney.{FoundJourney}
use Rattle.exchange_check.specs.declared.ways.Unfollowed.{Unfollowed}
use Rattle.exchange_check.specs.declared.ways.Unfollowed.TheVariants.{Stops, LeftTwice}
use Rattle.trace_model.specs.declared.finding.Lack.TheVariants.{NotBefore, OtherEvent}
use Rattle.exchange_check.specs.Inner.Kept.{Facts}
use Rattle.exchange_check.specs.Inner.Judged.{line_of_by, sync_by, follows_by, arrival_by, found_journey_at}
use Rattle.exchange_check.specs.Inner.Judged.{followed_from, followed_heard, found_journey_to, is_told}
use Rattle.exchange_check.specs.Inner.Judged.{both_journeys, found_judgement, judgement_by}
use Rattle.exchange_check.proofs.Noted.{site_at, leaves_at, firsts_at, stamps_at, told_master}
use Rattle.exchange_check.proofs.Told.{fact_of, facts_at}
use Rattle.exchange_check.proofs.WrongLines.{line_met, journey_readings, journey_octets, reads-so, writes-so}
use Rattle.exchange_check.proofs.Following.{once_is, followed_is}
use Rattle.trace_model.specs.declared.verdict.Verdict.{Verdict}
use Rattle.trace_model.specs.declared.verdict.Verdict.TheVariants.{Accepted, Refused}
use Rattle.exchange_check.specs.Inner.Judged.{is_followed_by}
use Rattle.copy_stays.specs.Leaves.{Once, once_of}
use Rattle.exchange_check.specs.Inner.Stays.{last_stays}
use Rattle.exchange_check.specs.Inner.Kept.{fact_by}
use Rattle.exchange_check.specs.Inner.Machine.{Machine, machine, with_fact, sites_told, leaves_told, firsts_told}
use Rattle.exchange_check.specs.Inner.Machine.{stamps_told}
use Rattle.exchange_check.specs.Inner.Machine.{line_judgement_by, with_judgement, judgement_after}
use Rattle.trace_model.specs.Verdict.{verdict, with_line, one_more, report_in, line_judgement}
use Rattle.exchange_check.proofs.Noted.{sites-line, leaves-line, firsts-line, stamps-line}
use Rattle.exchange_check.proofs.FactLines.{fact_by-is, facts-line}
use Rattle.exchange_check.proofs.Bounds.{sync_within, arrival_within, chain_parts}
use Rattle.std.proofs.lemmas.Option.{none-some}
use Rattle.exchange_check.proofs.Exchanges.{found_of, found_journey_of, line_of_is, sync_is, follows_is, arrival_is}
use Rattle.exchange_check.proofs.Exchanges.{chain, line_chain, chained, if_found, found_journey_is}

last_number : (o : Option LinePlace) (n : ℕ)
    → option_map_or (λ last. eqb last n) (option_map line_number o) false
    ≡ option_map_or (λ last. eqb (line_number last) n) o false
last_number None n = refl
last_number (Some e) n = refl

pub followed_line : (network : Network) (follow : Option LinePlace) (origin : LinePlace)
    → is_followed_by (option_map (fact_of network) follow) (fact_of network origin) ≡ is_followed network follow origin
followed_line network None origin = refl
followed_line network (Some follow) origin =
    last_number (last_line network is_sync (site follow) follow.earlier) (line_number origin)

told_named : (m : Option NodeName) (n : ℕ) (master : NodeName) (report : Report)
    → is_told (option_map (λ name. (name, n)) m) master report
    ≡ (option_map_or (λ named. is_named named master) m false && are_later n report)
told_named None n master report = refl
told_named (Some name) n master report = refl

told_is : (o : Option LinePlace) (master : NodeName) (report : Report)
    → is_told (option_and_then (λ x. told_master (event_of x) (line_number x)) o) master report
    ≡ option_map_or (λ set. option_map_or (λ named. is_named named master) (named_master (event_of set)) false
    && are_later (line_number set) report) o false
told_is None master report = refl
told_is (Some x) master report = told_named (named_master (event_of x)) (line_number x) master report

follow_octets : (network : Network) (o : Option LinePlace)
    → option_map_or (λ fact. fact.writes_right) (option_map (fact_of network) o) true
    ≡ option_map_or (writes_right network) o true
follow_octets network None = refl
follow_octets network (Some follow) = refl

module _ (network : Network) (line : TraceLine) (earlier : Lines) where
  abbrev pub e : LinePlace
  e = line_place line earlier

  abbrev pub facts : Facts
  facts = facts_at network (line ∷ earlier)

  abbrev pub once : Once
  once = once_of (last_stays (facts_at network earlier)) (leaves_at network earlier)

  abbrev pub slave : NodeName
  slave = site_of line.event

  -- a journey that begins at a line of its kind, and whose stays were left once
  abbrev tested : (by copy : ℕ) (begun once : Bool) → LineJourney → Result FoundJourney Unfollowed
  tested by copy begun once j = cond begun (cond once (Ok (found_journey_of network j)) (Err (LeftTwice copy)))
      (Err (Stops by (OtherEvent (line_number j.origin))))

  if_once : (by copy : ℕ) (b : Bool) (j : LineJourney) → result_ok (tested by copy true b j)
      ≡ option_map (found_journey_of network) (cond b (Some j) None)
  if_once by copy true j = refl
  if_once by copy false j = refl

  two_tests : (by copy : ℕ) (a : Bool) (j : LineJourney)
      → result_ok (tested by copy a (left_once (events network earlier) j) j)
      ≡ option_map (found_journey_of network) (where_passes (left_once (events network earlier)) (cond a (Some j) None))
  two_tests by copy true j = if_once by copy (left_once (events network earlier) j) j
  two_tests by copy false j = refl

  -- whether each stay of a copy's journey was left once, as what is kept says it
  abbrev pub IsFollowed : Once → Type 0
  IsFollowed kept_once = (copy : ℕ) (j : LineJourney) → line_journey_of network earlier copy ≡ Some j
      → kept_once copy ≡ left_once (events network earlier) j

  pub followed : IsFollowed once
  followed copy j h = followed_is network (facts_at network earlier) (leaves_at network earlier)
      (events network earlier) (once_is network earlier) earlier copy j
      (λ n x there. ap (λ (o : Option LinePlace). option_map (fact_of network) o) there) h (suc copy) (omega arith)

  before_here : (copy limit : ℕ) → copy < limit → limit ≤ length earlier
      → line_journey_of network earlier copy ≡ line_journey_of network (line ∷ earlier) copy
  before_here copy limit within fits = grind (arith, nat_tests)

  module _ (kept_once : Once) (follows : IsFollowed kept_once) where
    found_journey_found : (kind : Event → Bool) (by copy : ℕ) (o : Option LineJourney)
        → line_journey_of network earlier copy ≡ o
        → result_ok (followed_from kept_once kind by copy (option_map (found_journey_of network) o))
        ≡ option_map (found_journey_of network)
        (where_passes (left_once (events network earlier))
        (where_passes (λ journey. kind (event_of journey.origin)) o))
    found_journey_found kind by copy None h = refl
    found_journey_found kind by copy (Some j) h =
        (λ i. result_ok (tested by copy (kind (event_of j.origin)) (follows copy j h i) j))
        ∙ two_tests by copy (kind (event_of j.origin)) j

    found_journey_below : (kind : Event → Bool) (by copy : ℕ) (b : Bool) → by ≤ length earlier
        → nat_lt copy by ≡ b
        → result_ok (cond b (followed_from kept_once kind by copy (found_journey_at facts copy))
        (Err (Stops by (NotBefore copy))))
        ≡ option_map (found_journey_of network)
        (where_passes (left_once (events network earlier))
        (where_passes (λ journey. kind (event_of journey.origin))
        (cond b (line_journey_of network (line ∷ earlier) copy) None)))
    found_journey_below kind by copy true fits h =
        ap (λ (o : Option FoundJourney). result_ok (followed_from kept_once kind by copy o))
        (found_journey_is network (line ∷ earlier) copy)
        ∙ found_journey_found kind by copy (line_journey_of network (line ∷ earlier) copy)
        (before_here copy by (ltb-true copy by h) fits)
    found_journey_below kind by copy false fits h = refl

    found_journey_heard : (kind : Event → Bool) (limit : ℕ) (o : Option ℕ) → limit ≤ length earlier
        → result_ok (followed_heard facts kept_once kind limit o)
        ≡ option_map (found_journey_of network)
        (where_passes (left_once (events network earlier))
        (where_passes (λ journey. kind (event_of journey.origin))
        (option_and_then (below (line_journey_of network (line ∷ earlier)) limit) o)))
    found_journey_heard kind limit None fits = refl
    found_journey_heard kind limit (Some copy) fits = found_journey_below kind limit copy (nat_lt copy limit) fits refl

    pub found_journey_to_is : (kind : Event → Bool) (x : LinePlace) → line_number x ≤ length earlier
        → found_journey_to facts kept_once kind (fact_of network x)
        ≡ option_map (found_journey_of network) (unbroken network e kind x)
    found_journey_to_is kind x fits = found_journey_heard kind (line_number x) (heard_copy (event_of x)) fits

  module _ (report : Report) where
    -- the conditions on an exchange and its journeys
    abbrev asked : Exchange → (s r : LineJourney) → Conditions
    asked x s r =
        (OtherNumber, are_paired network x s r)
        ∷ (OtherMaster, is_of_master network slave e report x s)
        ∷ (WrongReading, are_readings network x s r)
        ∷ (TooBig, fits s && fits r)
        ∷ (WrongValue, are_results report x s r)
        ∷ (Bytes, are_octets network x s r) ∷ []

    -- what a report is judged to be after the lines of an exchange were found, and its journeys
    abbrev with_journeys : Exchange → (s r : Option LineJourney) → Judgement
    with_journeys x s r = record {
      reasons = failing (needs BrokenJourney s (λ s. needs BrokenJourney r (asked x s)));
      by_readings = option_and_then (λ s. option_map (results_of x s) r) s;
    }

    abbrev with_exchange : Option Exchange → Judgement
    with_exchange x = record {
      reasons = failing (needs NoSuchLine x (λ x.
          needs BrokenJourney (unbroken network e draws_sync x.sync_arrival) (λ s.
          needs BrokenJourney (unbroken network e is_request x.request_arrival) (asked x s))));
      by_readings = option_and_then (λ x.
          option_and_then (λ s.
          option_map (results_of x s)
          (unbroken network e is_request x.request_arrival))
          (unbroken network e draws_sync x.sync_arrival)) x;
    }

    abbrev kept_journey_readings : LineJourney → Option ℕ
    kept_journey_readings j = option_map line_met (journey_readings network j)

    abbrev kept_journey_octets : LineJourney → Option ℕ
    kept_journey_octets j = option_map line_met (journey_octets network j)

    journeys_are_found : (x : Exchange) (s r : Option LineJourney)
        → both_journeys network (site_at network earlier slave) slave report (found_of network x)
        (option_map (found_journey_of network) s) (option_map (found_journey_of network) r) ≡ with_journeys x s r
    journeys_are_found x None r = refl
    journeys_are_found x (Some s) None = refl
    journeys_are_found x (Some s) (Some r) = λ i. record {
      reasons = failing ((
        OtherNumber,
        followed_line network x.follow s.origin i
            && eqb (line_number r.origin) (line_number x.request),
      )
          ∷ (
            OtherMaster,
            told_is (last_line network is_set_master slave earlier) (site s.origin) report i
                && is_named (site x.request_arrival) (site s.origin)
                && is_domain (slave_at network slave) (master_at network (site s.origin)),
          )
          ∷ (
            WrongReading,
            reads_right network x.sync_arrival && reads-so network s (kept_journey_octets s) i
                && reads_right network x.request_arrival && reads-so network r (kept_journey_octets r) i,
          )
          ∷ (TooBig, fits s && fits r)
          ∷ (WrongValue, are_results report x s r)
          ∷ (
            Bytes,
            writes-so network s (kept_journey_readings s) i && follow_octets network x.follow i
                && writes-so network r (kept_journey_readings r) i && writes_right network x.request_arrival,
          ) ∷ []);
      by_readings = Some (results_of x s r);
    }

    found_are : (x : Option Exchange)
        → ((y : Exchange) → x ≡ Some y
        → (line_number y.sync_arrival ≤ length earlier) × (line_number y.request_arrival ≤ length earlier))
        → found_judgement network facts once (site_at network earlier slave) slave report
        (option_map (found_of network) x) ≡ with_exchange x
    found_are None within = refl
    found_are (Some x) within =
        let fits = within x refl in
        (λ i. both_journeys network (site_at network earlier slave) slave report (found_of network x)
        (found_journey_to_is once followed draws_sync x.sync_arrival fits.0 i)
        (found_journey_to_is once followed is_request x.request_arrival fits.1 i))
        ∙ journeys_are_found x (unbroken network e draws_sync x.sync_arrival)
        (unbroken network e is_request x.request_arrival)

    abbrev pub here : Bool
    here = is_of_line (length earlier) report

    abbrev pub learned : Bool
    learned = is_stamped_between network earlier report.request_tag report.response_tag

    abbrev pub all_lines : Option Exchange
    all_lines = line_chain network (line ∷ earlier) (sync_line network (line ∷ earlier) slave report)
        (follow_lines network (line ∷ earlier) slave report.follow_tag)
        (line_of network (line ∷ earlier) is_request slave report.request_tag)
        (arrival_line network (line ∷ earlier) slave report.response_tag)

    -- what is found of a report, under a test
    pub found_if : (b : Bool)
        → cond b (chain network (line ∷ earlier) (sync_by facts slave report) (follows_by facts slave report.follow_tag)
        (line_of_by facts is_request slave report.request_tag) (arrival_by facts slave report.response_tag)) None
        ≡ option_map (found_of network) (cond b all_lines None)
    found_if b =
        (λ i. cond b
        (chain network (line ∷ earlier) (sync_is network (line ∷ earlier) slave report i)
        (follows_is network (line ∷ earlier) slave report.follow_tag i)
        (line_of_is network (line ∷ earlier) is_request slave report.request_tag i)
        (arrival_is network (line ∷ earlier) slave report.response_tag i)) None)
        ∙ (λ i. cond b
        (chained network (line ∷ earlier) (sync_line network (line ∷ earlier) slave report)
        (follow_lines network (line ∷ earlier) slave report.follow_tag)
        (line_of network (line ∷ earlier) is_request slave report.request_tag)
        (arrival_line network (line ∷ earlier) slave report.response_tag) i) None)
        ∙ if_found network (line ∷ earlier) b all_lines

    pub either_within : (b : Bool) (y : Exchange) → cond b all_lines None ≡ Some y
        → (line_number y.sync_arrival ≤ length earlier) × (line_number y.request_arrival ≤ length earlier)
    either_within true y h =
        let parts = chain_parts network (line ∷ earlier) (sync_line network (line ∷ earlier) slave report)
        (follow_lines network (line ∷ earlier) slave report.follow_tag)
        (line_of network (line ∷ earlier) is_request slave report.request_tag)
        (arrival_line network (line ∷ earlier) slave report.response_tag) y h in
        let sync : line_number y.sync_arrival < length (line ∷ earlier) =
        sync_within network (line ∷ earlier) slave report y.sync_arrival parts.0 in
        let arrival : line_number y.request_arrival < length (line ∷ earlier) =
        arrival_within network (line ∷ earlier) slave report.response_tag y.request_arrival parts.1 in
        (grind (arith, sync), grind (arith, arrival))
    either_within false y h = absurd (none-some y h)

    judgement_is : (b : Bool) → counts network line ≡ b
        → judgement_by network facts once (stamps_at network earlier) (site_at network earlier)
        (cond b (Some (fact_of network e)) None) report ≡ judgement network e report
    judgement_is true h =
        ap (found_judgement network facts once (site_at network earlier slave) slave report)
        (found_if (here && learned))
        ∙ found_are (cond (here && learned) all_lines None) (either_within (here && learned))
        ∙ sym (λ i. with_exchange (cond (h i && here && learned) all_lines None))
    judgement_is false h = sym (λ i. with_exchange (cond (h i && here && learned) all_lines None))

  -- what a line's report is judged to be
  line_judgement_is : (o : Option Report)
      → option_map (judgement_by network facts once (stamps_at network earlier) (site_at network earlier)
      (cond (counts network line) (Some (fact_of network e)) None)) o ≡ option_map (judgement network e) o
  line_judgement_is None = refl
  line_judgement_is (Some report) = ap Some (judgement_is report (counts network line) refl)

  first_of : (o : Option Report) → option_map (λ judgement. slice_get judgement.reasons 0)
      (option_map (judgement network e) o) ≡ option_map (reason network e) o
  first_of None = refl
  first_of (Some report) = refl

  with_judgement_is : (v : Verdict) → with_judgement (line_judgement network e) (length earlier) v ≡ with_line network e v
  with_judgement_is (Accepted count) = λ i. one_more count (length earlier) (first_of (report_in line.out) i)
  with_judgement_is (Refused number why) = refl

-- what is kept is what the lines say
pub record Stands (network : Network) (lines : Lines) (m : Machine) : Type 0 where
  pub facts : m.facts ≡ facts_at network lines
  pub sites : m.sites ≡ site_at network lines
  pub leaves : m.leaves ≡ leaves_at network lines
  pub firsts : m.firsts ≡ firsts_at network lines
  pub stamps : m.stamps ≡ stamps_at network lines
  pub verdict : m.verdict ≡ verdict network lines

-- what is told of a line by what is kept of those before it, where that is what they say
module _ (network : Network) (line : TraceLine) (earlier : Lines) (m : Machine) (h : Stands network earlier m) where
  abbrev told : LinePlace
  told = line_place line earlier

  fact_is : fact_by network m.facts m.sites line (length earlier)
      ≡ cond (counts network line) (Some (fact_of network told)) None
  fact_is = (λ i. fact_by network (h.facts i) (h.sites i) line (length earlier)) ∙ fact_by-is network line earlier

  facts_are : with_fact m.facts (length earlier) (fact_by network m.facts m.sites line (length earlier))
      ≡ facts_at network (line ∷ earlier)
  facts_are = (λ i. with_fact (h.facts i) (length earlier) (fact_is i)) ∙ facts-line network line earlier

  judgement_after_is : judgement_after network line (length earlier) m ≡ line_judgement network told
  judgement_after_is =
      (λ i. line_judgement_by network (facts_are i) (once_of (last_stays (h.facts i)) (h.leaves i)) (h.stamps i)
      (h.sites i) (fact_is i) line.out)
      ∙ line_judgement_is network line earlier (report_in line.out)

pub stands : (network : Network) (lines : Lines) → Stands network lines (machine network lines)
stands network [] =
    record { facts = refl; sites = refl; leaves = refl; firsts = refl; stamps = refl; verdict = refl }
stands network (line ∷ earlier) =
    let h = stands network earlier in
    let m = machine network earlier in
    let n = length earlier in
    let e : LinePlace = line_place line earlier in
    let fact = fact_is network line earlier m h in
    let facts = facts_are network line earlier m h in
    record {
      facts = facts;
      sites = (λ i. sites_told (fact i) n (h.sites i))
          ∙ sites-line network line earlier (fact_of network e) (counts network line) refl refl;
      leaves = (λ i. leaves_told (fact i) (h.leaves i))
          ∙ leaves-line network line earlier (fact_of network e) (counts network line) refl refl;
      firsts = (λ i. firsts_told (fact i) n (h.firsts i))
          ∙ firsts-line network line earlier (fact_of network e) (counts network line) refl refl;
      stamps = (λ i. stamps_told (fact i) n (h.sites i) (h.stamps i))
          ∙ stamps-line network line earlier (fact_of network e) (counts network line) refl refl;
      verdict = (λ i. with_judgement (judgement_after_is network line earlier m h i) n (h.verdict i))
          ∙ with_judgement_is network line earlier (verdict network earlier);
    }

-- the verdict that is kept is the verdict on the lines
pub machine-verdict : (network : Network) (lines : Lines) → (machine network lines).verdict ≡ verdict network lines
machine-verdict network lines = (stands network lines).verdict

-- what a line's report is judged to be by what is kept is what the lines say
pub machine-judgement : (network : Network) (line : TraceLine) (earlier : Lines)
    → judgement_after network line (length earlier) (machine network earlier)
    ≡ line_judgement network (line_place line earlier)
machine-judgement network line earlier =
    judgement_after_is network line earlier (machine network earlier) (stands network earlier)
