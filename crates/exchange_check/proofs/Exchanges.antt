-- A report is judged by what is kept as by the lines.
use Rattle.std.proofs.Common.{◌≡◌, ◌∙◌, ℕ, Bool, true, false, ◌&&◌, ◌||◌, cond, Option, Some, None, refl, ap}
use Rattle.std.specs.Prelude.{option_map, option_and_then, nat_lt, is_some}
use Rattle.slave_port.specs.declared.heard.Report.{Report}
use Rattle.network_model.specs.declared.event.Event.{Event}
use Rattle.network_model.specs.Network.{Network, NodeName}
use Rattle.network_model.specs.Kinds.{is_at, is_follow, heard_copy, is_arrival, is_hearing}
use Rattle.exchange_check.specs.declared.facts.Fact.{Fact}
use Rattle.exchange_check.specs.declared.facts.Found.{Found}
use Rattle.exchange_check.specs.declared.facts.KeptJourney.{KeptJourney}
use Rattle.exchange_check.specs.declared.facts.FoundJourney.{FoundJourney}
use Rattle.trace_model.specs.Line.{Lines, completes}
use Rattle.trace_model.specs.Record.{LinePlace, line_number, event_of, line_at}
use Rattle.trace_model.specs.Journey.{LineJourney, line_journey_of}
use Rattle.trace_model.specs.Sound.{where_passes, below, Exchange, line_of, sender, sync_line}
use Rattle.trace_model.specs.Sound.{follow_line, follow_lines, arrival_line}
use Rattle.trace_model.proofs.JourneyLines.{origin_there}
use Rattle.exchange_check.specs.Inner.Kept.{Facts}
use Rattle.exchange_check.specs.Inner.Judged.{line_of_by, sender_by, sync_by, follow_by, follows_by}
use Rattle.exchange_check.specs.Inner.Judged.{completion_by, arrival_by, found_journey_at}
use Rattle.exchange_check.proofs.Told.{kept_journey_of, fact_of, facts_at, kept_journey_at-is}

module _ (network : Network) where
  abbrev pub found_of : Exchange → Found
  found_of x = record {
    sync_arrival = fact_of network x.sync_arrival;
    follow = option_map (fact_of network) x.follow;
    request = fact_of network x.request;
    request_arrival = fact_of network x.request_arrival;
  }

  abbrev pub found_journey_of : LineJourney → FoundJourney
  found_journey_of j = record { kept = kept_journey_of network j; origin = fact_of network j.origin }

  -- a test of what is kept that is the same test of the line
  if_passes : (b : Bool) (e : LinePlace)
      → cond b (Some (fact_of network e)) None ≡ option_map (fact_of network) (cond b (Some e) None)
  if_passes true e = refl
  if_passes false e = refl

  passes : (p : Fact → Bool) (o : Option LinePlace)
      → where_passes p (option_map (fact_of network) o)
      ≡ option_map (fact_of network) (where_passes (λ e. p (fact_of network e)) o)
  passes p None = refl
  passes p (Some e) = if_passes (p (fact_of network e)) e

  module _ (lines : Lines) where
    abbrev facts : Facts
    facts = facts_at network lines

    pub line_of_is : (kind : Event → Bool) (node : NodeName) (n : ℕ)
        → line_of_by facts kind node n ≡ option_map (fact_of network) (line_of network lines kind node n)
    line_of_is kind node n = passes (λ fact. is_at kind node fact.event) (line_at network lines n)

    below_is : (b : Bool) (n : ℕ)
        → cond b (facts n) None ≡ option_map (fact_of network) (cond b (line_at network lines n) None)
    below_is true n = refl
    below_is false n = refl

    sent_below : (limit : ℕ) (o : Option ℕ)
        → option_and_then (below facts limit) o
        ≡ option_map (fact_of network) (option_and_then (below (line_at network lines) limit) o)
    sent_below limit None = refl
    sent_below limit (Some n) = below_is (nat_lt n limit) n

    pub senders : (o : Option LinePlace)
        → option_and_then (sender_by facts) (option_map (fact_of network) o)
        ≡ option_map (fact_of network) (option_and_then (sender network lines) o)
    senders None = refl
    senders (Some e) = sent_below (line_number e) (heard_copy (event_of e))

    pub sync_is : (slave : NodeName) (report : Report)
        → sync_by facts slave report ≡ option_map (fact_of network) (sync_line network lines slave report)
    sync_is slave report =
        ap (where_passes (λ fact. is_some report.follow_tag || fact.completes))
        (line_of_is is_arrival slave report.sync_tag)
        ∙ passes (λ fact. is_some report.follow_tag || fact.completes)
        (line_of network lines is_arrival slave report.sync_tag)

    follow_is : (slave : NodeName) (n : ℕ)
        → follow_by facts slave n ≡ option_map (fact_of network) (follow_line network lines slave n)
    follow_is slave n =
        ap (λ (o : Option Fact). where_passes (λ fact. is_follow fact.event) (option_and_then (sender_by facts) o))
        (line_of_is is_hearing slave n)
        ∙ ap (where_passes (λ fact. is_follow fact.event)) (senders (line_of network lines is_hearing slave n))
        ∙ passes (λ fact. is_follow fact.event)
        (option_and_then (sender network lines) (line_of network lines is_hearing slave n))

    some_follow : (o : Option LinePlace)
        → option_map Some (option_map (fact_of network) o)
        ≡ option_map (option_map (fact_of network)) (option_map Some o)
    some_follow None = refl
    some_follow (Some e) = refl

    pub follows_is : (slave : NodeName) (o : Option ℕ)
        → follows_by facts slave o ≡ option_map (option_map (fact_of network)) (follow_lines network lines slave o)
    follows_is slave None = refl
    follows_is slave (Some n) = ap (λ (o : Option Fact). option_map Some o) (follow_is slave n)
        ∙ some_follow (follow_line network lines slave n)

    completion_is : (slave : NodeName) (n : ℕ)
        → completion_by facts slave n
        ≡ option_map (fact_of network)
        (where_passes (λ e. completes e.line.out) (line_of network lines is_hearing slave n))
    completion_is slave n = ap (where_passes (λ fact. fact.completes)) (line_of_is is_hearing slave n)
        ∙ passes (λ fact. fact.completes) (line_of network lines is_hearing slave n)

    pub arrival_is : (slave : NodeName) (n : ℕ)
        → arrival_by facts slave n ≡ option_map (fact_of network) (arrival_line network lines slave n)
    arrival_is slave n =
        ap (λ (o : Option Fact). where_passes (λ fact. is_arrival fact.event && fact.made)
        (option_and_then (sender_by facts) o)) (completion_is slave n)
        ∙ ap (where_passes (λ fact. is_arrival fact.event && fact.made))
        (senders (where_passes (λ e. completes e.line.out) (line_of network lines is_hearing slave n)))
        ∙ passes (λ fact. is_arrival fact.event && fact.made)
        (option_and_then (sender network lines)
        (where_passes (λ e. completes e.line.out) (line_of network lines is_hearing slave n)))

    abbrev pub chain : Option Fact → Option (Option Fact) → Option Fact → Option Fact → Option Found
    chain s f u r = option_and_then
        (λ sync. option_and_then (λ follow. option_and_then
        (λ request. option_map (λ arrival.
        record { sync_arrival = sync; follow = follow; request = request; request_arrival = arrival }) r) u) f) s

    abbrev pub line_chain : Option LinePlace → Option (Option LinePlace) → Option LinePlace → Option LinePlace
        → Option Exchange
    line_chain s f u r = option_and_then
        (λ sync. option_and_then (λ follow. option_and_then
        (λ request. option_map (λ arrival.
        record { sync_arrival = sync; follow = follow; request = request; request_arrival = arrival }) r) u) f) s

    pub chained : (s : Option LinePlace) (f : Option (Option LinePlace)) (u r : Option LinePlace)
        → chain (option_map (fact_of network) s) (option_map (option_map (fact_of network)) f)
        (option_map (fact_of network) u) (option_map (fact_of network) r)
        ≡ option_map found_of (line_chain s f u r)
    chained None f u r = refl
    chained (Some s) None u r = refl
    chained (Some s) (Some f) None r = refl
    chained (Some s) (Some f) (Some u) None = refl
    chained (Some s) (Some f) (Some u) (Some r) = refl

    pub if_found : (b : Bool) (o : Option Exchange)
        → cond b (option_map found_of o) None ≡ option_map found_of (cond b o None)
    if_found true o = refl
    if_found false o = refl

    found_journey_of_origin : (o : Option LineJourney)
        → ((j : LineJourney) → o ≡ Some j → line_at network lines (line_number j.origin) ≡ Some j.origin)
        → option_and_then (λ kept_journey. option_map (λ origin. record { kept = kept_journey; origin = origin })
        (facts kept_journey.origin)) (option_map (kept_journey_of network) o) ≡ option_map found_journey_of o
    found_journey_of_origin None known = refl
    found_journey_of_origin (Some j) known =
        ap (λ (o : Option LinePlace). option_map
        (λ (origin : Fact). let w : FoundJourney = record { kept = kept_journey_of network j; origin = origin } in w)
        (option_map (fact_of network) o)) (known j refl)

    pub found_journey_is : (n : ℕ) → found_journey_at facts n ≡ option_map found_journey_of (line_journey_of network lines n)
    found_journey_is n =
        ap (λ (o : Option KeptJourney). option_and_then
        (λ kept_journey. option_map (λ origin. record { kept = kept_journey; origin = origin }) (facts kept_journey.origin)) o)
        (kept_journey_at-is network lines n)
        ∙ found_journey_of_origin (line_journey_of network lines n) (origin_there network lines n)
