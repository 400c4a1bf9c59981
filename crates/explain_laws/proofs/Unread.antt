-- Messages that tell what ports and clocks write have the results by the readings.
use Rattle.std.proofs.Common.{◌≡◌, ◌∙◌, ℕ, Bool, true, false, [], ◌∷◌, length, Option, Some, None, refl, sym, ap, subst}
use Rattle.std.proofs.Common.{option_map, option_and_then, if◌then◌else◌}
use Rattle.std.specs.Prelude.{◌==◌, ◌&&◌, ◌||◌, not}
use Rattle.std.specs.Option.{option_or, option_map_or}
use Rattle.std.proofs.lemmas.Bool.{and_parts}
use Rattle.slave_port.specs.declared.heard.Report.{Report}
use Rattle.slave_port.proofs.Options.{some_step, some_image}
use Rattle.network_model.specs.declared.event.Event.{Event}
use Rattle.network_model.specs.declared.event.Event.TheVariants.{Sync, SyncOne, Follow, Leave, Request}
use Rattle.network_model.specs.Network.{Network, NodeName}
use Rattle.network_model.specs.Kinds.{draws_sync, is_follow, is_request, is_arrival, is_hearing}
use Rattle.trace_model.specs.declared.finding.Finding.{Finding}
use Rattle.trace_model.specs.declared.finding.Finding.TheVariants as findings
use Rattle.trace_model.specs.declared.line.TraceLine.{TraceLine}
use Rattle.trace_model.specs.declared.verdict.Why.TheVariants.{Bytes}
use Rattle.trace_model.specs.Line.{Lines, counts, is_good, is_made, is_refused, is_ignored, is_master, is_clock, is_slave, completes}
use Rattle.trace_model.specs.Record.{LinePlace, line_place, event_of, site, line_number, line_at}
use Rattle.trace_model.specs.Journey.{LineJourney, LineStay, line_begun, with_stay, copy_entered, line_left_from}
use Rattle.trace_model.specs.Journey.{line_journey_made, line_journey_of}
use Rattle.trace_model.specs.Finding.{of_exchange, stays_finding}
use Rattle.trace_model.specs.ByMessages.{IsMeasured, TellsRight, tells_right}
use Rattle.trace_model.specs.Sound.{Exchange, where_passes, below, lines_to, line_of, sender, follow_line, follow_lines}
use Rattle.trace_model.specs.Sound.{unbroken}
use Rattle.trace_model.proofs.ByMessages.{each_tells_the_readings}
use Rattle.trace_model.proofs.Exchanges.{found_below}
use Rattle.trace_model.proofs.JourneyLines.{made_by}
use Rattle.trace_model.proofs.OctetsOfExchanges.{passed, heard_of, exchange_parts, journey_found}
use Rattle.exchange_check.specs.Evidence.{otherwise_finding, journey_otherwise, exchange_otherwise}
use Rattle.exchange_check.specs.Evidence.{last_finding, last_otherwise}
use Rattle.explain_transcript.specs.declared.details.Octets.TheVariants.{Told, Other}
use Rattle.explain_transcript.specs.Details.{octets_of}
use Rattle.explain_laws.specs.Unread.{EachOtherTellsTheReadings}

-- options

neither : {X : Type 0} (a b : Option X) → option_or a b ≡ None → (a ≡ None) × (b ≡ None)
neither None b h = (refl, h)
neither (Some x) b h = cc

no_otherwise : (wrong otherwise : Option Finding) → octets_of wrong otherwise ≡ Some Other → otherwise ≡ None
no_otherwise None otherwise h = cc
no_otherwise (Some wrong) None h = refl
no_otherwise (Some wrong) (Some otherwise) h = let same : Told ≡ Other = cc in absurd (cc same)

-- a message that was made and doesn't tell otherwise tells right
right_if : (made tells : Bool) (finding : Finding) → (if made && not tells then Some finding else None) ≡ None → made ≡ true
    → tells ≡ true
right_if true true finding none made = refl
right_if true false finding none made = cc
right_if false tells finding none made = cc

tells : (network : Network) (e : LinePlace) → otherwise_finding network e ≡ None → is_made e.line.out ≡ true
    → tells_right network e ≡ true
tells network e none made =
    right_if (is_made e.line.out) (tells_right network e) (findings.OtherOctets (line_number e)) none made

-- lines that count, and that make a message, made one

line_counts : (network : Network) (lines : Lines) (n : ℕ) (e : LinePlace) → line_at network lines n ≡ Some e
    → counts network e.line ≡ true
line_counts network [] n e is = cc
line_counts network (line ∷ lines) n e is =
    at (length lines == n) (counts network line) refl (λ later. line_counts network lines n e later) is
  where
    at : (here counted : Bool) → counts network line ≡ counted
        → (line_at network lines n ≡ Some e → counts network e.line ≡ true)
        → (if here then (if counted then Some (line_place line lines) else None) else line_at network lines n) ≡ Some e
        → counts network e.line ≡ true
    at true true c before is =
        let same : line_place line lines ≡ e = cc in subst (λ (x : LinePlace). counts network x.line ≡ true) same c
    at true false c before is = cc
    at false counted c before is = before is

counted_good : (network : Network) (line : TraceLine) → counts network line ≡ true
    → (is_good network line.event line.out ≡ true) × (is_refused line.out ≡ false)
counted_good network line counted =
    let parts = and_parts (is_good network line.event line.out) (not (is_refused line.out || is_ignored line.out)) counted in
    (parts.0, refused (is_refused line.out) (is_ignored line.out) parts.1)
  where
    refused : (x y : Bool) → not (x || y) ≡ true → x ≡ false
    refused true y h = cc
    refused false y h = refl

made_or : (x y z : Bool) → (x && (y || z)) ≡ true → z ≡ false → y ≡ true
made_or true true z good none = refl
made_or true false true good none = cc
made_or true false false good none = cc
made_or false y z good none = cc

follow_made : (network : Network) (line : TraceLine) (event : Event) → line.event ≡ event → is_follow event ≡ true
    → counts network line ≡ true → is_made line.out ≡ true
follow_made network line (Follow node) same is counted =
    (and_parts (is_master network node) (is_made line.out)
    (subst (λ (v : Event). is_good network v line.out ≡ true) same (counted_good network line counted).0)).1
follow_made network line _ same is counted = cc

module _ (network : Network) where
  begun : (e : LinePlace) (journey : LineJourney) → line_begun e ≡ journey → journey_otherwise network journey ≡ None
      → is_made e.line.out ≡ true → tells_right network e ≡ true
  begun e journey same none made =
      tells network e (neither (otherwise_finding network e) None (ap (journey_otherwise network) same ∙ none)).0 made

  -- the line that made a copy is the last of its journey
  last_tells : (event : Event) (e : LinePlace) (journeys : ℕ → Option LineJourney) (journey : LineJourney)
      → e.line.event ≡ event → counts network e.line ≡ true → line_journey_made network event e journeys ≡ Some journey
      → journey_otherwise network journey ≡ None → tells_right network e ≡ true
  last_tells (Sync node at) e journeys journey same counted made none =
      begun e journey (cc) none (and_parts (is_master network node) (is_made e.line.out)
      (subst (λ (v : Event). is_good network v e.line.out ≡ true) same (counted_good network e.line counted).0)).1
  last_tells (SyncOne node at) e journeys journey same counted made none =
      begun e journey (cc) none (and_parts (is_master network node) (is_made e.line.out)
      (subst (λ (v : Event). is_good network v e.line.out ≡ true) same (counted_good network e.line counted).0)).1
  last_tells (Request node at) e journeys journey same counted made none =
      begun e journey (cc) none (and_parts (is_slave network node) (is_made e.line.out)
      (subst (λ (v : Event). is_good network v e.line.out ≡ true) same (counted_good network e.line counted).0)).1
  last_tells (Leave node transit at) e journeys journey same counted made none =
      let entered = some_step (line_left_from node e journeys) (line_at network e.earlier transit) made in
      let copy = some_step (λ (c : ℕ). option_map (with_stay e entered.0) (journeys c))
      (copy_entered node entered.0) entered.2 in
      let prior = some_image (with_stay e entered.0) (journeys copy.0) copy.2 in
      let whole : journey_otherwise network (with_stay e entered.0 prior.0) ≡ None =
      ap (journey_otherwise network) prior.2 ∙ none in
      let stays = (neither (otherwise_finding network prior.0.origin) (option_or
      (stays_finding (λ (s : LineStay). otherwise_finding network s.left) prior.0.stays) (otherwise_finding network e)) whole).1 in
      tells network e (neither (stays_finding (λ (s : LineStay). otherwise_finding network s.left) prior.0.stays)
      (otherwise_finding network e) stays).1
      (made_or (is_clock network node) (is_made e.line.out) (is_refused e.line.out)
      (subst (λ (v : Event). is_good network v e.line.out ≡ true) same (counted_good network e.line counted).0)
      (counted_good network e.line counted).1)
  last_tells _ e journeys journey same counted made none = cc

  -- the Follow_Up of an exchange, where it has one
  follow_tells : (lines : Lines) (slave : NodeName) (tag : Option ℕ) (follow : Option LinePlace)
      → follow_lines network lines slave tag ≡ Some follow
      → option_and_then (otherwise_finding network) follow ≡ None → option_map_or (tells_right network) follow true ≡ true
  follow_tells lines slave tag None is none = refl
  follow_tells lines slave None (Some f) is none = cc
  follow_tells lines slave (Some hearing) (Some f) is none =
      let line = some_image (λ (e : LinePlace). Some e) (follow_line network lines slave hearing) is in
      let same : line.0 ≡ f = cc in
      let parts = passed (λ (e : LinePlace). is_follow (event_of e))
      (option_and_then (sender network lines) (line_of network lines is_hearing slave hearing)) (line.1 ∙ ap Some same) in
      let there = heard_of network lines (line_of network lines is_hearing slave hearing) f parts.0 in
      tells network f none (follow_made network f.line (event_of f) refl parts.1
      (line_counts network lines (line_number f) f there))

  module _ (e : LinePlace) (report : Report) (x : Exchange) (sync request : LineJourney)
      (is : IsMeasured network e report x sync request) (none : exchange_otherwise network x sync request ≡ None) where
    abbrev more_than_follow : Option Finding
    more_than_follow = option_or (journey_otherwise network request)
        (option_or (otherwise_finding network x.request_arrival) None)

    abbrev more_than_sync : Option Finding
    more_than_sync = option_or (option_and_then (otherwise_finding network) x.follow) more_than_follow

    first : (journey_otherwise network sync ≡ None) × (more_than_sync ≡ None)
    first = neither (journey_otherwise network sync) more_than_sync none

    second : (option_and_then (otherwise_finding network) x.follow ≡ None) × (more_than_follow ≡ None)
    second = neither (option_and_then (otherwise_finding network) x.follow) more_than_follow first.1

    third : (journey_otherwise network request ≡ None)
        × (option_or (otherwise_finding network x.request_arrival) None ≡ None)
    third = neither (journey_otherwise network request) (option_or (otherwise_finding network x.request_arrival) None) second.1

    sync_right : option_map_or (tells_right network) (sender network (lines_to e) x.sync_arrival) false ≡ true
    sync_right =
        let found = journey_found network e draws_sync x.sync_arrival sync is.sync_unbroken in
        let made = made_by network (lines_to e) found.copy sync found.there in
        let sent : sender network (lines_to e) x.sync_arrival ≡ Some made.s =
        ap (option_and_then (below (line_at network (lines_to e)) (line_number x.sync_arrival))) found.heard
        ∙ found_below (line_at network (lines_to e)) (line_number x.sync_arrival) found.copy found.before ∙ made.there in
        ap (λ (o : Option LinePlace). option_map_or (tells_right network) o false) sent
        ∙ last_tells (event_of made.s) made.s (line_journey_of network made.s.earlier) sync refl
        (line_counts network (lines_to e) found.copy made.s made.there) made.made first.0

    response_right : tells_right network x.request_arrival ≡ true
    response_right =
        let has = exchange_parts network (site e) e report x is.lines in
        let heard : Option LinePlace = where_passes (λ (l : LinePlace). completes l.line.out)
        (line_of network (lines_to e) is_hearing (site e) report.response_tag) in
        let arrives = passed (λ (l : LinePlace). is_arrival (event_of l) && is_made l.line.out)
        (option_and_then (sender network (lines_to e)) heard) has.arrival in
        tells network x.request_arrival (neither (otherwise_finding network x.request_arrival) None third.1).0
        (and_parts (is_arrival (event_of x.request_arrival)) (is_made x.request_arrival.line.out) arrives.1).1

    tell_right : TellsRight network (lines_to e) x
    tell_right = record {
      sync = sync_right;
      follow = follow_tells (lines_to e) (site e) report.follow_tag x.follow
          (exchange_parts network (site e) e report x is.lines).follow second.0;
      response = response_right;
    }

module _ (network : Network) (e : LinePlace) (report : Report) (x : Exchange) (sync request : LineJourney)
    (is : IsMeasured network e report x sync request) where
  -- what is found of the exchange of a report is what is found of these
  of_these : (found : Exchange → (sync request : LineJourney) → Option Finding)
      → of_exchange network e report found ≡ found x sync request
  of_these found =
      ap (option_and_then (λ (y : Exchange). option_and_then (λ (s : LineJourney). option_and_then (found y s)
      (unbroken network e is_request y.request_arrival)) (unbroken network e draws_sync y.sync_arrival))) is.lines
      ∙ ap (option_and_then (λ (s : LineJourney). option_and_then (found x s)
      (unbroken network e is_request x.request_arrival))) is.sync_unbroken
      ∙ ap (option_and_then (found x sync)) is.request_unbroken

pub each_other_tells_the_readings : EachOtherTellsTheReadings
each_other_tells_the_readings nodes line earlier report x sync request is other =
    let e : LinePlace = line_place line earlier in
    let none : last_otherwise nodes (line ∷ earlier) report ≡ None =
    no_otherwise (last_finding nodes (line ∷ earlier) report Bytes) (last_otherwise nodes (line ∷ earlier) report) other in
    each_tells_the_readings nodes e report x sync request is
    (tell_right nodes e report x sync request is
    (sym (of_these nodes e report x sync request is (exchange_otherwise nodes)) ∙ none))
