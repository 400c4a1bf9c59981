-- There is a finding of a reason exactly where it is among the reasons against a report.
use Rattle.std.proofs.Common.{◌≡◌, ◌∙◌, ℕ, ◌<◌, Bool, true, false, ◌&&◌, [], ◌∷◌, length, map, Option, Some, None}
use Rattle.std.proofs.Common.{Ok, Err, Result, refl, sym, ap, arith, is_some, option_map, option_and_then}
use Rattle.std.proofs.Common.{if◌then◌else◌, ◌==◌}
use Rattle.std.specs.Prelude.{◌||◌, not, nat_lt, filter}
use Rattle.std.specs.List.{list_all, list_any}
use Rattle.std.specs.Option.{option_map_or}
use Rattle.std.specs.Result.{result_ok}
use Rattle.slave_port.specs.declared.heard.Report.{Report}
use Rattle.slave_port.proofs.Options.{some_step}
use Rattle.network_model.specs.declared.event.Event.{Event}
use Rattle.network_model.specs.Network.{Network, NodeName, is_named}
use Rattle.network_model.specs.Kinds.{is_at, draws_sync, is_follow, is_request, is_arrival, is_hearing}
use Rattle.network_model.specs.Kinds.{is_set_master, is_step, heard_copy, named_master}
use Rattle.network_model.specs.Truth.{master_at, slave_at}
use Rattle.trace_model.specs.declared.finding.Finding.{Finding}
use Rattle.trace_model.specs.declared.finding.Finding.TheVariants as findings
use Rattle.trace_model.specs.declared.finding.Lack.{Lack}
use Rattle.trace_model.specs.declared.finding.Lack.TheVariants.{OtherEvent, CompletedNothing}
use Rattle.trace_model.specs.declared.finding.Part.{Part}
use Rattle.trace_model.specs.declared.finding.Part.TheVariants as parts
use Rattle.trace_model.specs.declared.verdict.Why.{Why}
use Rattle.trace_model.specs.declared.verdict.Why.TheVariants.{NoSuchLine, OtherNumber, OtherMaster, BrokenJourney}
use Rattle.trace_model.specs.declared.verdict.Why.TheVariants.{WrongReading, WrongValue, TooBig, Bytes}
use Rattle.trace_model.specs.Refusal.{code_of}
use Rattle.trace_model.specs.Line.{Lines, counts, is_made, completes}
use Rattle.trace_model.specs.Record.{LinePlace, line_number, event_of, site, line_at, last_line, first_stamp, events}
use Rattle.trace_model.specs.Record.{reading, reads_right}
use Rattle.trace_model.specs.Journey.{LineStay, LineJourney, line_journey_of, left_once}
use Rattle.trace_model.specs.Octets.{writes_right}
use Rattle.trace_model.specs.Sound.{Exchange, where_passes, below, lines_to, line_of, sender, sync_line, follow_line}
use Rattle.trace_model.specs.Sound.{follow_lines, arrival_line, is_of_line, is_stamped_between, is_report_in_place}
use Rattle.trace_model.specs.Sound.{exchange_of, journey_to, unbroken, is_followed, are_paired, are_later, is_present_master}
use Rattle.trace_model.specs.Sound.{is_domain, is_of_master, stay_reads_right, are_readings, fits}
use Rattle.trace_model.specs.Sound.{are_results, are_octets, Conditions, needs, conditions, failing}
use Rattle.trace_model.specs.Finding.{broken, passing, going_on, tag_found, sender_found, sync_found, follow_found, follow_lack}
use Rattle.trace_model.specs.Finding.{response_found, place_finding, Stop, way_to, way_finding, ways_finding}
use Rattle.trace_model.specs.Finding.{follow_finding, pair_finding, early_finding, told_finding, master_finding}
use Rattle.trace_model.specs.Finding.{reading_finding, stay_finding, readings_finding, size_finding}
use Rattle.trace_model.specs.Finding.{octets_finding, follow_octets, all_octets_finding, of_exchange, finding}
use Rattle.trace_model.specs.Finding.{EachReasonHasItsFinding}
use Rattle.trace_model.proofs.Lines.{line_at-bound, line_at-number}
use Rattle.trace_model.proofs.FindingParts.{fails_first, fails_last, broken_fails, regroup, stays_fail, lacks, passing_ok}
use Rattle.trace_model.proofs.FindingParts.{going_ok, tag_ok, sender_ok, way_to_ok}
use Rattle.trace_model.proofs.JourneyLines.{journey_before}
use Rattle.trace_model.proofs.LeftTwice.{twice_or_once}
use Rattle.trace_model.proofs.OctetsOfExchanges.{passed, was_below, of_lines, exchange_parts, heard_of}

-- 701

sync_found_ok : (network : Network) (lines : Lines) (slave : NodeName) (report : Report)
    → result_ok (sync_found network lines slave report) ≡ sync_line network lines slave report
sync_found_ok network lines slave report =
    passing_ok (λ (e : LinePlace). is_some report.follow_tag || completes e.line.out)
    (λ (e : LinePlace). CompletedNothing report.sync_tag) (tag_found network lines is_arrival slave report.sync_tag)
    ∙ ap (where_passes (λ (e : LinePlace). is_some report.follow_tag || completes e.line.out))
    (tag_ok network lines is_arrival slave report.sync_tag)

follow_found_ok : (network : Network) (lines : Lines) (slave : NodeName) (hearing : ℕ)
    → result_ok (follow_found network lines slave hearing) ≡ follow_line network lines slave hearing
follow_found_ok network lines slave hearing =
    passing_ok (λ (e : LinePlace). is_follow (event_of e)) (λ (e : LinePlace). OtherEvent (line_number e))
    (going_on (sender_found network lines) (tag_found network lines is_hearing slave hearing))
    ∙ ap (where_passes (λ (e : LinePlace). is_follow (event_of e)))
    (going_ok (sender_found network lines) (sender network lines) (tag_found network lines is_hearing slave hearing)
    (sender_ok network lines)
    ∙ ap (option_and_then (sender network lines)) (tag_ok network lines is_hearing slave hearing))

response_found_ok : (network : Network) (lines : Lines) (slave : NodeName) (hearing : ℕ)
    → result_ok (response_found network lines slave hearing) ≡ arrival_line network lines slave hearing
response_found_ok network lines slave hearing =
    let heard : Result LinePlace Lack = passing (λ (e : LinePlace). completes e.line.out)
    (λ (e : LinePlace). CompletedNothing hearing) (tag_found network lines is_hearing slave hearing) in
    passing_ok (λ (e : LinePlace). is_arrival (event_of e) && is_made e.line.out)
    (λ (e : LinePlace). OtherEvent (line_number e)) (going_on (sender_found network lines) heard)
    ∙ ap (where_passes (λ (e : LinePlace). is_arrival (event_of e) && is_made e.line.out))
    (going_ok (sender_found network lines) (sender network lines) heard (sender_ok network lines)
    ∙ ap (option_and_then (sender network lines))
    (passing_ok (λ (e : LinePlace). completes e.line.out) (λ (e : LinePlace). CompletedNothing hearing)
    (tag_found network lines is_hearing slave hearing)
    ∙ ap (where_passes (λ (e : LinePlace). completes e.line.out)) (tag_ok network lines is_hearing slave hearing)))

mapped : {X Y : Type 0} (make : X → Y) (o : Option X) → is_some (option_map make o) ≡ is_some o
mapped make None = refl
mapped make (Some x) = refl

follow_lacks : (network : Network) (lines : Lines) (slave : NodeName) (tag : Option ℕ)
    → is_some (option_map (findings.WrongTag parts.FollowUp) (follow_lack network lines slave tag))
    ≡ not (is_some (follow_lines network lines slave tag))
follow_lacks network lines slave None = refl
follow_lacks network lines slave (Some hearing) =
    lacks (findings.WrongTag parts.FollowUp) (follow_found network lines slave hearing)
    (follow_line network lines slave hearing) (follow_found_ok network lines slave hearing)
    ∙ ap not (sym (mapped (λ (e : LinePlace). Some e) (follow_line network lines slave hearing)))

lines_some : (placed : Bool) (s : Option LinePlace) (f : Option (Option LinePlace)) (r a : Option LinePlace)
    → is_some (if placed then of_lines s f r a else None)
    ≡ (placed && (is_some s && (is_some f && (is_some r && is_some a))))
lines_some false s f r a = refl
lines_some true None f r a = refl
lines_some true (Some s) None r a = refl
lines_some true (Some s) (Some f) None a = refl
lines_some true (Some s) (Some f) (Some r) None = refl
lines_some true (Some s) (Some f) (Some r) (Some a) = refl

stamped_last : (c o t s f r a : Bool)
    → (c && (o && (s && (f && (r && (a && t)))))) ≡ ((c && o && t) && (s && (f && (r && a))))
stamped_last false o t s f r a = refl
stamped_last true false t s f r a = refl
stamped_last true true true false f r a = refl
stamped_last true true true true false r a = refl
stamped_last true true true true true false a = refl
stamped_last true true true true true true true = refl
stamped_last true true true true true true false = refl
stamped_last true true false false f r a = refl
stamped_last true true false true false r a = refl
stamped_last true true false true true false a = refl
stamped_last true true false true true true true = refl
stamped_last true true false true true true false = refl

place_fails : (network : Network) (slave : NodeName) (e : LinePlace) (report : Report)
    → is_some (place_finding network slave e report) ≡ not (is_some (exchange_of network slave e report))
place_fails network slave e report =
    fails_first _ _ (counts network e.line) _ (broken_fails (counts network e.line) findings.CantReport)
    (fails_first _ _ (is_of_line (line_number e) report) _
    (broken_fails (is_of_line (line_number e) report) findings.OfOtherLine)
    (fails_first _ _ (is_some (sync_line network (lines_to e) slave report)) _
    (lacks (findings.WrongTag parts.Sync) (sync_found network (lines_to e) slave report) _
    (sync_found_ok network (lines_to e) slave report))
    (fails_first _ _ (is_some (follow_lines network (lines_to e) slave report.follow_tag)) _
    (follow_lacks network (lines_to e) slave report.follow_tag)
    (fails_first _ _ (is_some (line_of network (lines_to e) is_request slave report.request_tag)) _
    (lacks (findings.WrongTag parts.DelayReq) (tag_found network (lines_to e) is_request slave report.request_tag) _
    (tag_ok network (lines_to e) is_request slave report.request_tag))
    (fails_first _ _ (is_some (arrival_line network (lines_to e) slave report.response_tag)) _
    (lacks (findings.WrongTag parts.DelayResp) (response_found network (lines_to e) slave report.response_tag) _
    (response_found_ok network (lines_to e) slave report.response_tag))
    (fails_last _ (is_stamped_between network e.earlier report.request_tag report.response_tag)
    (broken_fails (is_stamped_between network e.earlier report.request_tag report.response_tag)
    (findings.Unstamped (first_stamp network report.request_tag e.earlier)))))))))
    ∙ ap not (stamped_last (counts network e.line) (is_of_line (line_number e) report)
    (is_stamped_between network e.earlier report.request_tag report.response_tag)
    (is_some (sync_line network (lines_to e) slave report))
    (is_some (follow_lines network (lines_to e) slave report.follow_tag))
    (is_some (line_of network (lines_to e) is_request slave report.request_tag))
    (is_some (arrival_line network (lines_to e) slave report.response_tag))
    ∙ sym (lines_some (is_report_in_place network e report) (sync_line network (lines_to e) slave report)
    (follow_lines network (lines_to e) slave report.follow_tag)
    (line_of network (lines_to e) is_request slave report.request_tag)
    (arrival_line network (lines_to e) slave report.response_tag)))

-- 704

kept_some : (holds : Bool) (journey : LineJourney) → is_some (if holds then Some journey else None) ≡ holds
kept_some true journey = refl
kept_some false journey = refl

way_fails : (network : Network) (e : LinePlace) (part : Part) (kind : Event → Bool) (arrival : LinePlace)
    → line_number arrival < length (lines_to e)
    → is_some (way_finding network e part (way_to network (lines_to e) kind arrival))
    ≡ not (is_some (unbroken network e kind arrival))
way_fails network e part kind arrival within =
    by (way_to network (lines_to e) kind arrival) (way_to_ok network (lines_to e) kind arrival)
  where
    known : (journey : LineJourney) → journey_to network (lines_to e) kind arrival ≡ Some journey
        → (copy : ℕ) × (line_journey_of network e.earlier copy ≡ Some journey)
    known journey is =
        let begins = passed (λ (j : LineJourney). kind (event_of j.origin))
        (option_and_then (below (line_journey_of network (lines_to e)) (line_number arrival))
        (heard_copy (event_of arrival))) is in
        let copy = some_step (below (line_journey_of network (lines_to e)) (line_number arrival))
        (heard_copy (event_of arrival)) begins.0 in
        let there = was_below (line_journey_of network (lines_to e)) (line_number arrival) copy.0 copy.2 in
        let small : copy.0 < length e.earlier = omega (arith, there.0) in
        (copy.0, sym (journey_before network e.line e.earlier copy.0 small) ∙ there.1)

    by : (way : Result LineJourney Stop) → result_ok way ≡ journey_to network (lines_to e) kind arrival
        → is_some (way_finding network e part way) ≡ not (is_some (unbroken network e kind arrival))
    by (Err other) same =
        ap (λ (o : Option LineJourney). not (is_some (where_passes (left_once (events network e.earlier)) o))) same
    by (Ok journey) same =
        let found = known journey (sym same) in
        twice_or_once network part e.earlier found.0 journey found.1
        ∙ ap not (sym (kept_some (left_once (events network e.earlier) journey) journey))
        ∙ ap (λ (o : Option LineJourney). not (is_some (where_passes (left_once (events network e.earlier)) o))) same

ways_fail : (network : Network) (e : LinePlace) (report : Report) (x : Exchange)
    → exchange_of network (site e) e report ≡ Some x
    → is_some (ways_finding network e x) ≡ not (is_some (unbroken network e draws_sync x.sync_arrival)
    && is_some (unbroken network e is_request x.request_arrival))
ways_fail network e report x is =
    let lines : Lines = lines_to e in
    let has = exchange_parts network (site e) e report x is in
    let used = passed (λ (l : LinePlace). is_some report.follow_tag || completes l.line.out)
    (line_of network lines is_arrival (site e) report.sync_tag) has.sync in
    let arrival = passed (λ (l : LinePlace). is_at is_arrival (site e) (event_of l))
    (line_at network lines report.sync_tag) used.0 in
    let number : line_number x.sync_arrival ≡ report.sync_tag =
    line_at-number network lines report.sync_tag x.sync_arrival arrival.0 in
    let bound : report.sync_tag < length lines = line_at-bound network lines report.sync_tag x.sync_arrival arrival.0 in
    let heard : Option LinePlace = where_passes (λ (l : LinePlace). completes l.line.out)
    (line_of network lines is_hearing (site e) report.response_tag) in
    let arrives = passed (λ (l : LinePlace). is_arrival (event_of l) && is_made l.line.out)
    (option_and_then (sender network lines) heard) has.arrival in
    let there = heard_of network lines heard x.request_arrival arrives.0 in
    fails_first _ _ (is_some (unbroken network e draws_sync x.sync_arrival)) _
    (way_fails network e parts.Sync draws_sync x.sync_arrival (omega arith))
    (fails_last _ (is_some (unbroken network e is_request x.request_arrival))
    (way_fails network e parts.DelayReq is_request x.request_arrival
    (line_at-bound network lines (line_number x.request_arrival) x.request_arrival there)))

-- 702, 703, 705, 707 and 708

pair_fails : (network : Network) (x : Exchange) (sync request : LineJourney)
    → is_some (pair_finding network x sync request) ≡ not (are_paired network x sync request)
pair_fails network x sync request =
    fails_first _ _ (is_followed network x.follow sync.origin) _
    (broken_fails (is_followed network x.follow sync.origin) (follow_finding network x.follow sync.origin))
    (fails_last _ (line_number request.origin == line_number x.request)
    (broken_fails (line_number request.origin == line_number x.request)
    (findings.OtherRequest (line_number request.origin))))

early_fails : (set : ℕ) (report : Report) → is_some (early_finding set report) ≡ not (are_later set report)
early_fails set report =
    let follow : Bool = option_map_or (λ hearing. nat_lt set hearing) report.follow_tag true in
    fails_first _ _ (nat_lt set report.sync_tag) _
    (broken_fails (nat_lt set report.sync_tag) (findings.Early parts.Sync set))
    (fails_first _ _ follow _ (broken_fails follow (findings.Early parts.FollowUp set))
    (fails_first _ _ (nat_lt set report.request_tag) _
    (broken_fails (nat_lt set report.request_tag) (findings.Early parts.DelayReq set))
    (fails_last _ (nat_lt set report.response_tag)
    (broken_fails (nat_lt set report.response_tag) (findings.Early parts.DelayResp set)))))
    ∙ ap not (regroup (nat_lt set report.sync_tag) follow (nat_lt set report.request_tag && nat_lt set report.response_tag)
    ∙ regroup (nat_lt set report.sync_tag && follow) (nat_lt set report.request_tag) (nat_lt set report.response_tag))

told_fails : (master : NodeName) (report : Report) (last : Option LinePlace)
    → is_some (told_finding master report last) ≡ not (option_map_or
    (λ set. option_map_or (λ named. is_named named master) (named_master (event_of set)) false
    && are_later (line_number set) report) last false)
told_fails master report None = refl
told_fails master report (Some set) =
    let named : Bool = option_map_or (λ n. is_named n master) (named_master (event_of set)) false in
    fails_first _ _ named _ (broken_fails named (findings.ToldOther (line_number set)))
    (fails_last _ (are_later (line_number set) report) (early_fails (line_number set) report))

master_fails : (network : Network) (slave : NodeName) (e : LinePlace) (report : Report) (x : Exchange) (sync : LineJourney)
    → is_some (master_finding network slave e report x sync) ≡ not (is_of_master network slave e report x sync)
master_fails network slave e report x sync =
    let told : Bool = is_present_master network slave (site sync.origin) e report in
    let answers : Bool = is_named (site x.request_arrival) (site sync.origin) in
    let domain : Bool = is_domain (slave_at network slave) (master_at network (site sync.origin)) in
    fails_first _ _ told _ (told_fails (site sync.origin) report (last_line network is_set_master slave e.earlier))
    (fails_first _ _ answers _ (broken_fails answers (findings.OtherAnswers (line_number x.request_arrival)))
    (fails_last _ domain (broken_fails domain findings.OtherDomain)))
    ∙ ap not (regroup told answers domain)

reading_fails : (network : Network) (e : LinePlace) → is_some (reading_finding network e) ≡ not (reads_right network e)
reading_fails network e = broken_fails (reads_right network e)
    (findings.WrongReading (line_number e) (option_map line_number (last_line network is_step (site e) e.earlier)))

stay_fails : (network : Network) (s : LineStay) → is_some (stay_finding network s) ≡ not (stay_reads_right network s)
stay_fails network s =
    let rises : Bool = not (nat_lt (reading s.left) (reading s.entered)) in
    fails_first _ _ (reads_right network s.entered) _ (reading_fails network s.entered)
    (fails_first _ _ (reads_right network s.left) _ (reading_fails network s.left)
    (fails_last _ rises (broken_fails rises (findings.Falls (line_number s.entered) (line_number s.left)))))
    ∙ ap not (regroup (reads_right network s.entered) (reads_right network s.left) rises)

of_readings : (a o l b p k : Bool) → (a && (o && (l && (b && (p && k))))) ≡ ((a && (o && l)) && b && (p && k))
of_readings false o l b p k = refl
of_readings true false l b p k = refl
of_readings true true false b p k = refl
of_readings true true true b p k = refl

readings_fail : (network : Network) (x : Exchange) (sync request : LineJourney)
    → is_some (readings_finding network x sync request) ≡ not (are_readings network x sync request)
readings_fail network x sync request =
    let stays : Bool = list_all (stay_reads_right network) sync.stays in
    let others : Bool = list_all (stay_reads_right network) request.stays in
    fails_first _ _ (reads_right network x.sync_arrival) _ (reading_fails network x.sync_arrival)
    (fails_first _ _ (reads_right network sync.origin) _ (reading_fails network sync.origin)
    (fails_first _ _ stays _ (stays_fail (stay_finding network) (stay_reads_right network) (stay_fails network) sync.stays)
    (fails_first _ _ (reads_right network x.request_arrival) _ (reading_fails network x.request_arrival)
    (fails_first _ _ (reads_right network request.origin) _ (reading_fails network request.origin)
    (fails_last _ others
    (stays_fail (stay_finding network) (stay_reads_right network) (stay_fails network) request.stays))))))
    ∙ ap not (of_readings (reads_right network x.sync_arrival) (reads_right network sync.origin) stays
    (reads_right network x.request_arrival) (reads_right network request.origin) others)

size_fails : (sync request : LineJourney) → is_some (size_finding sync request) ≡ not (fits sync && fits request)
size_fails sync request =
    fails_first _ _ (fits sync) _ (broken_fails (fits sync) (findings.TooLong parts.Sync))
    (fails_last _ (fits request) (broken_fails (fits request) (findings.TooLong parts.DelayReq)))

octets_fail : (network : Network) (e : LinePlace) → is_some (octets_finding network e) ≡ not (writes_right network e)
octets_fail network e = broken_fails (writes_right network e) (findings.OtherOctets (line_number e))

follow_fails : (network : Network) (follow : Option LinePlace)
    → is_some (follow_octets network follow) ≡ not (option_map_or (writes_right network) follow true)
follow_fails network None = refl
follow_fails network (Some f) = octets_fail network f

of_octets : (o l f p k a : Bool) → (o && (l && (f && (p && (k && a))))) ≡ ((o && l) && f && (p && k) && a)
of_octets false l f p k a = refl
of_octets true false f p k a = refl
of_octets true true false p k a = refl
of_octets true true true p k a = regroup p k a

all_octets_fail : (network : Network) (x : Exchange) (sync request : LineJourney)
    → is_some (all_octets_finding network x sync request) ≡ not (are_octets network x sync request)
all_octets_fail network x sync request =
    let left : LineStay → Bool = λ s. writes_right network s.left in
    let found : LineStay → Option Finding = λ s. octets_finding network s.left in
    let each : (s : LineStay) → is_some (octets_finding network s.left) ≡ not (writes_right network s.left) =
    λ s. octets_fail network s.left in
    fails_first _ _ (writes_right network sync.origin) _ (octets_fail network sync.origin)
    (fails_first _ _ (list_all left sync.stays) _ (stays_fail found left each sync.stays)
    (fails_first _ _ (option_map_or (writes_right network) x.follow true) _ (follow_fails network x.follow)
    (fails_first _ _ (writes_right network request.origin) _ (octets_fail network request.origin)
    (fails_first _ _ (list_all left request.stays) _ (stays_fail found left each request.stays)
    (fails_last _ (writes_right network x.request_arrival) (octets_fail network x.request_arrival))))))
    ∙ ap not (of_octets (writes_right network sync.origin) (list_all left sync.stays)
    (option_map_or (writes_right network) x.follow true) (writes_right network request.origin)
    (list_all left request.stays) (writes_right network x.request_arrival))

-- a reason is among those that fail exactly where a condition of it fails

abbrev hits : (code : ℕ) → Conditions → Bool
hits code asked = list_any (λ c. code_of c.0 == code && not c.1) asked

any_failing : (code : ℕ) (asked : Conditions)
    → hits code asked ≡ list_any (λ other. code_of other == code) (failing asked)
any_failing code [] = refl
any_failing code (c ∷ asked) = by c.1 (code_of c.0 == code) refl (any_failing code asked)
  where
    by : (holds hit : Bool) → (code_of c.0 == code) ≡ hit
        → hits code asked ≡ list_any (λ other. code_of other == code) (failing asked)
        → (hit && not holds || hits code asked) ≡ list_any (λ other. code_of other == code)
        (map (λ condition. condition.0)
        (if not holds then c ∷ filter (λ condition. not condition.1) asked else filter (λ condition. not condition.1) asked))
    by true true h rest = rest
    by true false h rest = rest
    by false true h rest = λ i. sym h i || rest i
    by false false h rest = λ i. sym h i || rest i

alone_off : (b : Bool) → b ≡ (b || false)
alone_off true = refl
alone_off false = refl

abbrev six : Network → LinePlace → Report → Exchange → LineJourney → LineJourney → Conditions
six network e report x sync request =
    (OtherNumber, are_paired network x sync request)
    ∷ (OtherMaster, is_of_master network (site e) e report x sync)
    ∷ (WrongReading, are_readings network x sync request)
    ∷ (TooBig, fits sync && fits request)
    ∷ (WrongValue, are_results report x sync request)
    ∷ (Bytes, are_octets network x sync request) ∷ []

abbrev both_ways : Network → LinePlace → Report → Exchange → Conditions
both_ways network e report x =
    needs BrokenJourney (unbroken network e draws_sync x.sync_arrival) (λ sync.
    needs BrokenJourney (unbroken network e is_request x.request_arrival) (λ request. six network e report x sync request))

module _ (network : Network) (e : LinePlace) (report : Report) where
  -- of a reason that is asked of an exchange and its journeys
  asked : (code : ℕ) → (701 == code) ≡ false → (704 == code) ≡ false
      → (found : Exchange → LineJourney → LineJourney → Option Finding)
      → ((x : Exchange) (sync request : LineJourney) → is_some (found x sync request) ≡ hits code (six network e report x sync request))
      → is_some (of_exchange network e report found) ≡ hits code (conditions network e report)
  asked code first second found each = at (exchange_of network (site e) e report)
    where
      request_at : (x : Exchange) (sync : LineJourney) (o : Option LineJourney)
          → is_some (option_and_then (found x sync) o) ≡ hits code (needs BrokenJourney o (six network e report x sync))
      request_at x sync None = ap (λ (b : Bool). b && true || false) (sym second)
      request_at x sync (Some request) = each x sync request

      sync_at : (x : Exchange) (o : Option LineJourney)
          → is_some (option_and_then (λ (sync : LineJourney). option_and_then (found x sync)
          (unbroken network e is_request x.request_arrival)) o)
          ≡ hits code (needs BrokenJourney o (λ sync.
          needs BrokenJourney (unbroken network e is_request x.request_arrival) (six network e report x sync)))
      sync_at x None = ap (λ (b : Bool). b && true || false) (sym second)
      sync_at x (Some sync) = request_at x sync (unbroken network e is_request x.request_arrival)

      at : (o : Option Exchange) → is_some (option_and_then (λ (x : Exchange). option_and_then
          (λ (sync : LineJourney). option_and_then (found x sync) (unbroken network e is_request x.request_arrival))
          (unbroken network e draws_sync x.sync_arrival)) o) ≡ hits code (needs NoSuchLine o (both_ways network e report))
      at None = ap (λ (b : Bool). b && true || false) (sym first)
      at (Some x) = sync_at x (unbroken network e draws_sync x.sync_arrival)

  of_place : is_some (place_finding network (site e) e report) ≡ hits 701 (conditions network e report)
  of_place = place_fails network (site e) e report ∙ at (exchange_of network (site e) e report)
    where
      ways : (x : Exchange) (s r : Option LineJourney)
          → false ≡ hits 701 (needs BrokenJourney s (λ sync. needs BrokenJourney r (six network e report x sync)))
      ways x None r = refl
      ways x (Some sync) None = refl
      ways x (Some sync) (Some request) = refl

      at : (o : Option Exchange) → not (is_some o) ≡ hits 701 (needs NoSuchLine o (both_ways network e report))
      at None = refl
      at (Some x) =
          ways x (unbroken network e draws_sync x.sync_arrival) (unbroken network e is_request x.request_arrival)

  of_ways : is_some (option_and_then (ways_finding network e) (exchange_of network (site e) e report))
      ≡ hits 704 (conditions network e report)
  of_ways = at (exchange_of network (site e) e report) refl
    where
      ways : (x : Exchange) (s r : Option LineJourney)
          → not (is_some s && is_some r) ≡ hits 704 (needs BrokenJourney s (λ sync. needs BrokenJourney r (six network e report x sync)))
      ways x None r = refl
      ways x (Some sync) None = refl
      ways x (Some sync) (Some request) = refl

      at : (o : Option Exchange) → exchange_of network (site e) e report ≡ o
          → is_some (option_and_then (ways_finding network e) o) ≡ hits 704 (needs NoSuchLine o (both_ways network e report))
      at None is = refl
      at (Some x) is = ways_fail network e report x is
          ∙ ways x (unbroken network e draws_sync x.sync_arrival) (unbroken network e is_request x.request_arrival)

  by_hits : (why : Why) → is_some (finding network e report why) ≡ hits (code_of why) (conditions network e report)
  by_hits NoSuchLine = of_place
  by_hits BrokenJourney = of_ways
  by_hits OtherNumber = asked 702 refl refl (pair_finding network)
      (λ x sync request. pair_fails network x sync request ∙ alone_off (not (are_paired network x sync request)))
  by_hits OtherMaster = asked 703 refl refl (λ x sync request. master_finding network (site e) e report x sync)
      (λ x sync request. master_fails network (site e) e report x sync
      ∙ alone_off (not (is_of_master network (site e) e report x sync)))
  by_hits WrongReading = asked 705 refl refl (readings_finding network)
      (λ x sync request. readings_fail network x sync request ∙ alone_off (not (are_readings network x sync request)))
  by_hits TooBig = asked 707 refl refl (λ x sync request. size_finding sync request)
      (λ x sync request. size_fails sync request ∙ alone_off (not (fits sync && fits request)))
  by_hits WrongValue = asked 706 refl refl
      (λ x sync request. broken (are_results report x sync request) findings.OtherResults)
      (λ x sync request. broken_fails (are_results report x sync request) findings.OtherResults
      ∙ alone_off (not (are_results report x sync request)))
  by_hits Bytes = asked 708 refl refl (all_octets_finding network)
      (λ x sync request. all_octets_fail network x sync request ∙ alone_off (not (are_octets network x sync request)))

pub each_reason_has_its_finding : EachReasonHasItsFinding
each_reason_has_its_finding network e report why =
    by_hits network e report why ∙ any_failing (code_of why) (conditions network e report)
