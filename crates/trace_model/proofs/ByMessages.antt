-- The results by the messages are those by the readings, where the messages that came to the slave tell the same as
-- those that ports and clocks write.
use Rattle.std.proofs.Common.{◌≡◌, ◌∙◌, ℕ, ℤ, pos, ◌+◌, ◌-◌, ◌^◌, Bool, true, false, ◌&&◌, Option, Some, None}
use Rattle.std.proofs.Common.{refl, sym, ap, subst, arith, int_lt, option_map, option_and_then, if◌then◌else◌, ◌==◌}
use Rattle.std.specs.Prelude.{nat_lt}
use Rattle.std.specs.List.{list_all}
use Rattle.std.specs.Option.{option_map_or}
use Rattle.std.proofs.lemmas.Bool.{and_parts, eqb-true}
use Rattle.std.proofs.lemmas.Bool.Decides.{nat_tests}
use Rattle.std.proofs.lemmas.Int.{ints}
use Rattle.ptp_units.specs.Exchange.{sync_bracket, delay_bracket, offset2, path2}
use Rattle.ptp_units.specs.Interval.{with_residence, less_fraction, too_big}
use Rattle.ptp_units.specs.Moment.{Stamp, stamp_of, fraction_of}
use Rattle.event_codec.specs.Layout.{number_of, type_of}
use Rattle.event_codec.specs.Packet.{Contents}
use Rattle.master_port.specs.Written.{delay_resp}
use Rattle.slave_port.specs.declared.heard.Report.{Report}
use Rattle.slave_port.proofs.Options.{some_step, some_image}
use Rattle.network_model.specs.declared.event.Event.{Event}
use Rattle.network_model.specs.declared.event.Event.TheVariants.{Sync, SyncOne, Follow, Leave, Arrive, Request}
use Rattle.network_model.specs.Network.{Network, NodeName, PortSetup}
use Rattle.network_model.specs.Run.{site_of}
use Rattle.network_model.specs.Kinds.{is_at, is_sync, is_one_step_sync, draws_sync, is_follow, is_request, heard_copy}
use Rattle.network_model.specs.Kinds.{is_arrival, is_hearing}
use Rattle.network_model.specs.Truth.{master_at}
use Rattle.network_model.proofs.Exactness.{sync_bracket-exact, one_step_bracket-exact, delay_bracket-exact}
use Rattle.network_model.proofs.Sites.{at_kind}
use Rattle.trace_model.specs.declared.judgement.Results.{Results}
use Rattle.trace_model.specs.declared.line.TraceOut.{TraceOut}
use Rattle.trace_model.specs.declared.line.TraceOut.TheVariants as outs
use Rattle.trace_model.specs.Line.{Lines, is_made, completes}
use Rattle.trace_model.specs.Record.{LinePlace, line_number, event_of, site, line_at, last_line, reading}
use Rattle.trace_model.specs.Journey.{LineStay, LineJourney, line_begun, with_stay, copy_entered, line_left_from}
use Rattle.trace_model.specs.Journey.{line_residence, line_journey_made, line_journey_of}
use Rattle.trace_model.specs.Octets.{follow_up_sent, answered, sent_after, message_made, writes_right, is_written}
use Rattle.trace_model.specs.Sound.{Exchange, where_passes, below, lines_to, line_of, sender, follow_line, follow_lines}
use Rattle.trace_model.specs.Sound.{unbroken, is_followed, fraction_sent, fits}
use Rattle.trace_model.specs.Sound.{bracket, journey_writes_right}
use Rattle.trace_model.specs.ByMessages.{sync_type, follow_up_type, delay_resp_type, Said, said_at, follow_said, sync_told, sync_bracket_told, delay_bracket_told}
use Rattle.trace_model.specs.ByMessages.{results_told, tells_message, tells_right, IsMeasured, TellsRight}
use Rattle.trace_model.specs.ByMessages.{EachTellsTheReadings, EachSoundTellsTheReadings}
use Rattle.trace_model.proofs.Exchanges.{found_below}
use Rattle.trace_model.proofs.Lines.{line_at-number, last_is}
use Rattle.trace_model.proofs.FieldTests.{packet_tells}
use Rattle.trace_model.proofs.JourneyLines.{made_by, origin_there, line_at-within, line_journey_of-within}
use Rattle.trace_model.proofs.OctetsOfExchanges.{passed, heard_of, exchange_parts, FoundJourney, journey_found}
use Rattle.trace_model.proofs.Said.{Says, line_says, made_after, IsAfter, is_after}

-- a residence that fits the correctionField isn't too big
fits_small : (fraction residence : ℕ) → nat_lt (fraction + residence) (2 ^ 63 - 1) ≡ true
    → int_lt (with_residence (pos fraction) residence) too_big ≡ true
fits_small fraction residence small = grind (arith, ints, nat_tests)

-- the Follow_Up of an exchange, where it has one, is a line that counts
abbrev IsFollowLine : Network → Lines → Option LinePlace → Type 0
IsFollowLine network lines follow = (f : LinePlace) → follow ≡ Some f
    → (is_follow (event_of f) ≡ true) × (line_at network lines (line_number f) ≡ Some f)

is_follow_line : (network : Network) (lines : Lines) (slave : NodeName) (tag : Option ℕ) (follow : Option LinePlace)
    → follow_lines network lines slave tag ≡ Some follow → IsFollowLine network lines follow
is_follow_line network lines slave None follow is f there = cc
is_follow_line network lines slave (Some hearing) follow is f there =
    let line = some_image (λ (e : LinePlace). Some e) (follow_line network lines slave hearing) is in
    let same : line.0 ≡ f = cc in
    let parts = passed (λ (e : LinePlace). is_follow (event_of e))
    (option_and_then (sender network lines) (line_of network lines is_hearing slave hearing)) line.1 in
    subst (λ (e : LinePlace). (is_follow (event_of e) ≡ true) × (line_at network lines (line_number e) ≡ Some e)) same
    (parts.1, heard_of network lines (line_of network lines is_hearing slave hearing) line.0 parts.0)

-- two lines of one number are one
one_line : (network : Network) (lines : Lines) (one other : LinePlace)
    → line_at network lines (line_number one) ≡ Some one → line_at network lines (line_number other) ≡ Some other
    → (line_number one == line_number other) ≡ true → one ≡ other
one_line network lines one other there beside same =
    let number : line_number one ≡ line_number other = eqb-true (line_number one) (line_number other) same in
    let both : Some one ≡ Some other =
    sym there ∙ ap (line_at network lines) number ∙ beside in cc

-- what a Follow_Up says: when its Sync left
record TellsDeparture (network : Network) (f origin : LinePlace) : Type 0 where
  said : Said
  is : said_at follow_up_type f ≡ Some said
  timestamp : said.timestamp ≡ stamp_of (reading origin)
  correction : said.correction ≡ pos (fraction_of (reading origin))
  two_step : is_sync (event_of origin) ≡ true

follow_by : (network : Network) (lines : Lines) (event : Event) (f origin : LinePlace) (m : Contents)
    → event_of f ≡ event → is_follow event ≡ true → line_at network lines (line_number f) ≡ Some f
    → line_at network lines (line_number origin) ≡ Some origin → is_followed network (Some f) origin ≡ true
    → message_made network event f ≡ Some m → Says m (said_at (number_of (type_of m.body)) f) → TellsDeparture network f origin
follow_by network lines (Follow node) f origin m event is there begun followed made says =
    let port = some_step
    (λ (port : PortSetup). option_map (follow_up_sent network port) (last_line network is_sync node f.earlier))
    (master_at network node) made in
    let last = some_image (follow_up_sent network port.0) (last_line network is_sync node f.earlier) port.2 in
    let found = last_is network is_sync node f.earlier last.0 last.1 in
    let sits : last_line network is_sync (site f) f.earlier ≡ Some last.0 =
    ap (λ (v : Event). last_line network is_sync (site_of v) f.earlier) event ∙ last.1 in
    let number : (line_number last.0 == line_number origin) ≡ true =
    sym (ap (λ (o : Option LinePlace). option_map_or (λ l. line_number l == line_number origin) o false) sits)
    ∙ followed in
    let same : last.0 ≡ origin = one_line network lines last.0 origin
    (line_at-within network lines (line_number f) f (line_number last.0) last.0 there found.0) begun number in
    let message : follow_up_sent network port.0 origin ≡ m =
    ap (follow_up_sent network port.0) (sym same) ∙ last.2 in
    by port.0 m message says (subst (λ (l : LinePlace). is_at is_sync node (event_of l) ≡ true) same found.1)
  where
    by : (port : PortSetup) (m : Contents) → follow_up_sent network port origin ≡ m → Says m (said_at (number_of (type_of m.body)) f)
        → is_at is_sync node (event_of origin) ≡ true → TellsDeparture network f origin
    by port m message says sync =
        let at : Says (follow_up_sent network port origin) (said_at follow_up_type f) =
        subst (λ (o : Contents). Says o (said_at (number_of (type_of o.body)) f)) (sym message) says in
        record {
          said = at.said;
          is = at.is;
          timestamp = at.timestamp refl;
          correction = at.correction;
          two_step = at_kind is_sync node (event_of origin) sync;
        }
follow_by network lines _ f origin m event is there begun followed made says = cc

follow_tells : (network : Network) (lines : Lines) (f origin : LinePlace) → is_follow (event_of f) ≡ true
    → line_at network lines (line_number f) ≡ Some f
    → line_at network lines (line_number origin) ≡ Some origin → is_followed network (Some f) origin ≡ true
    → tells_right network f ≡ true → TellsDeparture network f origin
follow_tells network lines f origin is there begun followed tells =
    let says = line_says network f tells in
    follow_by network lines (event_of f) f origin says.0 refl is there begun followed says.1 says.2

-- the bracket of the Sync, by its message and its Follow_Up
record TellsBracket (follow : Option LinePlace) (sync : Said) (arrival : LinePlace) (journey : LineJourney) : Type 0 where
  said : Option Said
  is : follow_said follow ≡ Some said
  bracket : sync_told (reading arrival) said sync ≡ bracket arrival journey

sync_tells : (network : Network) (lines : Lines) (follow : Option LinePlace) (arrival : LinePlace)
    (journey : LineJourney) (m : Contents) (there : Option Said)
    → IsFollowLine network lines follow → line_at network lines (line_number journey.origin) ≡ Some journey.origin
    → is_followed network follow journey.origin ≡ true → option_map_or (tells_right network) follow true ≡ true
    → fits journey ≡ true → IsAfter journey m → (says : Says m there)
    → TellsBracket follow says.said arrival journey
sync_tells network lines None arrival journey m there found begun followed tells small after says =
    let one = after.one_step followed in
    let fraction : fraction_sent journey.origin ≡ fraction_of (reading journey.origin) =
    ap (λ (b : Bool). if b then fraction_of (reading journey.origin) else 0) followed in
    let little : int_lt (with_residence (pos (fraction_of (reading journey.origin))) (line_residence journey)) too_big ≡ true =
    fits_small (fraction_of (reading journey.origin)) (line_residence journey)
    (ap (λ (n : ℕ). nat_lt (n + line_residence journey) (2 ^ 63 - 1)) (sym fraction) ∙ small) in
    record {
      said = None;
      is = refl;
      bracket =
          ap (λ (s : Stamp). sync_bracket (reading arrival) s (pos 0) says.said.correction) (says.timestamp one.0 ∙ one.1)
          ∙ ap (sync_bracket (reading arrival) (stamp_of (reading journey.origin)) (pos 0))
          (says.correction ∙ after.correction
          ∙ ap (λ (n : ℕ). with_residence (pos n) (line_residence journey)) fraction)
          ∙ one_step_bracket-exact (reading arrival) (reading journey.origin) (line_residence journey) little;
    }
sync_tells network lines (Some f) arrival journey m there found begun followed tells small after says =
    let line = found f refl in
    let departure = follow_tells network lines f journey.origin line.0 line.1 begun followed tells in
    let fraction : fraction_sent journey.origin ≡ 0 = two_step_fraction (event_of journey.origin) departure.two_step in
    let little : int_lt (with_residence (pos 0) (line_residence journey)) too_big ≡ true =
    fits_small 0 (line_residence journey)
    (ap (λ (n : ℕ). nat_lt (n + line_residence journey) (2 ^ 63 - 1)) (sym fraction) ∙ small) in
    record {
      said = Some departure.said;
      is = ap (option_map (λ (s : Said). Some s)) departure.is;
      bracket =
          ap (λ (s : Stamp). sync_bracket (reading arrival) s departure.said.correction says.said.correction)
          departure.timestamp
          ∙ ap (λ (c : ℤ). sync_bracket (reading arrival) (stamp_of (reading journey.origin)) c says.said.correction)
          departure.correction
          ∙ ap (sync_bracket (reading arrival) (stamp_of (reading journey.origin)) (pos (fraction_of (reading journey.origin))))
          (says.correction ∙ after.correction
          ∙ ap (λ (n : ℕ). with_residence (pos n) (line_residence journey)) fraction)
          ∙ sync_bracket-exact (reading arrival) (reading journey.origin) (line_residence journey) little;
    }
  where
    two_step_fraction : (event : Event) → is_sync event ≡ true
        → (if is_one_step_sync event then fraction_of (reading journey.origin) else 0) ≡ 0
    two_step_fraction (Sync node at) is = refl
    two_step_fraction _ is = cc

-- what a Delay_Resp says: when the Delay_Req arrived
record TellsArrival (e : LinePlace) (journey : LineJourney) : Type 0 where
  said : Said
  is : said_at delay_resp_type e ≡ Some said
  timestamp : said.timestamp ≡ stamp_of (reading e)
  correction : said.correction
      ≡ less_fraction (with_residence (pos (fraction_sent journey.origin)) (line_residence journey)) (fraction_of (reading e))

response_by : (network : Network) (event : Event) (e : LinePlace) (copy : ℕ) (journey : LineJourney) (m : Contents)
    → is_arrival event ≡ true → heard_copy event ≡ Some copy
    → line_journey_of network e.earlier copy ≡ Some journey → message_made network event e ≡ Some m
    → Says m (said_at (number_of (type_of m.body)) e) → TellsArrival e journey
response_by network (Arrive node taken at) e copy journey m is heard there made says =
    let same : taken ≡ copy = cc in
    let port = some_step
    (λ (port : PortSetup). option_and_then (answered network port e) (line_journey_of network e.earlier taken))
    (master_at network node) made in
    let from : option_and_then (answered network port.0 e) (line_journey_of network e.earlier taken)
    ≡ answered network port.0 e journey =
    ap (λ (n : ℕ). option_and_then (answered network port.0 e) (line_journey_of network e.earlier n)) same
    ∙ ap (option_and_then (answered network port.0 e)) there in
    let request = some_image (λ (r : Contents). delay_resp port.0.config r.header (reading e))
    (sent_after network journey) (sym from ∙ port.2) in
    let after = is_after network journey request.0 request.1 in
    let at : Says (delay_resp port.0.config request.0.header (reading e)) (said_at delay_resp_type e) =
    subst (λ (o : Contents). Says o (said_at (number_of (type_of o.body)) e)) (sym request.2) says in
    record {
      said = at.said;
      is = at.is;
      timestamp = at.timestamp refl;
      correction = at.correction ∙ ap (λ (c : ℤ). less_fraction c (fraction_of (reading e))) after.correction;
    }
response_by network _ e copy journey m is heard there made says = cc

request_fraction : (event : Event) (t : ℕ) → is_request event ≡ true → (if is_one_step_sync event then fraction_of t else 0) ≡ 0
request_fraction event t is = by (is_one_step_sync event) refl
  where
    apart : (event : Event) → is_request event ≡ true → is_one_step_sync event ≡ false
    apart (Request node at) is = refl
    apart _ is = cc

    by : (one : Bool) → is_one_step_sync event ≡ one → (if one then fraction_of t else 0) ≡ 0
    by true e = let other = apart event is in cc
    by false e = refl

delay_tells : (e : LinePlace) (journey : LineJourney) (x : Exchange) → x.request_arrival ≡ e → x.request ≡ journey.origin
    → is_request (event_of journey.origin) ≡ true → fits journey ≡ true → TellsArrival e journey
    → delay_bracket_told x ≡ Some (bracket e journey)
delay_tells e journey x arrives leaves begins small tells =
    let fraction : fraction_sent journey.origin ≡ 0 =
    request_fraction (event_of journey.origin) (reading journey.origin) begins in
    let little : int_lt (with_residence (pos 0) (line_residence journey)) too_big ≡ true =
    fits_small 0 (line_residence journey)
    (ap (λ (n : ℕ). nat_lt (n + line_residence journey) (2 ^ 63 - 1)) (sym fraction) ∙ small) in
    let correction : tells.said.correction
    ≡ less_fraction (with_residence (pos 0) (line_residence journey)) (fraction_of (reading e)) =
    tells.correction
    ∙ ap (λ (n : ℕ). less_fraction (with_residence (pos n) (line_residence journey)) (fraction_of (reading e))) fraction in
    ap (λ (l : LinePlace). option_map (λ (r : Said). delay_bracket r.timestamp r.correction (reading x.request))
    (said_at delay_resp_type l)) arrives
    ∙ ap (option_map (λ (r : Said). delay_bracket r.timestamp r.correction (reading x.request))) tells.is
    ∙ ap Some (
    ap (λ (l : LinePlace). delay_bracket tells.said.timestamp tells.said.correction (reading l)) leaves
    ∙ ap (λ (s : Stamp). delay_bracket s tells.said.correction (reading journey.origin)) tells.timestamp
    ∙ ap (λ (c : ℤ). delay_bracket (stamp_of (reading e)) c (reading journey.origin)) correction
    ∙ delay_bracket-exact (reading e) (reading journey.origin) (line_residence journey) little)

-- the line that made the copy which arrives, with the journey to there
record FoundCopy (network : Network) (lines : Lines) (arrival : LinePlace) (journey : LineJourney) : Type 0 where
  s : LinePlace
  is : sender network lines arrival ≡ Some s
  made : line_journey_made network (event_of s) s (line_journey_of network s.earlier) ≡ Some journey

found_copy : (network : Network) (e : LinePlace) (kind : Event → Bool) (arrival : LinePlace) (journey : LineJourney)
    → FoundJourney network e kind arrival journey → FoundCopy network (lines_to e) arrival journey
found_copy network e kind arrival journey found =
    let lines : Lines = lines_to e in
    let by = made_by network lines found.copy journey found.there in
    record {
      s = by.s;
      is = ap (option_and_then (below (line_at network lines) (line_number arrival))) found.heard
          ∙ found_below (line_at network lines) (line_number arrival) found.copy found.before ∙ by.there;
      made = by.made;
    }

-- the message of that copy
record CopyTells (arrival s : LinePlace) (journey : LineJourney) : Type 0 where
  m : Contents
  after : IsAfter journey m
  says : Says m (said_at sync_type s)

copy_tells : (network : Network) (arrival s : LinePlace) (journey : LineJourney)
    → line_journey_made network (event_of s) s (line_journey_of network s.earlier) ≡ Some journey
    → draws_sync (event_of journey.origin) ≡ true → tells_right network s ≡ true → CopyTells arrival s journey
copy_tells network arrival s journey made begins tells =
    let message = line_says network s tells in
    let after = is_after network journey message.0 (made_after network (event_of s) s journey message.0 made message.1) in
    record {
      m = message.0;
      after = after;
      says = subst (λ (kind : ℕ). Says message.0 (said_at kind s)) (after.kind begins) message.2;
    }

-- the bracket of the Sync
sync_bracket_tells : (network : Network) (e : LinePlace) (report : Report) (x : Exchange) (sync request : LineJourney)
    → IsMeasured network e report x sync request → TellsRight network (lines_to e) x
    → sync_bracket_told network (lines_to e) x ≡ Some (bracket x.sync_arrival sync)
sync_bracket_tells network e report x sync request is tells =
    let lines : Lines = lines_to e in
    let found = journey_found network e draws_sync x.sync_arrival sync is.sync_unbroken in
    let made = found_copy network e draws_sync x.sync_arrival sync found in
    let right : tells_right network made.s ≡ true =
    sym (ap (λ (o : Option LinePlace). option_map_or (tells_right network) o false) made.is) ∙ tells.sync in
    let copy = copy_tells network x.sync_arrival made.s sync made.made found.begins right in
    let has = exchange_parts network (site e) e report x is.lines in
    let pair = and_parts (is_followed network x.follow sync.origin) (line_number request.origin == line_number x.request)
    is.paired in
    let told = sync_tells network lines x.follow x.sync_arrival sync copy.m (said_at sync_type made.s)
    (is_follow_line network lines (site e) report.follow_tag x.follow has.follow)
    (origin_there network lines found.copy sync found.there) pair.0 tells.follow is.sync_fits copy.after copy.says in
    ap (λ (o : Option LinePlace). option_and_then (λ (s : Said). option_map
    (λ (f : Option Said). sync_told (reading x.sync_arrival) f s) (follow_said x.follow))
    (option_and_then (said_at sync_type) o)) made.is
    ∙ ap (option_and_then (λ (s : Said). option_map
    (λ (f : Option Said). sync_told (reading x.sync_arrival) f s) (follow_said x.follow))) copy.says.is
    ∙ ap (option_map (λ (f : Option Said). sync_told (reading x.sync_arrival) f copy.says.said)) told.is
    ∙ ap Some told.bracket

-- the bracket of the Delay_Req
delay_bracket_tells : (network : Network) (e : LinePlace) (report : Report) (x : Exchange) (sync request : LineJourney)
    → IsMeasured network e report x sync request → TellsRight network (lines_to e) x
    → delay_bracket_told x ≡ Some (bracket x.request_arrival request)
delay_bracket_tells network e report x sync request is tells =
    let lines : Lines = lines_to e in
    let found = journey_found network e is_request x.request_arrival request is.request_unbroken in
    let has = exchange_parts network (site e) e report x is.lines in
    let heard : Option LinePlace = where_passes (λ (l : LinePlace). completes l.line.out)
    (line_of network lines is_hearing (site e) report.response_tag) in
    let arrives = passed (λ (l : LinePlace). is_arrival (event_of l) && is_made l.line.out)
    (option_and_then (sender network lines) heard) has.arrival in
    let there = heard_of network lines heard x.request_arrival arrives.0 in
    let earlier : line_journey_of network x.request_arrival.earlier found.copy ≡ Some request =
    sym (line_journey_of-within network lines (line_number x.request_arrival) x.request_arrival found.copy found.before there)
    ∙ found.there in
    let message = line_says network x.request_arrival tells.response in
    let told = response_by network (event_of x.request_arrival) x.request_arrival found.copy request message.0
    (and_parts (is_arrival (event_of x.request_arrival)) (is_made x.request_arrival.line.out) arrives.1).0
    found.heard earlier message.1 message.2 in
    let line = passed (λ (l : LinePlace). is_at is_request (site e) (event_of l))
    (line_at network lines report.request_tag) has.request in
    let number : line_number x.request ≡ report.request_tag =
    line_at-number network lines report.request_tag x.request line.0 in
    let begun = origin_there network lines found.copy request found.there in
    let pair = and_parts (is_followed network x.follow sync.origin) (line_number request.origin == line_number x.request)
    is.paired in
    let same : request.origin ≡ x.request = one_line network lines request.origin x.request begun
    (subst (λ (n : ℕ). line_at network lines n ≡ Some x.request) (sym number) line.0) pair.1 in
    delay_tells x.request_arrival request x refl (sym same) found.begins is.request_fits told

abbrev with_brackets : ℤ → ℤ → Results
with_brackets a b = record { offset2 = offset2 a b; path2 = path2 a b }

pub each_tells_the_readings : EachTellsTheReadings
each_tells_the_readings network e report x sync request is tells =
    ap (option_and_then (λ (y : Exchange). option_and_then (λ (s : LineJourney). option_and_then
    (λ (r : LineJourney). results_told network (lines_to e) y) (unbroken network e is_request y.request_arrival))
    (unbroken network e draws_sync y.sync_arrival))) is.lines
    ∙ ap (option_and_then (λ (s : LineJourney). option_and_then
    (λ (r : LineJourney). results_told network (lines_to e) x) (unbroken network e is_request x.request_arrival)))
    is.sync_unbroken
    ∙ ap (option_and_then (λ (r : LineJourney). results_told network (lines_to e) x)) is.request_unbroken
    ∙ ap (option_and_then (λ (a : ℤ). option_map (with_brackets a) (delay_bracket_told x)))
    (sync_bracket_tells network e report x sync request is tells)
    ∙ ap (option_map (with_brackets (bracket x.sync_arrival sync)))
    (delay_bracket_tells network e report x sync request is tells)

-- octets that are right tell right

right_tells : (made : Option Contents) (out : TraceOut) → is_written made out ≡ true → tells_message made out ≡ true
right_tells (Some m) (outs.Made octets) right = packet_tells m octets.items right
right_tells (Some m) _ right = cc
right_tells None out right = cc

line_tells : (network : Network) (e : LinePlace) → writes_right network e ≡ true → tells_right network e ≡ true
line_tells network e right = right_tells (message_made network (event_of e) e) e.line.out right

follow_right : (network : Network) (follow : Option LinePlace) → option_map_or (writes_right network) follow true ≡ true
    → option_map_or (tells_right network) follow true ≡ true
follow_right network None right = refl
follow_right network (Some f) right = line_tells network f right

-- the last copy of a journey is among its octets
begun_right : (network : Network) (e : LinePlace) (journey : LineJourney) → line_begun e ≡ journey
    → journey_writes_right network journey ≡ true → writes_right network e ≡ true
begun_right network e journey same right =
    (and_parts (writes_right network e) true (ap (journey_writes_right network) same ∙ right)).0

last_right : (network : Network) (event : Event) (e : LinePlace) (journeys : ℕ → Option LineJourney) (journey : LineJourney)
    → line_journey_made network event e journeys ≡ Some journey → journey_writes_right network journey ≡ true
    → writes_right network e ≡ true
last_right network (Sync node at) e journeys journey made right =
    begun_right network e journey (cc) right
last_right network (SyncOne node at) e journeys journey made right =
    begun_right network e journey (cc) right
last_right network (Request node at) e journeys journey made right =
    begun_right network e journey (cc) right
last_right network (Leave node transit at) e journeys journey made right =
    let entered = some_step (line_left_from node e journeys) (line_at network e.earlier transit) made in
    let copy = some_step (λ (c : ℕ). option_map (with_stay e entered.0) (journeys c))
    (copy_entered node entered.0) entered.2 in
    let prior = some_image (with_stay e entered.0) (journeys copy.0) copy.2 in
    let whole : journey_writes_right network (with_stay e entered.0 prior.0) ≡ true =
    ap (journey_writes_right network) prior.2 ∙ right in
    let stays = and_parts (writes_right network prior.0.origin)
    (writes_right network e && list_all (λ (stay : LineStay). writes_right network stay.left) prior.0.stays) whole in
    (and_parts (writes_right network e) (list_all (λ (stay : LineStay). writes_right network stay.left) prior.0.stays)
    stays.1).0
last_right network _ e journeys journey made right = cc

pub each_sound_tells_the_readings : EachSoundTellsTheReadings
each_sound_tells_the_readings network e report x sync request is right =
    let parts = and_parts (journey_writes_right network sync && option_map_or (writes_right network) x.follow true
    && journey_writes_right network request) (writes_right network x.request_arrival) right in
    let more = and_parts (journey_writes_right network sync && option_map_or (writes_right network) x.follow true)
    (journey_writes_right network request) parts.0 in
    let first = and_parts (journey_writes_right network sync) (option_map_or (writes_right network) x.follow true)
    more.0 in
    let found = journey_found network e draws_sync x.sync_arrival sync is.sync_unbroken in
    let made = found_copy network e draws_sync x.sync_arrival sync found in
    let copy = line_tells network made.s (last_right network (event_of made.s) made.s (line_journey_of network made.s.earlier)
    sync made.made first.0) in
    each_tells_the_readings network e report x sync request is (record {
      sync = ap (λ (o : Option LinePlace). option_map_or (tells_right network) o false) made.is ∙ copy;
      follow = follow_right network x.follow first.1;
      response = line_tells network x.request_arrival parts.1;
    })
