-- Of lines that tell a run, whatever exchange a report line has, its octets are right: each of its lines that tells
-- of a message counts, so the message was made.
use Rattle.std.proofs.Common.{◌≡◌, ◌∙◌, ℕ, ◌<◌, Bool, true, false, [], ◌∷◌, length, Option, Some, None, Ok, refl, sym, ap}
use Rattle.std.proofs.Common.{subst, option_map, option_and_then, if◌then◌else◌}
use Rattle.std.specs.Prelude.{◌==◌, ◌&&◌, ◌||◌, not, nat_lt}
use Rattle.std.specs.Option.{option_map_or}
use Rattle.std.specs.List.{list_all}
use Rattle.std.proofs.lemmas.Bool.{and_parts, and_from, ltb-true}
use Rattle.event_codec.specs.Packet.{Contents}
use Rattle.slave_port.specs.declared.heard.Report.{Report}
use Rattle.slave_port.proofs.Options.{some_step, some_image}
use Rattle.network_model.specs.declared.event.Event.{Event}
use Rattle.network_model.specs.declared.event.Event.TheVariants.{Sync, SyncOne, Follow, Leave, Request}
use Rattle.network_model.specs.declared.stepped.Outcome.{Outcome}
use Rattle.network_model.specs.Network.{Network, NodeName}
use Rattle.network_model.specs.Run.{Run, Place, place, until}
use Rattle.network_model.specs.Kinds.{is_follow, is_request, draws_sync, heard_copy, is_arrival, is_hearing}
use Rattle.network_model.specs.Truth.{copy_of}
use Rattle.trace_model.specs.declared.line.TraceLine.{TraceLine}
use Rattle.trace_model.specs.declared.line.TraceOut.{TraceOut}
use Rattle.trace_model.specs.Line.{Lines, is_made, is_refused, is_ignored, is_master, is_slave, is_clock, completes}
use Rattle.trace_model.specs.Line.{counts, is_good}
use Rattle.trace_model.specs.Record.{LinePlace, line_place, event_of, site, line_number, line_at, events}
use Rattle.trace_model.specs.Journey.{LineJourney, LineStay, line_begun, with_stay, copy_entered, line_left_from, line_journey_made}
use Rattle.trace_model.specs.Journey.{line_journey_of, left_once}
use Rattle.trace_model.specs.Octets.{writes_right}
use Rattle.trace_model.specs.Sound.{Exchange, where_passes, below, lines_to, line_of, sender, sync_line, follow_line}
use Rattle.trace_model.specs.Sound.{follow_lines, arrival_line, is_report_in_place, exchange_of, journey_to, unbroken}
use Rattle.trace_model.specs.Sound.{journey_writes_right}
use Rattle.trace_model.specs.Told.{TellsOutcome, TellsRun}
use Rattle.trace_model.specs.Faithful.{TellsPlace}
use Rattle.trace_model.specs.Complete.{EachExchangeIsWritten}
use Rattle.trace_model.proofs.Lines.{line_at-number}
use Rattle.trace_model.proofs.Messages.{each_message_is_written}
use Rattle.slave_port.specs.declared.heard.Heard.TheVariants as answers
use Rattle.network_model.specs.declared.stepped.Outcome.TheVariants as outcomes

-- what passed a test
pub passed : {X : Type 0} (test : X → Bool) (o : Option X) {x : X} → where_passes test o ≡ Some x
    → (o ≡ Some x) × (test x ≡ true)
passed test None is = cc
passed test (Some y) {x = x} is = by (test y) refl is
  where
    by : (b : Bool) → test y ≡ b → (if b then Some y else None) ≡ Some x → (Some y ≡ Some x) × (test x ≡ true)
    by true e is = (is, let same : y ≡ x = cc in subst (λ (z : _). test z ≡ true) same e)
    by false e is = cc

pub was_below : {X : Type 0} (found : ℕ → Option X) (limit number : ℕ) {x : X} → below found limit number ≡ Some x
    → (number < limit) × (found number ≡ Some x)
was_below found limit number {x = x} is = by (nat_lt number limit) refl is
  where
    by : (b : Bool) → nat_lt number limit ≡ b → (if b then found number else None) ≡ Some x
        → (number < limit) × (found number ≡ Some x)
    by true small is = (ltb-true number limit small, is)
    by false small is = cc

-- a line that tells of a message tells of one that was made
made_outcome : (copy : Option Contents) (outcome : Outcome) (out : TraceOut) → TellsOutcome copy outcome out
    → is_made out ≡ true → outcome ≡ outcomes.Made
made_outcome copy outcomes.Made out told is = refl
made_outcome copy outcomes.Done out told is = let other : is_made out ≡ false = ap is_made told in cc
made_outcome copy outcomes.Entered out told is = let other : is_made out ≡ false = ap is_made told in cc
made_outcome copy (outcomes.Heard answers.Held) out told is = let other : is_made out ≡ false = ap is_made told in cc
made_outcome copy (outcomes.Heard answers.Completed) out told is =
    let other : is_made out ≡ false = ap is_made told in cc
made_outcome copy (outcomes.Heard (answers.Report report)) out told is =
    let other : is_made out ≡ false = ap is_made told in cc
made_outcome copy (outcomes.Heard (answers.Ignored reason)) out told is =
    let other : is_made out ≡ false = ap is_made told in cc
made_outcome copy (outcomes.Refused code) out told is = let other : is_made out ≡ false = ap is_made told in cc

made_right : (network : Network) (p : Place) (e : LinePlace) → TellsPlace network p e → is_made e.line.out ≡ true
    → writes_right network e ≡ true
made_right network p e tells is =
    let made = made_outcome (copy_of network (until p) tells.told.stepped.tag) tells.told.stepped.outcome e.line.out
    tells.told.told.outcome is in
    each_message_is_written network p e tells (tells.told.answered.outcome ∙ ap Ok made)

not_refused : (x y z : Bool) → (x && (y || z)) ≡ true → not z ≡ true → y ≡ true
not_refused true true z good counted = refl
not_refused true false true good counted = cc
not_refused true false false good counted = cc
not_refused false y z good counted = cc

unrefused : (x y : Bool) → not (x || y) ≡ true → not x ≡ true
unrefused true y is = cc
unrefused false y is = refl

message_there : (network : Network) (event : Event) (line : TraceLine) → line.event ≡ event
    → counts network line ≡ true
    → (journey : LineJourney) (e : LinePlace) (journeys : ℕ → Option LineJourney)
    → line_journey_made network event e journeys ≡ Some journey → is_made line.out ≡ true
message_there network event line same counted journey e journeys made = by event same made
  where
    parts : (is_good network line.event line.out ≡ true) × (not (is_refused line.out || is_ignored line.out) ≡ true)
    parts = and_parts (is_good network line.event line.out) (not (is_refused line.out || is_ignored line.out)) counted

    good : (v : Event) → line.event ≡ v → is_good network v line.out ≡ true
    good v same = subst (λ (v : Event). is_good network v line.out ≡ true) same parts.0

    by : (v : Event) → line.event ≡ v → line_journey_made network v e journeys ≡ Some journey → is_made line.out ≡ true
    by (Sync node at) same is = (and_parts (is_master network node) (is_made line.out) (good (Sync node at) same)).1
    by (SyncOne node at) same is =
        (and_parts (is_master network node) (is_made line.out) (good (SyncOne node at) same)).1
    by (Request node at) same is =
        (and_parts (is_slave network node) (is_made line.out) (good (Request node at) same)).1
    by (Leave node transit at) same is =
        not_refused (is_clock network node) (is_made line.out) (is_refused line.out) (good (Leave node transit at) same) (unrefused (is_refused line.out) (is_ignored line.out) parts.1)
    by _ same is = cc

-- a journey goes on with right octets
goes_right : (network : Network) (event : Event) (e : LinePlace) (journeys : ℕ → Option LineJourney) (journey : LineJourney)
    → line_journey_made network event e journeys ≡ Some journey
    → writes_right network e ≡ true
    → ((copy : ℕ) (j : LineJourney) → journeys copy ≡ Some j → journey_writes_right network j ≡ true)
    → journey_writes_right network journey ≡ true
goes_right network (Sync node at) e journeys journey made right before =
    let same : line_begun e ≡ journey =
    cc in subst (λ (j : LineJourney). journey_writes_right network j ≡ true) same (λ i. right i && true)
goes_right network (SyncOne node at) e journeys journey made right before =
    let same : line_begun e ≡ journey =
    cc in subst (λ (j : LineJourney). journey_writes_right network j ≡ true) same (λ i. right i && true)
goes_right network (Request node at) e journeys journey made right before =
    let same : line_begun e ≡ journey =
    cc in subst (λ (j : LineJourney). journey_writes_right network j ≡ true) same (λ i. right i && true)
goes_right network (Leave node transit at) e journeys journey made right before =
    let entered = some_step (line_left_from node e journeys) (line_at network e.earlier transit) made in
    let copy = some_step (λ (c : ℕ). option_map (with_stay e entered.0) (journeys c))
    (copy_entered node entered.0) entered.2 in
    let prior = some_image (with_stay e entered.0) (journeys copy.0) copy.2 in
    let parts = and_parts (writes_right network prior.0.origin)
    (list_all (λ (stay : LineStay). writes_right network stay.left) prior.0.stays) (before copy.0 prior.0 prior.1) in
    subst (λ (j : LineJourney). journey_writes_right network j ≡ true) prior.2
    (and_from (writes_right network prior.0.origin) (writes_right network e && list_all (λ (stay : LineStay). writes_right network stay.left) prior.0.stays) parts.0
    (and_from (writes_right network e) (list_all (λ (stay : LineStay). writes_right network stay.left) prior.0.stays) right parts.1))
goes_right network _ e journeys journey made right before = cc

journey_right : (network : Network) (run : Run) (lines : Lines) (number : ℕ) (journey : LineJourney)
    → TellsRun network run lines → line_journey_of network lines number ≡ Some journey
    → journey_writes_right network journey ≡ true
journey_right network run [] number journey told is = cc
journey_right network [] (line ∷ lines) number journey told is = absurd told
journey_right network (event ∷ earlier) (line ∷ lines) number journey told is =
    at (length lines == number) (counts network line) refl is
    (λ n j known. journey_right network earlier lines n j told.1 known)
  where
    at : (here counted : Bool) → counts network line ≡ counted
        → (if here then (if counted then line_journey_made network line.event (line_place line lines)
        (line_journey_of network lines) else None) else line_journey_of network lines number) ≡ Some journey
        → ((n : ℕ) (j : LineJourney) → line_journey_of network lines n ≡ Some j → journey_writes_right network j ≡ true)
        → journey_writes_right network journey ≡ true
    at true true counted is before =
        let right = made_right network (place event earlier) (line_place line lines)
        (record { told = told.0; before = told.1 })
        (message_there network line.event line refl counted journey (line_place line lines)
        (line_journey_of network lines) is) in
        goes_right network line.event (line_place line lines) (line_journey_of network lines) journey is right before
    at true false counted is before = cc
    at false counted e is before = before number journey is

-- the line of a number counts, and tells an event
line_told : (network : Network) (run : Run) (lines : Lines) (number : ℕ) (e : LinePlace) → TellsRun network run lines
    → line_at network lines number ≡ Some e
    → (p : Place) × TellsPlace network p e × (counts network e.line ≡ true)
line_told network run [] number e told is = cc
line_told network [] (line ∷ lines) number e told is = absurd told
line_told network (event ∷ earlier) (line ∷ lines) number e told is =
    at (length lines == number) (counts network line) refl is (line_told network earlier lines number e told.1)
  where
    at : (here counted : Bool) → counts network line ≡ counted
        → (if here then (if counted then Some (line_place line lines) else None) else line_at network lines number)
        ≡ Some e
        → (line_at network lines number ≡ Some e
        → (p : Place) × TellsPlace network p e × (counts network e.line ≡ true))
        → (p : Place) × TellsPlace network p e × (counts network e.line ≡ true)
    at true true counted is before =
        let same : line_place line lines ≡ e = cc in
        let here : TellsPlace network (place event earlier) (line_place line lines) =
        record { told = told.0; before = told.1 } in (
          place event earlier,
          subst (λ (o : LinePlace). TellsPlace network (place event earlier) o) same here,
          subst
              (λ (o : LinePlace). counts network o.line ≡ true) same counted,
        )
    at true false counted is before = cc
    at false counted e is before = before is

-- a Follow_Up's line that counts tells of a message
follow_there : (network : Network) (event : Event) (line : TraceLine) → line.event ≡ event
    → counts network line ≡ true → is_follow event ≡ true → is_made line.out ≡ true
follow_there network (Follow node) line same counted is =
    let good = (and_parts (is_good network line.event line.out) (not (is_refused line.out || is_ignored line.out)) counted).0 in
    (and_parts (is_master network node) (is_made line.out) (subst (λ (v : Event). is_good network v line.out ≡ true) same good)).1
follow_there network _ line same counted is = cc

module _ (network : Network) (run : Run) (lines : Lines) (told : TellsRun network run lines) where
  -- the line that made what was heard
  sender_told : (o : Option LinePlace) (e : LinePlace) → option_and_then (sender network lines) o ≡ Some e
      → (p : Place) × TellsPlace network p e × (counts network e.line ≡ true)
  sender_told o e is =
      let hearing = some_step (sender network lines) o is in
      let copy = some_step (below (line_at network lines) (line_number hearing.0))
      (heard_copy (event_of hearing.0)) hearing.2 in
      line_told network run lines copy.0 e told
      (was_below (line_at network lines) (line_number hearing.0) copy.0 copy.2).1

  follow_right : (slave : NodeName) (follow : Option ℕ) (found : Option LinePlace)
      → follow_lines network lines slave follow ≡ Some found
      → option_map_or (writes_right network) found true ≡ true
  follow_right slave None found is = let same : None ≡ found = cc in
      ap (λ (o : Option LinePlace). option_map_or (writes_right network) o true) (sym same)
  follow_right slave (Some hearing) found is =
      let line = some_image (λ (e : LinePlace). Some e) (follow_line network lines slave hearing) is in
      let parts = passed (λ (e : LinePlace). is_follow (event_of e))
      (option_and_then (sender network lines) (line_of network lines is_hearing slave hearing)) line.1 in
      let here = sender_told (line_of network lines is_hearing slave hearing) line.0 parts.0 in
      ap (λ (o : Option LinePlace). option_map_or (writes_right network) o true) (sym line.2)
      ∙ made_right network here.0 line.0 here.1
      (follow_there network (event_of line.0) line.0.line refl here.2 parts.1)

  arrival_right : (slave : NodeName) (hearing : ℕ) (e : LinePlace) → arrival_line network lines slave hearing ≡ Some e
      → writes_right network e ≡ true
  arrival_right slave hearing e is =
      let heard : Option LinePlace =
      where_passes (λ (e : LinePlace). completes e.line.out) (line_of network lines is_hearing slave hearing) in
      let parts = passed (λ (e : LinePlace). is_arrival (event_of e) && is_made e.line.out)
      (option_and_then (sender network lines) heard) is in
      let here = sender_told heard e parts.0 in
      made_right network here.0 e here.1 (and_parts (is_arrival (event_of e)) (is_made e.line.out) parts.1).1

-- the line that made what is heard counts
pub heard_of : (network : Network) (lines : Lines) (o : Option LinePlace) (e : LinePlace)
    → option_and_then (sender network lines) o ≡ Some e → line_at network lines (line_number e) ≡ Some e
heard_of network lines o e is =
    let hearing = some_step (sender network lines) o is in
    let copy = some_step (below (line_at network lines) (line_number hearing.0)) (heard_copy (event_of hearing.0))
    hearing.2 in
    let there = (was_below (line_at network lines) (line_number hearing.0) copy.0 copy.2).1 in
    subst (λ (n : ℕ). line_at network lines n ≡ Some e) (sym (line_at-number network lines copy.0 e there)) there

-- the journey of what arrived is that of a copy from before it
pub record FoundJourney (network : Network) (e : LinePlace) (kind : Event → Bool) (arrival : LinePlace)
    (journey : LineJourney) : Type 0 where
  pub copy : ℕ
  pub heard : heard_copy (event_of arrival) ≡ Some copy
  pub before : copy < line_number arrival
  pub there : line_journey_of network (lines_to e) copy ≡ Some journey
  pub begins : kind (event_of journey.origin) ≡ true

pub journey_found : (network : Network) (e : LinePlace) (kind : Event → Bool) (arrival : LinePlace)
    (journey : LineJourney)
    → unbroken network e kind arrival ≡ Some journey → FoundJourney network e kind arrival journey
journey_found network e kind arrival journey is =
    let once = passed (left_once (events network e.earlier)) (journey_to network (lines_to e) kind arrival) is in
    let begins = passed (λ (j : LineJourney). kind (event_of j.origin))
    (option_and_then (below (line_journey_of network (lines_to e)) (line_number arrival))
    (heard_copy (event_of arrival))) once.0 in
    let copy = some_step (below (line_journey_of network (lines_to e)) (line_number arrival))
    (heard_copy (event_of arrival)) begins.0 in
    let there = was_below (line_journey_of network (lines_to e)) (line_number arrival) copy.0 copy.2 in
    record { copy = copy.0; heard = copy.1; before = there.0; there = there.1; begins = begins.1 }

-- the lines of an exchange
abbrev pub of_lines : Option LinePlace → Option (Option LinePlace) → Option LinePlace → Option LinePlace → Option Exchange
of_lines s f r a =
    option_and_then (λ (sync : LinePlace). option_and_then
    (λ (follow : Option LinePlace). option_and_then (λ (request : LinePlace).
    option_map (λ (arrival : LinePlace).
    record { sync_arrival = sync; follow = follow; request = request; request_arrival = arrival }) a) r) f) s

-- an exchange's lines
pub record HasLines (network : Network) (slave : NodeName) (e : LinePlace) (report : Report) (x : Exchange) : Type 0 where
  pub sync : sync_line network (lines_to e) slave report ≡ Some x.sync_arrival
  pub follow : follow_lines network (lines_to e) slave report.follow_tag ≡ Some x.follow
  pub request : line_of network (lines_to e) is_request slave report.request_tag ≡ Some x.request
  pub arrival : arrival_line network (lines_to e) slave report.response_tag ≡ Some x.request_arrival

pub exchange_parts : (network : Network) (slave : NodeName) (e : LinePlace) (report : Report) (x : Exchange)
    → exchange_of network slave e report ≡ Some x → HasLines network slave e report x
exchange_parts network slave e report x is = by (is_report_in_place network e report) is
  where
    parts : (s : Option LinePlace) (f : Option (Option LinePlace)) (r a : Option LinePlace)
        → of_lines s f r a ≡ Some x → (s ≡ Some x.sync_arrival) × (f ≡ Some x.follow) × (r ≡ Some x.request)
        × (a ≡ Some x.request_arrival)
    parts None f r a is = cc
    parts (Some s) None r a is = cc
    parts (Some s) (Some f) None a is = cc
    parts (Some s) (Some f) (Some r) None is = cc
    parts (Some s) (Some f) (Some r) (Some a) is =
        let same : (record { sync_arrival = s; follow = f; request = r; request_arrival = a }) ≡ x = cc in (
          ap (λ (y : Exchange). Some y.sync_arrival) same,
          ap (λ (y : Exchange). Some y.follow) same,
          ap (λ (y : Exchange). Some y.request) same,
          ap (λ (y : Exchange). Some y.request_arrival) same,
        )

    by : (placed : Bool) → (if placed
        then of_lines (sync_line network (lines_to e) slave report)
        (follow_lines network (lines_to e) slave report.follow_tag)
        (line_of network (lines_to e) is_request slave report.request_tag)
        (arrival_line network (lines_to e) slave report.response_tag) else None) ≡ Some x
        → HasLines network slave e report x
    by true is =
        let found = parts (sync_line network (lines_to e) slave report)
        (follow_lines network (lines_to e) slave report.follow_tag)
        (line_of network (lines_to e) is_request slave report.request_tag)
        (arrival_line network (lines_to e) slave report.response_tag) is in
        record { sync = found.0; follow = found.1; request = found.2; arrival = found.3 }
    by false is = cc

pub each_exchange_is_written : EachExchangeIsWritten
each_exchange_is_written network p e report tells has =
    let run : Run = until p in
    let told : TellsRun network run (lines_to e) = (tells.told, tells.before) in
    let parts = exchange_parts network (site e) e report has.x has.lines in
    let sync = journey_found network e draws_sync has.x.sync_arrival has.sync has.sync_unbroken in
    let request = journey_found network e is_request has.x.request_arrival has.request has.request_unbroken in
    let sync_right = journey_right network run (lines_to e) sync.copy has.sync told sync.there in
    let request_right = journey_right network run (lines_to e) request.copy has.request told request.there in
    let follow = follow_right network run (lines_to e) told (site e) report.follow_tag has.x.follow parts.follow in
    let arrival = arrival_right network run (lines_to e) told (site e) report.response_tag has.x.request_arrival parts.arrival in
    (λ i. sync_right i && follow i && request_right i && arrival i)
