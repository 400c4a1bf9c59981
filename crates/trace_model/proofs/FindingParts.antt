-- A finding of several is there exactly where one of their conditions fails, and each way to find a line or a journey
-- finds the one that a sound report asks for.
use Rattle.std.proofs.Common.{◌≡◌, ◌∙◌, ℕ, Bool, true, false, ◌&&◌, List, [], ◌∷◌, length, Option, Some, None}
use Rattle.std.proofs.Common.{Ok, Err, Result, refl, sym, ap, is_some, option_map, option_and_then}
use Rattle.std.proofs.Common.{if◌then◌else◌, ◌==◌}
use Rattle.std.specs.Prelude.{◌||◌, not, nat_lt, ok_or}
use Rattle.std.specs.List.{list_all}
use Rattle.std.specs.Option.{option_or}
use Rattle.std.specs.Result.{result_ok, result_err}
use Rattle.std.proofs.lemmas.Bool.{lt-ltb}
use Rattle.network_model.specs.declared.event.Event.{Event}
use Rattle.network_model.specs.declared.event.Event.TheVariants.{Sync, SyncOne, Leave, Request}
use Rattle.network_model.specs.Network.{Network, NodeName, is_named}
use Rattle.network_model.specs.Kinds.{is_at, entered_copy, heard_copy}
use Rattle.trace_model.specs.declared.finding.Finding.{Finding}
use Rattle.trace_model.specs.declared.finding.Lack.{Lack}
use Rattle.trace_model.specs.declared.finding.Lack.TheVariants.{NotBefore, CameToNothing, OtherEvent}
use Rattle.trace_model.specs.Line.{Lines, counts}
use Rattle.trace_model.specs.Record.{LinePlace, line_place, line_number, event_of, site, line_at}
use Rattle.trace_model.specs.Journey.{LineStay, LineJourney, with_stay, line_left_from}
use Rattle.trace_model.specs.Journey.{line_journey_made, line_journey_of}
use Rattle.trace_model.specs.Sound.{where_passes, below, line_of, sender, journey_to}
use Rattle.trace_model.specs.Finding.{broken, passing, going_on, line_found, tag_found, copy_found, sender_found}
use Rattle.trace_model.specs.Finding.{Stop, stop, stopping, entered_found, more_stay, left_found, way_made, way_of}
use Rattle.trace_model.specs.Finding.{way_below, way_to, stays_finding}
use Rattle.trace_model.proofs.Lines.{line_at-bound}

-- findings and conditions

pub or_some : {X : Type 0} (one other : Option X) → is_some (option_or one other) ≡ (is_some one || is_some other)
or_some None other = refl
or_some (Some x) other = refl

pub either_fails : (a b : Bool) → (not a || not b) ≡ not (a && b)
either_fails true b = refl
either_fails false b = refl

-- of two findings, the first of which stands
pub fails_first : (one other : Option Finding) (a b : Bool) → is_some one ≡ not a → is_some other ≡ not b
    → is_some (option_or one other) ≡ not (a && b)
fails_first one other a b found more = or_some one other ∙ (λ i. found i || more i) ∙ either_fails a b

alone_true : (a : Bool) → (a && true) ≡ a
alone_true true = refl
alone_true false = refl

pub fails_last : (one : Option Finding) (a : Bool) → is_some one ≡ not a → is_some (option_or one None) ≡ not a
fails_last one a found = fails_first one None a true found refl ∙ ap not (alone_true a)

pub broken_fails : (holds : Bool) (finding : Finding) → is_some (broken holds finding) ≡ not holds
broken_fails true finding = refl
broken_fails false finding = refl

pub regroup : (a b c : Bool) → (a && (b && c)) ≡ (a && b && c)
regroup true b c = refl
regroup false b c = refl

swap : (a b : Bool) → (a && b) ≡ (b && a)
swap true true = refl
swap true false = refl
swap false true = refl
swap false false = refl

-- of stays, which are told the last one first
pub stays_fail : (found : LineStay → Option Finding) (test : LineStay → Bool)
    → ((s : LineStay) → is_some (found s) ≡ not (test s)) → (stays : List LineStay)
    → is_some (stays_finding found stays) ≡ not (list_all test stays)
stays_fail found test each [] = refl
stays_fail found test each (s ∷ stays) =
    fails_first (stays_finding found stays) (found s) (list_all test stays) (test s) (stays_fail found test each stays) (each s)
    ∙ ap not (swap (list_all test stays) (test s))

-- what is lacking is there exactly where nothing is found

pub lacks : {X E F : Type 0} (make : E → F) (found : Result X E) (o : Option X) → result_ok found ≡ o
    → is_some (option_map make (result_err found)) ≡ not (is_some o)
lacks make (Ok x) o same = ap (λ (p : Option _). not (is_some p)) same
lacks make (Err e) o same = ap (λ (p : Option _). not (is_some p)) same

pub passing_ok : {X E : Type 0} (test : X → Bool) (lack : X → E) (found : Result X E)
    → result_ok (passing test lack found) ≡ where_passes test (result_ok found)
passing_ok test lack (Err e) = refl
passing_ok test lack (Ok x) = by (test x)
  where
    by : (holds : Bool) → result_ok (if holds then Ok x else Err (lack x)) ≡ (if holds then Some x else None)
    by true = refl
    by false = refl

pub going_ok : {X Y E : Type 0} (next : X → Result Y E) (other : X → Option Y) (found : Result X E)
    → ((x : X) → result_ok (next x) ≡ other x)
    → result_ok (going_on next found) ≡ option_and_then other (result_ok found)
going_ok next other (Ok x) each = each x
going_ok next other (Err e) each = refl

ok_of : {X E : Type 0} (o : Option X) (e : E) → result_ok (ok_or o e) ≡ o
ok_of None e = refl
ok_of (Some x) e = refl

-- lines

pub line_found_ok : (network : Network) (lines : Lines) (limit number : ℕ)
    → result_ok (line_found network lines limit number) ≡ below (line_at network lines) limit number
line_found_ok network lines limit number = by (nat_lt number limit)
  where
    by : (small : Bool) → result_ok (if small then ok_or (line_at network lines number) (CameToNothing number)
        else Err (NotBefore number))
        ≡ (if small then line_at network lines number else None)
    by true = ok_of (line_at network lines number) (CameToNothing number)
    by false = refl

below_all : (network : Network) (lines : Lines) (number : ℕ)
    → below (line_at network lines) (length lines) number ≡ line_at network lines number
below_all network lines number = by (nat_lt number (length lines)) refl (line_at network lines number) refl
  where
    by : (small : Bool) → nat_lt number (length lines) ≡ small → (found : Option LinePlace)
        → line_at network lines number ≡ found
        → (if small then line_at network lines number else None) ≡ line_at network lines number
    by true h found e = refl
    by false h None e = sym e
    by false h (Some l) e =
        let small : nat_lt number (length lines) ≡ true =
        lt-ltb number (length lines) (line_at-bound network lines number l e) in cc

pub tag_ok : (network : Network) (lines : Lines) (kind : Event → Bool) (node : NodeName) (number : ℕ)
    → result_ok (tag_found network lines kind node number) ≡ line_of network lines kind node number
tag_ok network lines kind node number =
    passing_ok (λ (e : LinePlace). is_at kind node (event_of e)) (λ (e : LinePlace). OtherEvent number)
    (line_found network lines (length lines) number)
    ∙ ap (where_passes (λ (e : LinePlace). is_at kind node (event_of e)))
    (line_found_ok network lines (length lines) number ∙ below_all network lines number)

pub sender_ok : (network : Network) (lines : Lines) (e : LinePlace)
    → result_ok (sender_found network lines e) ≡ sender network lines e
sender_ok network lines e = by (heard_copy (event_of e))
  where
    by : (copy : Option ℕ) → result_ok (copy_found network lines (line_number e) copy)
        ≡ option_and_then (below (line_at network lines) (line_number e)) copy
    by None = refl
    by (Some copy) = line_found_ok network lines (line_number e) copy

-- journeys

stopping_ok : {X : Type 0} (by : ℕ) (found : Result X Lack) → result_ok (stopping by found) ≡ result_ok found
stopping_ok by (Ok x) = refl
stopping_ok by (Err lack) = refl

entered_ok : (clock : NodeName) (left entered : LinePlace) (copy : Option ℕ)
    → result_ok (entered_found clock left entered copy) ≡ option_and_then
    (λ (c : ℕ). if is_named (site entered) clock && nat_lt c (line_number entered) then Some c else None) copy
entered_ok clock left entered None = refl
entered_ok clock left entered (Some copy) = by (is_named (site entered) clock) (nat_lt copy (line_number entered))
  where
    by : (here before : Bool) → result_ok (if here then (if before then Ok copy
        else Err (stop (line_number entered) (NotBefore copy)))
        else Err (stop (line_number left) (OtherEvent (line_number entered))))
        ≡ (if here && before then Some copy else None)
    by true true = refl
    by true false = refl
    by false before = refl

more_stay_ok : (left entered : LinePlace) (found : Result LineJourney Stop)
    → result_ok (more_stay left entered found) ≡ option_map (with_stay left entered) (result_ok found)
more_stay_ok left entered (Ok journey) = refl
more_stay_ok left entered (Err other) = refl

left_ok : (clock : NodeName) (left : LinePlace) (journeys : ℕ → ℕ → Result LineJourney Stop) (known : ℕ → Option LineJourney)
    → ((by number : ℕ) → result_ok (journeys by number) ≡ known number) → (entered : LinePlace)
    → result_ok (left_found clock left journeys entered) ≡ line_left_from clock left known entered
left_ok clock left journeys known each entered =
    going_ok (λ (c : ℕ). more_stay left entered (journeys (line_number entered) c))
    (λ (c : ℕ). option_map (with_stay left entered) (known c))
    (entered_found clock left entered (entered_copy (event_of entered)))
    (λ (c : ℕ). more_stay_ok left entered (journeys (line_number entered) c)
    ∙ ap (option_map (with_stay left entered)) (each (line_number entered) c))
    ∙ ap (option_and_then (λ (c : ℕ). option_map (with_stay left entered) (known c)))
    (entered_ok clock left entered (entered_copy (event_of entered)))

pub way_made_ok : (network : Network) (event : Event) (by : ℕ) (e : LinePlace) (journeys : ℕ → ℕ → Result LineJourney Stop)
    (known : ℕ → Option LineJourney)
    → ((by number : ℕ) → result_ok (journeys by number) ≡ known number)
    → result_ok (way_made network event by e journeys) ≡ line_journey_made network event e known
way_made_ok network (Sync node at) by e journeys known each = refl
way_made_ok network (SyncOne node at) by e journeys known each = refl
way_made_ok network (Request node at) by e journeys known each = refl
way_made_ok network (Leave node transit at) by e journeys known each =
    going_ok (left_found node e journeys) (line_left_from node e known)
    (stopping (line_number e) (line_found network e.earlier (line_number e) transit))
    (left_ok node e journeys known each)
    ∙ ap (option_and_then (line_left_from node e known))
    (stopping_ok (line_number e) (line_found network e.earlier (line_number e) transit)
    ∙ line_found_ok network e.earlier (line_number e) transit ∙ below_all network e.earlier transit)
way_made_ok network _ by e journeys known each = refl

pub way_ok : (network : Network) (lines : Lines) (by number : ℕ)
    → result_ok (way_of network lines by number) ≡ line_journey_of network lines number
way_ok network [] by number = refl
way_ok network (line ∷ lines) by number =
    at (length lines == number) (counts network line) (λ b n. way_ok network lines b n)
  where
    at : (here counted : Bool)
        → ((b n : ℕ) → result_ok (way_of network lines b n) ≡ line_journey_of network lines n)
        → result_ok (if here
        then (if counted then way_made network line.event by (line_place line lines) (way_of network lines)
        else Err (stop by (CameToNothing number)))
        else way_of network lines by number)
        ≡ (if here then (if counted then line_journey_made network line.event (line_place line lines)
        (line_journey_of network lines) else None) else line_journey_of network lines number)
    at true true before =
        way_made_ok network line.event by (line_place line lines) (way_of network lines) (line_journey_of network lines) before
    at true false before = refl
    at false counted before = before by number

pub way_to_ok : (network : Network) (lines : Lines) (kind : Event → Bool) (arrival : LinePlace)
    → result_ok (way_to network lines kind arrival) ≡ journey_to network lines kind arrival
way_to_ok network lines kind arrival =
    passing_ok (λ (j : LineJourney). kind (event_of j.origin))
    (λ (j : LineJourney). stop (line_number arrival) (OtherEvent (line_number j.origin)))
    (way_below network lines (line_number arrival) (heard_copy (event_of arrival)))
    ∙ ap (where_passes (λ (j : LineJourney). kind (event_of j.origin))) (below_ok (heard_copy (event_of arrival)))
  where
    at : (copy : ℕ) (small : Bool) → result_ok (if small then way_of network lines (line_number arrival) copy
        else Err (stop (line_number arrival) (NotBefore copy)))
        ≡ (if small then line_journey_of network lines copy else None)
    at copy true = way_ok network lines (line_number arrival) copy
    at copy false = refl

    below_ok : (copy : Option ℕ) → result_ok (way_below network lines (line_number arrival) copy)
        ≡ option_and_then (below (line_journey_of network lines) (line_number arrival)) copy
    below_ok None = refl
    below_ok (Some copy) = at copy (nat_lt copy (line_number arrival))
