-- The stay that is found to be left twice: there is one exactly where some stay of a journey isn't left by one line alone.
use Rattle.std.proofs.Common.{◌≡◌, ◌∙◌, ℕ, ◌+◌, ◌<◌, ◌≤◌, Bool, true, false, ◌&&◌, List, [], ◌∷◌, length, Option, Some, None}
use Rattle.std.proofs.Common.{refl, sym, ap, arith, is_some, option_map, if◌then◌else◌, ◌==◌}
use Rattle.std.specs.Prelude.{◌||◌, not, nat_lt, count_by}
use Rattle.std.specs.List.{list_all, list_any}
use Rattle.std.specs.Option.{option_map_or}
use Rattle.std.proofs.lemmas.Bool.{and_parts, and_from, eq-eqb, eqb-true, lt-ltb, ltb-true}
use Rattle.std.proofs.lemmas.Bool.Decides.{nat_tests}
use Rattle.slave_port.proofs.Options.{some_step, some_image}
use Rattle.network_model.specs.declared.event.Event.{Event}
use Rattle.network_model.specs.declared.event.Event.TheVariants.{Sync, SyncOne, Leave, Request}
use Rattle.network_model.specs.Network.{Network}
use Rattle.network_model.specs.Kinds.{is_leave_of, named_transit}
use Rattle.network_model.proofs.Sequences.{count-yes, count-no}
use Rattle.trace_model.specs.declared.finding.Finding.TheVariants.{LeftTwice}
use Rattle.trace_model.specs.declared.finding.Part.{Part}
use Rattle.trace_model.specs.declared.line.TraceLine.{TraceLine}
use Rattle.trace_model.specs.Line.{Lines, counts}
use Rattle.trace_model.specs.Record.{LinePlace, line_place, line_number, line_at, events}
use Rattle.trace_model.specs.Journey.{LineStay, LineJourney, line_begun, with_stay, copy_entered, line_left_from, left_once}
use Rattle.trace_model.specs.Journey.{line_journey_made, line_journey_of}
use Rattle.trace_model.specs.Finding.{leave_of, left_again, left_twice}
use Rattle.trace_model.proofs.Lines.{events_more, line_at-number}
use Rattle.trace_model.proofs.FindingParts.{or_some, either_fails}

-- how many of these lines leave a stay
abbrev pub leaves : Network → Lines → (transit : ℕ) → ℕ
leaves network lines transit = count_by (is_leave_of transit) (events network lines)

leaves_skipped : (network : Network) (line : TraceLine) (lines : Lines) (transit : ℕ) → counts network line ≡ false
    → leaves network (line ∷ lines) transit ≡ leaves network lines transit
leaves_skipped network line lines transit counted =
    ap (count_by (is_leave_of transit)) (events_more network line lines false counted)

leaves_yes : (network : Network) (line : TraceLine) (lines : Lines) (transit : ℕ) → counts network line ≡ true
    → is_leave_of transit line.event ≡ true → leaves network (line ∷ lines) transit ≡ leaves network lines transit + 1
leaves_yes network line lines transit counted is =
    ap (count_by (is_leave_of transit)) (events_more network line lines true counted)
    ∙ count-yes (is_leave_of transit) line.event (events network lines) is

leaves_no : (network : Network) (line : TraceLine) (lines : Lines) (transit : ℕ) → counts network line ≡ true
    → is_leave_of transit line.event ≡ false → leaves network (line ∷ lines) transit ≡ leaves network lines transit
leaves_no network line lines transit counted is =
    ap (count_by (is_leave_of transit)) (events_more network line lines true counted)
    ∙ count-no (is_leave_of transit) line.event (events network lines) is

leaves_more : (network : Network) (line : TraceLine) (lines : Lines) (transit : ℕ)
    → leaves network lines transit ≤ leaves network (line ∷ lines) transit
leaves_more network line lines transit = by (counts network line) refl (is_leave_of transit line.event) refl
  where
    by : (counted : Bool) → counts network line ≡ counted → (is : Bool) → is_leave_of transit line.event ≡ is
        → leaves network lines transit ≤ leaves network (line ∷ lines) transit
    by false c is e = omega (arith, leaves_skipped network line lines transit c)
    by true c true e = omega (arith, leaves_yes network line lines transit c e)
    by true c false e = omega (arith, leaves_no network line lines transit c e)

-- a line that leaves a stay is found exactly where there is one
leave_some : (network : Network) (transit : ℕ) (lines : Lines)
    → is_some (leave_of network transit lines) ≡ nat_lt 0 (leaves network lines transit)
leave_some network transit [] = refl
leave_some network transit (line ∷ lines) =
    or_some (leave_of network transit lines)
    (if counts network line && is_leave_of transit line.event then Some (length lines) else None)
    ∙ ap (λ (b : Bool). b || is_some (if counts network line && is_leave_of transit line.event then Some (length lines) else None))
    (leave_some network transit lines)
    ∙ by (counts network line) refl (is_leave_of transit line.event) refl
  where
    either : (n more : ℕ) → more ≡ n → (nat_lt 0 n || false) ≡ nat_lt 0 more
    either n more same = off (nat_lt 0 n) ∙ ap (λ (k : ℕ). nat_lt 0 k) (sym same)
      where
        off : (b : Bool) → (b || false) ≡ b
        off true = refl
        off false = refl

    also : (n more : ℕ) → more ≡ n + 1 → (nat_lt 0 n || true) ≡ nat_lt 0 more
    also n more same = on (nat_lt 0 n) ∙ sym (lt-ltb 0 more (omega arith))
      where
        on : (b : Bool) → (b || true) ≡ true
        on true = refl
        on false = refl

    by : (counted : Bool) → counts network line ≡ counted → (is : Bool) → is_leave_of transit line.event ≡ is
        → (nat_lt 0 (leaves network lines transit) || is_some (if counted && is then Some (length lines) else None))
        ≡ nat_lt 0 (leaves network (line ∷ lines) transit)
    by false c is e = either (leaves network lines transit) (leaves network (line ∷ lines) transit)
        (leaves_skipped network line lines transit c)
    by true c true e = also (leaves network lines transit) (leaves network (line ∷ lines) transit)
        (leaves_yes network line lines transit c e)
    by true c false e = either (leaves network lines transit) (leaves network (line ∷ lines) transit)
        (leaves_no network line lines transit c e)

-- whether a stay was left twice
abbrev twice : Network → Lines → LineStay → Bool
twice network lines stay = nat_lt 1 (leaves network lines (line_number stay.entered))

any_alike : {X : Type 0} (one other : X → Bool) → ((x : X) → one x ≡ other x) → (xs : List X)
    → list_any one xs ≡ list_any other xs
any_alike one other each [] = refl
any_alike one other each (x ∷ xs) = λ i. each x i || any_alike one other each xs i

mixed : (x y z u v : Bool) → ((x || (y && z)) || (u || (v && z))) ≡ ((x || u) || ((y || v) && z))
mixed true y z u v = refl
mixed false true true u v = by u
  where
    by : (u : Bool) → true ≡ (u || true)
    by true = refl
    by false = refl
mixed false true false u true = refl
mixed false true false u false = refl
mixed false false z u v = refl

any_either : {X : Type 0} (one other is : X → Bool) (z : Bool) → ((x : X) → one x ≡ (other x || (is x && z)))
    → (xs : List X) → list_any one xs ≡ (list_any other xs || (list_any is xs && z))
any_either one other is z each [] = refl
any_either one other is z each (x ∷ xs) =
    (λ i. each x i || any_either one other is z each xs i)
    ∙ mixed (other x) (is x) z (list_any other xs) (list_any is xs)

-- one more line that leaves a stay leaves it a second time where there was one before
again : (network : Network) (line : TraceLine) (lines : Lines) (transit k : ℕ) → counts network line ≡ true
    → named_transit line.event ≡ Some transit
    → nat_lt 1 (leaves network (line ∷ lines) k)
    ≡ (nat_lt 1 (leaves network lines k) || (k == transit && nat_lt 0 (leaves network lines transit)))
again network line lines transit k counted named = by (k == transit) refl
  where
    leave : (is : Bool) → (k == transit) ≡ is → is_leave_of k line.event ≡ is
    leave is e = ap (λ (o : Option ℕ). option_map_or (λ (n : ℕ). n == k) o false) named ∙ turned transit k ∙ e
      where
        turned : (a b : ℕ) → (a == b) ≡ (b == a)
        turned a b = grind (arith, nat_tests)

    by : (is : Bool) → (k == transit) ≡ is → nat_lt 1 (leaves network (line ∷ lines) k)
        ≡ (nat_lt 1 (leaves network lines k) || (is && nat_lt 0 (leaves network lines transit)))
    by true e =
        let same : k ≡ transit = eqb-true k transit e in
        let one = leaves_yes network line lines k counted (leave true e) in
        ap (nat_lt 1) one ∙ more (leaves network lines k)
        ∙ ap (λ (n : ℕ). nat_lt 1 (leaves network lines k) || nat_lt 0 (leaves network lines n)) same
      where
        more : (n : ℕ) → nat_lt 1 (n + 1) ≡ (nat_lt 1 n || nat_lt 0 n)
        more n = grind (arith, nat_tests)
    by false e =
        ap (nat_lt 1) (leaves_no network line lines k counted (leave false e)) ∙ off (nat_lt 1 (leaves network lines k))
      where
        off : (b : Bool) → b ≡ (b || false)
        off true = refl
        off false = refl

again_some : (network : Network) (part : Part) (journey : LineJourney) (lines : Lines) (number transit : ℕ)
    → is_some (left_again network part journey lines number (Some transit))
    ≡ (list_any (λ stay. line_number stay.entered == transit) journey.stays && nat_lt 0 (leaves network lines transit))
again_some network part journey lines number transit =
    by (list_any (λ (stay : LineStay). line_number stay.entered == transit) journey.stays)
  where
    mapped : {X Y : Type 0} (make : X → Y) (o : Option X) → is_some (option_map make o) ≡ is_some o
    mapped make None = refl
    mapped make (Some x) = refl

    by : (any : Bool) → is_some (if any
        then option_map (λ (first : ℕ). LeftTwice part transit first number) (leave_of network transit lines) else None)
        ≡ (any && nat_lt 0 (leaves network lines transit))
    by true = mapped (λ (first : ℕ). LeftTwice part transit first number) (leave_of network transit lines)
        ∙ leave_some network transit lines
    by false = refl

pub twice_found : (network : Network) (part : Part) (journey : LineJourney) (lines : Lines)
    → is_some (left_twice network part journey lines) ≡ list_any (twice network lines) journey.stays
twice_found network part journey [] = sym (none journey.stays)
  where
    none : (stays : List LineStay) → list_any (twice network []) stays ≡ false
    none [] = refl
    none (s ∷ stays) = none stays
twice_found network part journey (line ∷ lines) =
    or_some (left_twice network part journey lines)
    (if counts network line then left_again network part journey lines (length lines) (named_transit line.event) else None)
    ∙ ap (λ (b : Bool). b || is_some (if counts network line
    then left_again network part journey lines (length lines) (named_transit line.event) else None))
    (twice_found network part journey lines)
    ∙ by (counts network line) refl (named_transit line.event) refl
  where
    off : (b : Bool) → (b || false) ≡ b
    off true = refl
    off false = refl

    same : ((k : ℕ) → leaves network (line ∷ lines) k ≡ leaves network lines k)
        → (list_any (twice network lines) journey.stays || false) ≡ list_any (twice network (line ∷ lines)) journey.stays
    same each = off (list_any (twice network lines) journey.stays)
        ∙ any_alike (twice network lines) (twice network (line ∷ lines))
        (λ s. ap (nat_lt 1) (sym (each (line_number s.entered)))) journey.stays

    by : (counted : Bool) → counts network line ≡ counted → (named : Option ℕ) → named_transit line.event ≡ named
        → (list_any (twice network lines) journey.stays || is_some (if counted
        then left_again network part journey lines (length lines) named else None))
        ≡ list_any (twice network (line ∷ lines)) journey.stays
    by false c named e = same (λ k. leaves_skipped network line lines k c)
    by true c None e = same (λ k. leaves_no network line lines k c
        (ap (λ (o : Option ℕ). option_map_or (λ (n : ℕ). n == k) o false) e))
    by true c (Some transit) e =
        ap (λ (b : Bool). list_any (twice network lines) journey.stays || b)
        (again_some network part journey lines (length lines) transit)
        ∙ sym (any_either (twice network (line ∷ lines)) (twice network lines)
        (λ (s : LineStay). line_number s.entered == transit) (nat_lt 0 (leaves network lines transit))
        (λ s. again network line lines transit (line_number s.entered) c e) journey.stays)

-- each stay of a journey is left by a line that counts

abbrev left_some : Network → Lines → LineStay → Bool
left_some network lines stay = nat_lt 0 (leaves network lines (line_number stay.entered))

left_more : (network : Network) (line : TraceLine) (lines : Lines) (stays : List LineStay)
    → list_all (left_some network lines) stays ≡ true → list_all (left_some network (line ∷ lines)) stays ≡ true
left_more network line lines [] all = refl
left_more network line lines (s ∷ stays) all =
    let parts = and_parts (left_some network lines s) (list_all (left_some network lines) stays) all in
    let more = leaves_more network line lines (line_number s.entered) in
    let here : 0 < leaves network lines (line_number s.entered) =
    ltb-true 0 (leaves network lines (line_number s.entered)) parts.0 in
    and_from (left_some network (line ∷ lines) s) (list_all (left_some network (line ∷ lines)) stays)
    (lt-ltb 0 (leaves network (line ∷ lines) (line_number s.entered)) (omega arith))
    (left_more network line lines stays parts.1)

made_left : (network : Network) (event : Event) (line : TraceLine) (lines : Lines) (journey : LineJourney)
    → line.event ≡ event → counts network line ≡ true
    → line_journey_made network event (line_place line lines) (line_journey_of network lines) ≡ Some journey
    → ((copy : ℕ) (j : LineJourney) → line_journey_of network lines copy ≡ Some j
    → list_all (left_some network lines) j.stays ≡ true)
    → list_all (left_some network (line ∷ lines)) journey.stays ≡ true
made_left network (Sync node at) line lines journey is counted made before =
    let same : line_begun (line_place line lines) ≡ journey = cc in
    ap (λ (j : LineJourney). list_all (left_some network (line ∷ lines)) j.stays) (sym same)
made_left network (SyncOne node at) line lines journey is counted made before =
    let same : line_begun (line_place line lines) ≡ journey = cc in
    ap (λ (j : LineJourney). list_all (left_some network (line ∷ lines)) j.stays) (sym same)
made_left network (Request node at) line lines journey is counted made before =
    let same : line_begun (line_place line lines) ≡ journey = cc in
    ap (λ (j : LineJourney). list_all (left_some network (line ∷ lines)) j.stays) (sym same)
made_left network (Leave node transit at) line lines journey is counted made before =
    let e : LinePlace = line_place line lines in
    let entered = some_step (line_left_from node e (line_journey_of network lines)) (line_at network lines transit) made in
    let copy = some_step (λ (c : ℕ). option_map (with_stay e entered.0) (line_journey_of network lines c))
    (copy_entered node entered.0) entered.2 in
    let prior = some_image (with_stay e entered.0) (line_journey_of network lines copy.0) copy.2 in
    let number : line_number entered.0 ≡ transit = line_at-number network lines transit entered.0 entered.1 in
    let leaves_it : is_leave_of (line_number entered.0) line.event ≡ true =
    ap (is_leave_of (line_number entered.0)) is ∙ eq-eqb transit (line_number entered.0) (sym number) in
    let more = leaves_yes network line lines (line_number entered.0) counted leaves_it in
    ap (λ (j : LineJourney). list_all (left_some network (line ∷ lines)) j.stays) (sym prior.2)
    ∙ and_from (nat_lt 0 (leaves network (line ∷ lines) (line_number entered.0)))
    (list_all (left_some network (line ∷ lines)) prior.0.stays)
    (lt-ltb 0 (leaves network (line ∷ lines) (line_number entered.0)) (omega arith))
    (left_more network line lines prior.0.stays (before copy.0 prior.0 prior.1))
made_left network _ line lines journey is counted made before = cc

all_left : (network : Network) (lines : Lines) (number : ℕ) (journey : LineJourney)
    → line_journey_of network lines number ≡ Some journey → list_all (left_some network lines) journey.stays ≡ true
all_left network [] number journey is = cc
all_left network (line ∷ lines) number journey is =
    at (length lines == number) (counts network line) refl is (λ n j known. all_left network lines n j known)
  where
    at : (here counted : Bool) → counts network line ≡ counted
        → (if here then (if counted then line_journey_made network line.event (line_place line lines)
        (line_journey_of network lines) else None) else line_journey_of network lines number) ≡ Some journey
        → ((copy : ℕ) (j : LineJourney) → line_journey_of network lines copy ≡ Some j
        → list_all (left_some network lines) j.stays ≡ true)
        → list_all (left_some network (line ∷ lines)) journey.stays ≡ true
    at true true c is before = made_left network line.event line lines journey refl c is before
    at true false c is before = cc
    at false counted c is before = left_more network line lines journey.stays (before number journey is)

-- so a journey in which no stay is left twice is one of which each is left once

once_or_twice : (n : ℕ) → nat_lt 0 n ≡ true → nat_lt 1 n ≡ not (n == 1)
once_or_twice n some = grind (arith, nat_tests)

all_once : (network : Network) (lines : Lines) (stays : List LineStay) → list_all (left_some network lines) stays ≡ true
    → list_any (twice network lines) stays
    ≡ not (list_all (λ stay. leaves network lines (line_number stay.entered) == 1) stays)
all_once network lines [] all = refl
all_once network lines (s ∷ stays) all =
    let parts = and_parts (left_some network lines s) (list_all (left_some network lines) stays) all in
    (λ i. once_or_twice (leaves network lines (line_number s.entered)) parts.0 i || all_once network lines stays parts.1 i)
    ∙ either_fails (leaves network lines (line_number s.entered) == 1)
    (list_all (λ (stay : LineStay). leaves network lines (line_number stay.entered) == 1) stays)

-- a stay is found to be left twice exactly where not each is left once
pub twice_or_once : (network : Network) (part : Part) (lines : Lines) (number : ℕ) (journey : LineJourney)
    → line_journey_of network lines number ≡ Some journey
    → is_some (left_twice network part journey lines) ≡ not (left_once (events network lines) journey)
twice_or_once network part lines number journey is =
    twice_found network part journey lines ∙ all_once network lines journey.stays (all_left network lines number journey is)
