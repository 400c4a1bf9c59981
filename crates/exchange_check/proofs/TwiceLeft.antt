-- The stay of a journey that was left twice first is the first of those by whose second lines it was left.
use Rattle.std.proofs.Common.{◌≡◌, ◌∙◌, ℕ, ◌<◌, Bool, true, false, ◌&&◌, cond, eqb, List, [], ◌∷◌, length, Option, Some, None}
use Rattle.std.proofs.Common.{refl, sym, ap, subst, arith, is_some}
use Rattle.std.specs.Prelude.{◌||◌, nat_lt, option_map, option_and_then}
use Rattle.std.specs.List.{list_any}
use Rattle.std.specs.Option.{option_or, option_map_or}
use Rattle.std.proofs.lemmas.Bool.{eqb-true, lt-ltb}
use Rattle.std.proofs.lemmas.Bool.Decides.{nat_tests}
use Rattle.std.proofs.lemmas.Option.{none-some, same_Some}
use Rattle.network_model.specs.Network.{Network}
use Rattle.network_model.specs.Kinds.{is_leave_of, named_transit}
use Rattle.trace_model.specs.declared.finding.Finding.{Finding}
use Rattle.trace_model.specs.declared.finding.Finding.TheVariants as findings
use Rattle.trace_model.specs.declared.finding.Part.{Part}
use Rattle.trace_model.specs.declared.line.TraceLine.{TraceLine}
use Rattle.trace_model.specs.Line.{Lines, counts}
use Rattle.trace_model.specs.Record.{line_number}
use Rattle.trace_model.specs.Journey.{LineStay, LineJourney}
use Rattle.trace_model.specs.Finding.{leave_of, left_again, left_twice}
use Rattle.exchange_check.specs.declared.way_finding.Twice.{Twice}
use Rattle.exchange_check.specs.Evidence.{second_leave_of, second_leaves}
use Rattle.copy_stays.specs.Leaves.{Firsts}
use Rattle.exchange_check.specs.Inner.WayFinding.{twice_at, earlier_twice, twice_finding_by}
use Rattle.exchange_check.proofs.Noted.{cond_same, firsts_at}
use Rattle.exchange_check.proofs.Options.{or_none}

abbrev twice : (entered second : ℕ) → Twice
twice entered second = record { entered = entered; second = second }

-- what holds of two stays holds of the earlier one
earlier_all : (P : Twice → Type 0) (a b : Option Twice) → ((t : Twice) → a ≡ Some t → P t)
    → ((t : Twice) → b ≡ Some t → P t) → (t : Twice) → earlier_twice a b ≡ Some t → P t
earlier_all P None b one other t h = other t h
earlier_all P (Some a) None one other t h = one t h
earlier_all P (Some a) (Some b) one other t h = by (nat_lt b.second a.second) h
  where
    by : (c : Bool) → cond c (Some b) (Some a) ≡ Some t → P t
    by true e = other t e
    by false e = one t e

-- two stays with what one more line adds to each
step : (n : ℕ) (a b x y : Option Twice) → ((t : Twice) → a ≡ Some t → t.second < n)
    → ((t : Twice) → b ≡ Some t → t.second < n) → ((t : Twice) → x ≡ Some t → t.second ≡ n)
    → ((t : Twice) → y ≡ Some t → t.second ≡ n)
    → earlier_twice (option_or a x) (option_or b y) ≡ option_or (earlier_twice a b) (option_or x y)
step n (Some a) (Some b) x y p q r s = by (nat_lt b.second a.second)
  where
    by : (c : Bool) → cond c (Some b) (Some a) ≡ option_or (cond c (Some b) (Some a)) (option_or x y)
    by true = refl
    by false = refl
step n (Some a) None x None p q r s = refl
step n (Some a) None x (Some t) p q r s =
    let low : a.second < n = p a refl in
    let at : t.second ≡ n = s t refl in
    let above : nat_lt t.second a.second ≡ false = grind (arith, nat_tests) in
    λ i. cond (above i) (Some t) (Some a)
step n None (Some b) None y p q r s = refl
step n None (Some b) (Some t) y p q r s =
    let low : b.second < n = q b refl in
    let at : t.second ≡ n = r t refl in
    let below : b.second < t.second = omega (arith, low, at) in
    λ i. cond (lt-ltb b.second t.second below i) (Some b) (Some t)
step n None None None y p q r s = refl
step n None None (Some t) None p q r s = refl
step n None None (Some t) (Some u) p q r s =
    let at : t.second ≡ n = r t refl in
    let at_too : u.second ≡ n = s u refl in
    let not_below : nat_lt u.second t.second ≡ false = grind (arith, nat_tests) in
    λ i. cond (not_below i) (Some u) (Some t)

some_of : {X : Type 0} (a x : Option X) → is_some a ≡ true → is_some (option_or a x) ≡ true
some_of None x h = cc
some_of (Some k) x h = refl

module _ (network : Network) where
  -- of the stays of a journey, the last one first
  abbrev pub stays_twice : Lines → List LineStay → Option Twice
  stays_twice lines [] = None
  stays_twice lines (s ∷ rest) =
      earlier_twice (twice_at (second_leaves network lines) (line_number s.entered)) (stays_twice lines rest)

  stays_all : (P : Twice → Type 0) (lines : Lines)
      → ((transit : ℕ) (t : Twice) → twice_at (second_leaves network lines) transit ≡ Some t → P t)
      → (stays : List LineStay) (t : Twice) → stays_twice lines stays ≡ Some t → P t
  stays_all P lines each [] t h = absurd (none-some t h)
  stays_all P lines each (s ∷ rest) t h =
      earlier_all P (twice_at (second_leaves network lines) (line_number s.entered)) (stays_twice lines rest)
      (each (line_number s.entered)) (stays_all P lines each rest) t h

  of_second : (P : Twice → Type 0) (lines : Lines)
      → ((transit n : ℕ) → second_leave_of network transit lines ≡ Some n → P (twice transit n))
      → (transit : ℕ) (t : Twice) → twice_at (second_leaves network lines) transit ≡ Some t → P t
  of_second P lines each transit t h = by (second_leave_of network transit lines) refl h
    where
      by : (o : Option ℕ) → second_leave_of network transit lines ≡ o
          → option_map (λ second. twice transit second) o ≡ Some t → P t
      by None is e = absurd (none-some t e)
      by (Some n) is e = subst (λ (x : Twice). P x) (same_Some _ _ e) (each transit n is)

  -- a second line that leaves a stay is among the lines, and there is a first one
  second_bound : (lines : Lines) (transit n : ℕ) → second_leave_of network transit lines ≡ Some n → n < length lines
  second_bound [] transit n h = absurd (none-some n h)
  second_bound (line ∷ earlier) transit n h =
      by (second_leave_of network transit earlier) refl
      (counts network line && is_leave_of transit line.event && is_some (leave_of network transit earlier)) h
      (second_bound earlier transit)
    where
      by : (o : Option ℕ) → second_leave_of network transit earlier ≡ o → (b : Bool)
          → option_or o (cond b (Some (length earlier)) None) ≡ Some n
          → ((m : ℕ) → second_leave_of network transit earlier ≡ Some m → m < length earlier) → n < length (line ∷ earlier)
      by (Some m) is b e bound =
          let low : m < length earlier = bound m is in
          omega (arith, low, same_Some m n e)
      by None is true e bound = omega (arith, same_Some (length earlier) n e)
      by None is false e bound = absurd (none-some n e)

  second_first : (lines : Lines) (transit n : ℕ) → second_leave_of network transit lines ≡ Some n
      → is_some (leave_of network transit lines) ≡ true
  second_first [] transit n h = absurd (none-some n h)
  second_first (line ∷ earlier) transit n h =
      some_of (leave_of network transit earlier)
      (cond (counts network line && is_leave_of transit line.event) (Some (length earlier)) None)
      (by (second_leave_of network transit earlier) refl (counts network line && is_leave_of transit line.event)
      (is_some (leave_of network transit earlier)) refl h (second_first earlier transit))
    where
      by : (o : Option ℕ) → second_leave_of network transit earlier ≡ o → (c b : Bool)
          → is_some (leave_of network transit earlier) ≡ b
          → option_or o (cond (c && b) (Some (length earlier)) None) ≡ Some n
          → ((m : ℕ) → second_leave_of network transit earlier ≡ Some m → is_some (leave_of network transit earlier) ≡ true)
          → is_some (leave_of network transit earlier) ≡ true
      by (Some m) is c b there e before = before m is
      by None is true true there e before = there
      by None is true false there e before = absurd (none-some n e)
      by None is false b there e before = absurd (none-some n e)

  module _ (line : TraceLine) (earlier : Lines) where
    abbrev n : ℕ
    n = length earlier

    abbrev fed : Lines
    fed = line ∷ earlier

    -- what one more line adds
    abbrev again_at : ℕ → Option Twice
    again_at transit = cond
        (counts network line && is_leave_of transit line.event && is_some (leave_of network transit earlier))
        (Some (twice transit n)) None

    abbrev again_in : List LineStay → Option Twice
    again_in [] = None
    again_in (s ∷ rest) = option_or (again_at (line_number s.entered)) (again_in rest)

    at_here : (transit : ℕ) (t : Twice) → again_at transit ≡ Some t → t.second ≡ n
    at_here transit t h =
        by (counts network line && is_leave_of transit line.event && is_some (leave_of network transit earlier)) h
      where
        by : (b : Bool) → cond b (Some (twice transit n)) None ≡ Some t → t.second ≡ n
        by true e = sym (ap (λ (x : Twice). x.second) (same_Some (twice transit n) t e))
        by false e = absurd (none-some t e)

    in_here : (stays : List LineStay) (t : Twice) → again_in stays ≡ Some t → t.second ≡ n
    in_here [] t h = absurd (none-some t h)
    in_here (s ∷ rest) t h =
        by (again_at (line_number s.entered)) (at_here (line_number s.entered) t) h (in_here rest t)
      where
        by : (o : Option Twice) → (o ≡ Some t → t.second ≡ n) → option_or o (again_in rest) ≡ Some t
            → (again_in rest ≡ Some t → t.second ≡ n) → t.second ≡ n
        by None one e other = other e
        by (Some x) one e other = one e

    twice_more : (transit : ℕ) → twice_at (second_leaves network fed) transit
        ≡ option_or (twice_at (second_leaves network earlier) transit) (again_at transit)
    twice_more transit = by (second_leave_of network transit earlier)
        (counts network line && is_leave_of transit line.event && is_some (leave_of network transit earlier))
      where
        by : (o : Option ℕ) (b : Bool)
            → option_map (λ second. twice transit second) (option_or o (cond b (Some n) None))
            ≡ option_or (option_map (λ second. twice transit second) o) (cond b (Some (twice transit n)) None)
        by (Some m) b = refl
        by None true = refl
        by None false = refl

    stays_more : (stays : List LineStay)
        → stays_twice fed stays ≡ option_or (stays_twice earlier stays) (again_in stays)
    stays_more [] = refl
    stays_more (s ∷ rest) =
        (λ i. earlier_twice (twice_more (line_number s.entered) i) (stays_more rest i))
        ∙ step n (twice_at (second_leaves network earlier) (line_number s.entered)) (stays_twice earlier rest)
        (again_at (line_number s.entered)) (again_in rest)
        (of_second IsBelow earlier (second_bound earlier) (line_number s.entered))
        (stays_all IsBelow earlier (of_second IsBelow earlier (second_bound earlier)) rest)
        (at_here (line_number s.entered)) (in_here rest)
      where
        IsBelow : Twice → Type 0
        IsBelow t = t.second < n

    -- a line that leaves no stay
    none_again : ((transit : ℕ) → (counts network line && is_leave_of transit line.event) ≡ false)
        → (stays : List LineStay) → again_in stays ≡ None
    none_again none [] = refl
    none_again none (s ∷ rest) =
        (λ i. option_or (cond (none (line_number s.entered) i && is_some (leave_of network (line_number s.entered) earlier))
        (Some (twice (line_number s.entered) n)) None) (again_in rest))
        ∙ none_again none rest

    -- one that leaves this one
    module _ (counted : counts network line ≡ true) (transit : ℕ) (named : named_transit line.event ≡ Some transit) where
      abbrev any : List LineStay → Bool
      any stays = list_any (λ stay. eqb (line_number stay.entered) transit) stays

      leave_is : (k : ℕ) → (counts network line && is_leave_of k line.event) ≡ eqb k transit
      leave_is k = (λ i. counted i && option_map_or (λ x. eqb x k) (named i) false) ∙ turned transit k
        where
          turned : (a b : ℕ) → eqb a b ≡ eqb b a
          turned a b = grind (arith, nat_tests)

      some_again : (stays : List LineStay) → again_in stays
          ≡ cond (any stays && is_some (leave_of network transit earlier)) (Some (twice transit n)) None
      some_again [] = refl
      some_again (s ∷ rest) =
          (λ i. option_or (cond (leave_is k i && is_some (leave_of network k earlier)) (Some (twice k n)) None)
          (some_again rest i))
          ∙ by (eqb k transit) refl
        where
          k : ℕ
          k = line_number s.entered

          joined : (some more : Bool)
              → option_or (cond some (Some (twice transit n)) None) (cond (more && some) (Some (twice transit n)) None)
              ≡ cond some (Some (twice transit n)) None
          joined true more = refl
          joined false true = refl
          joined false false = refl

          by : (same : Bool) → eqb k transit ≡ same
              → option_or (cond (same && is_some (leave_of network k earlier)) (Some (twice k n)) None)
              (cond (any rest && is_some (leave_of network transit earlier)) (Some (twice transit n)) None)
              ≡ cond ((same || any rest) && is_some (leave_of network transit earlier)) (Some (twice transit n)) None
          by true e =
              (λ i. option_or
              (cond (is_some (leave_of network (eqb-true k transit e i) earlier)) (Some (twice (eqb-true k transit e i) n)) None)
              (cond (any rest && is_some (leave_of network transit earlier)) (Some (twice transit n)) None))
              ∙ joined (is_some (leave_of network transit earlier)) (any rest)
          by false e = refl

    module _ (part : Part) (journey : LineJourney) where
      abbrev added : Option Finding
      added = cond (counts network line) (left_again network part journey earlier n (named_transit line.event)) None

      abbrev told : Firsts → Option Twice → Option Finding
      told firsts o = option_and_then (twice_finding_by firsts part) o

      -- where one more line is the first that leaves one of the stays again
      added_is : added ≡ told (firsts_at network fed) (again_in journey.stays)
      added_is = by (counts network line) refl (named_transit line.event) refl
        where
          any_of : ℕ → Bool
          any_of transit = list_any (λ stay. eqb (line_number stay.entered) transit) journey.stays

          here : (transit : ℕ) (any : Bool) (first : Option ℕ) → leave_of network transit earlier ≡ first
              → cond any (option_map (λ f. findings.LeftTwice part transit f n) first) None
              ≡ told (firsts_at network fed) (cond (any && is_some first) (Some (twice transit n)) None)
          here transit false first is = refl
          here transit true None is = refl
          here transit true (Some f) is = sym (λ i. option_map (λ f. findings.LeftTwice part transit f n)
              (option_or (is i) (cond (counts network line && is_leave_of transit line.event) (Some n) None)))

          by : (b : Bool) → counts network line ≡ b → (o : Option ℕ) → named_transit line.event ≡ o
              → cond b (left_again network part journey earlier n o) None
              ≡ told (firsts_at network fed) (again_in journey.stays)
          by false c o named = sym (ap (told (firsts_at network fed))
              (none_again (λ transit i. c i && is_leave_of transit line.event) journey.stays))
          by true c None named = sym (ap (told (firsts_at network fed))
              (none_again (λ transit i. c i && option_map_or (λ x. eqb x transit) (named i) false) journey.stays))
          by true c (Some transit) named =
              here transit (any_of transit) (leave_of network transit earlier) refl
              ∙ sym (ap (told (firsts_at network fed)) (some_again c transit named journey.stays))

      -- where one was left again before
      kept_first : (t : Twice) → is_some (leave_of network t.entered earlier) ≡ true
          → option_or (told (firsts_at network earlier) (Some t)) added ≡ told (firsts_at network fed) (Some t)
      kept_first t some = by (leave_of network t.entered earlier) some
        where
          by : (o : Option ℕ) → is_some o ≡ true
              → option_or (option_map (λ f. findings.LeftTwice part t.entered f t.second) o) added
              ≡ option_map (λ f. findings.LeftTwice part t.entered f t.second)
              (option_or o (cond (counts network line && is_leave_of t.entered line.event) (Some n) None))
          by None e = cc
          by (Some f) e = refl

      one_more : left_twice network part journey earlier ≡ told (firsts_at network earlier) (stays_twice earlier journey.stays)
          → left_twice network part journey fed ≡ told (firsts_at network fed) (stays_twice fed journey.stays)
      one_more before =
          (λ i. option_or (before i) added)
          ∙ by (stays_twice earlier journey.stays) refl
          ∙ sym (ap (told (firsts_at network fed)) (stays_more journey.stays))
        where
          HasFirst : Twice → Type 0
          HasFirst t = is_some (leave_of network t.entered earlier) ≡ true

          by : (o : Option Twice) → stays_twice earlier journey.stays ≡ o
              → option_or (told (firsts_at network earlier) o) added
              ≡ told (firsts_at network fed) (option_or o (again_in journey.stays))
          by None is = added_is
          by (Some t) is =
              kept_first t (stays_all HasFirst earlier (of_second HasFirst earlier (second_first earlier)) journey.stays t is)

      -- a line that leaves no stay changes nothing
      pub left-quiet : named_transit line.event ≡ None
          → left_twice network part journey fed ≡ left_twice network part journey earlier
      left-quiet quiet =
          (λ i. option_or (left_twice network part journey earlier)
          (cond (counts network line) (left_again network part journey earlier n (quiet i)) None))
          ∙ ap (option_or (left_twice network part journey earlier)) (cond_same (counts network line) None)
          ∙ or_none (left_twice network part journey earlier)

  none_twice : (stays : List LineStay) → stays_twice [] stays ≡ None
  none_twice [] = refl
  none_twice (s ∷ rest) = none_twice rest

  -- the stay that was left twice first
  pub left-twice : (part : Part) (journey : LineJourney) (lines : Lines)
      → left_twice network part journey lines
      ≡ option_and_then (twice_finding_by (firsts_at network lines) part) (stays_twice lines journey.stays)
  left-twice part journey [] =
      sym (ap (option_and_then (twice_finding_by (firsts_at network []) part)) (none_twice journey.stays))
  left-twice part journey (line ∷ earlier) = one_more line earlier part journey (left-twice part journey earlier)
