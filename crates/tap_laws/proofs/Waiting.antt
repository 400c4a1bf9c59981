-- While messages of a number come, their record waits for them among the last, until it has what it needs.
use Rattle.std.proofs.Common.{◌≡◌, ◌∙◌, ◌<◌, ◌≤◌, ◌+◌, ℕ, zero, suc, refl, sym, ap, subst, arith, Bool, true, false, if◌then◌else◌, ◌&&◌, nat_eq, List, [], ◌∷◌, ◌++◌, take, Option, Some, None, option_map, unwrap_or}
use Rattle.std.specs.Prelude.{is_some, is_none, option_to_list, option_and_then, Contains, find as first_passing}
use Rattle.std.specs.Option.{option_map_or}
use Rattle.std.proofs.lemmas.Bool.{and_parts, false≢true}
use Rattle.std.proofs.lemmas.Bool.Decides.{nat_tests}
use Rattle.std.proofs.lemmas.List.Elements.{Contains-append_right, Contains-append_left}
use Rattle.ptp_units.specs.declared.sequence.Seq.{Seq}
use Rattle.pairing.specs.Marked.{Entry, entry, first_value as newest, replace_first}
use Rattle.pairing.proofs.Laws.{take-replace_first, first_value-replace_first}
use Rattle.tap_crossing.specs.declared.sighting.Kind.{Kind}
use Rattle.tap_crossing.specs.declared.sighting.Kind.TheVariants as kinds
use Rattle.tap_crossing.specs.declared.sighting.Place.{Place}
use Rattle.tap_crossing.specs.declared.sighting.Place.TheVariants as places
use Rattle.tap_crossing.specs.declared.sighting.Placed.{Placed}
use Rattle.tap_crossing.specs.declared.sighting.Sighting.{Sighting}
use Rattle.tap_crossing.specs.declared.places.Places.{Places}
use Rattle.tap_crossing.specs.declared.places.Record.{Record}
use Rattle.tap_crossing.specs.declared.places.Record.TheVariants as standings
use Rattle.tap_crossing.specs.declared.crossing.Crossing.{Crossing}
use Rattle.tap_crossing.specs.declared.crossing.MessageOutcome.TheVariants as outcomes
use Rattle.tap_crossing.specs.Crossing.{crossing, no_crossing}
use Rattle.tap_crossing.specs.Record.{no_places, place_in, with_place, needed, complete, closed_or_open, after}
use Rattle.tap_crossing.specs.Records.{unclosed, with, new_record, joined, open_record, is_same_kind, records}
use Rattle.tap_crossing.specs.Told.{crossed_unless, closes_or_waits, comes_to, told}
use Rattle.tap_follow.specs.Written.{crossing_in}
use Rattle.tap_laws.specs.Sound.{crossings_of}
use Rattle.tap_laws.specs.Complete.{is_of, met_of, AreSingle, is_free, opened_by, EachCompleteIsTold}

-- one that is found among the first is among more
pub newest_more : (number n more : ℕ) (es : List (Entry Record)) (r : Record) → n ≤ more → newest number (take n es) ≡ Some r → newest number (take more es) ≡ Some r
newest_more number zero more [] r up found = cc
newest_more number zero more (e ∷ es) r up found = cc
newest_more number (suc n) more [] r up found = cc
newest_more number (suc n) zero (e ∷ es) r up found = absurd (omega (arith, up))
newest_more number (suc n) (suc more) (e ∷ es) r up found = at (nat_eq e.number number) found (newest_more number n more es r (omega (arith, up)))
  where
    at : (b : Bool) → option_map (λ (e : Entry Record). e.value) (if b then Some e else first_passing (λ (e : Entry Record). nat_eq e.number number) (take n es)) ≡ Some r
        → (newest number (take n es) ≡ Some r → newest number (take more es) ≡ Some r)
        → option_map (λ (e : Entry Record). e.value) (if b then Some e else first_passing (λ (e : Entry Record). nat_eq e.number number) (take more es)) ≡ Some r
    at true found rest = found
    at false found rest = rest found

-- a record of another number changes nothing of this
pub other_pushed : (number k n : ℕ) (r : Record) (es : List (Entry Record)) → nat_eq k number ≡ false
    → newest number (take (suc n) (entry k r ∷ es)) ≡ newest number (take n es)
other_pushed number k n r es other = rw other refl

pub other_replaced : (number k n : ℕ) (r : Record) (es : List (Entry Record)) → nat_eq k number ≡ false
    → newest number (take n (replace_first k r es)) ≡ newest number (take n es)
other_replaced number k n r es other =
    ap (newest number) (take-replace_first k r n es) ∙ first_value-replace_first number k r (take n es) ∙ rw same refl
  where
    same : nat_eq number k ≡ false
    same = grind (arith, nat_tests, other)

pub it_replaced : (number n : ℕ) (r old : Record) (es : List (Entry Record)) → newest number (take n es) ≡ Some old
    → newest number (take n (replace_first number r es)) ≡ Some r
it_replaced number n r old es found =
    ap (newest number) (take-replace_first number r n es) ∙ first_value-replace_first number number r (take n es) ∙ rw (same, found) refl
  where
    same : nat_eq number number ≡ true
    same = grind (arith, nat_tests)

-- what isn't needed changes nothing of what is
module _ (X : Type 0) (F : Option Sighting → Option Sighting → X) where
  abbrev both : (from_needed to_needed : Bool) → (at_from at_to : Option Sighting) → Option X
  both b c at_from at_to = option_and_then (λ u. option_map (λ v. F u v) (needed c at_to)) (needed b at_from)

  from_unneeded : (b c : Bool) (s : Sighting) (at_to : Option Sighting) → is_some (both b c None at_to) ≡ true → both b c (Some s) at_to ≡ both b c None at_to
  from_unneeded true c s at_to some = absurd (false≢true some)
  from_unneeded false c s at_to some = refl

  to_unneeded : (b c : Bool) (s : Sighting) (at_from : Option Sighting) → is_some (both b c at_from None) ≡ true → both b c at_from (Some s) ≡ both b c at_from None
  to_unneeded b false s at_from some = refl
  to_unneeded false true s at_from some = absurd (false≢true some)
  to_unneeded true true s None some = absurd (false≢true some)
  to_unneeded true true s (Some u) some = absurd (false≢true some)

stays_complete_by : (s : Sighting) (place : Place) (first second at_from at_to : Option Sighting)
    → is_some (complete (record { first = first; second = second; at_from = at_from; at_to = at_to })) ≡ true
    → place_in (record { first = first; second = second; at_from = at_from; at_to = at_to }) place ≡ None
    → complete (with_place place s (record { first = first; second = second; at_from = at_from; at_to = at_to }))
    ≡ complete (record { first = first; second = second; at_from = at_from; at_to = at_to })
stays_complete_by s place None second at_from at_to some free = absurd (false≢true some)
stays_complete_by s place (Some f) None at_from at_to some free = absurd (false≢true some)
stays_complete_by s places.First (Some f) (Some g) at_from at_to some free = cc
stays_complete_by s places.Second (Some f) (Some g) at_from at_to some free = cc
stays_complete_by s places.AtFrom (Some f) (Some g) (Some u) at_to some free = cc
stays_complete_by s places.AtFrom (Some f) (Some g) None at_to some free = from_unneeded _ _ (f.needs_other && g.needs_other) g.needs_other s at_to some
stays_complete_by s places.AtTo (Some f) (Some g) at_from (Some v) some free = cc
stays_complete_by s places.AtTo (Some f) (Some g) at_from None some free = to_unneeded _ _ (f.needs_other && g.needs_other) g.needs_other s at_from some

stays_complete : (place : Place) (s : Sighting) (met : Places) → is_some (complete met) ≡ true → place_in met place ≡ None → complete (with_place place s met) ≡ complete met
stays_complete place s met some free = stays_complete_by s place met.first met.second met.at_from met.at_to some free

same_kind : (a b : Kind) → is_same_kind a b ≡ true → b ≡ a
same_kind kinds.Sync kinds.Sync is = refl
same_kind kinds.Sync kinds.DelayReq is = absurd (false≢true is)
same_kind kinds.DelayReq kinds.Sync is = absurd (false≢true is)
same_kind kinds.DelayReq kinds.DelayReq is = refl

same_number : (a b : ℕ) → nat_eq a b ≡ true → a ≡ b
same_number a b is = grind (arith, nat_tests, is)

pub is_none_is : {X : Type 0} (o : Option X) → is_none o ≡ true → o ≡ None
is_none_is None is = refl
is_none_is (Some x) is = absurd (false≢true is)

module _ (capacity : ℕ) (kind : Kind) (number : Seq) where
  -- it was told, or its record is still open
  abbrev StateAt : Bool → Places → List Placed → ℕ → Type 0
  StateAt true m ps d =
      (x : Crossing) → option_map (crossing kind number) (complete m) ≡ Some x → option_and_then (no_crossing kind) (complete m) ≡ None → Contains (crossings_of capacity ps) x
  StateAt false m ps d = newest number.0 (take (suc d) (records capacity kind ps)) ≡ Some (standings.Open m)

  abbrev State : Places → List Placed → ℕ → Type 0
  State m ps d = StateAt (is_some (complete m)) m ps d

  told_too : (p : Placed) (ps : List Placed) (x : Crossing) → Contains (crossings_of capacity ps) x → Contains (crossings_of capacity (p ∷ ps)) x
  told_too p ps x = Contains-append_right (option_to_list (crossing_in (told capacity p ps))) (crossings_of capacity ps) x

  abbrev opens : Placed → List Placed → ℕ
  opens p ps = if is_same_kind kind p.kind && is_free capacity kind p.number.0 ps then 1 else 0

  -- another message
  step_other : (p : Placed) (ps : List Placed) (m : Places) (d : ℕ) → is_of kind number.0 p ≡ false → State m ps d → State m (p ∷ ps) (opens p ps + d)
  step_other p ps m d other = by (is_some (complete m))
    where
      comes : (o : Option Record) → nat_eq p.number.0 number.0 ≡ false → newest number.0 (take (suc d) (records capacity kind ps)) ≡ Some (standings.Open m)
          → newest number.0 (take (suc ((if is_none o then 1 else 0) + d)) (joined p o (records capacity kind ps))) ≡ Some (standings.Open m)
      comes None far found =
          other_pushed number.0 p.number.0 (1 + d) (with p new_record) (records capacity kind ps) far
          ∙ ap (λ n. newest number.0 (take n (records capacity kind ps))) (let n : 1 + d ≡ suc d = omega arith in n) ∙ found
      comes (Some r) far found =
          ap (λ n. newest number.0 (take (suc n) (replace_first p.number.0 (with p r) (records capacity kind ps)))) (let n : 0 + d ≡ d = omega arith in n)
          ∙ other_replaced number.0 p.number.0 (suc d) (with p r) (records capacity kind ps) far ∙ found

      at : (b : Bool) → is_same_kind kind p.kind ≡ b → newest number.0 (take (suc d) (records capacity kind ps)) ≡ Some (standings.Open m)
          → newest number.0 (take (suc ((if b && is_free capacity kind p.number.0 ps then 1 else 0) + d))
          (if b then joined p (open_record capacity p.number.0 (records capacity kind ps)) (records capacity kind ps) else records capacity kind ps)) ≡ Some (standings.Open m)
      at false is found = ap (λ n. newest number.0 (take (suc n) (records capacity kind ps))) (let n : 0 + d ≡ d = omega arith in n) ∙ found
      at true is found =
          comes (open_record capacity p.number.0 (records capacity kind ps)) (sym (ap (λ (b : Bool). b && nat_eq p.number.0 number.0) is) ∙ other) found

      by : (b : Bool) → StateAt b m ps d → StateAt b m (p ∷ ps) (opens p ps + d)
      by true told = λ x is why. told_too p ps x (told x is why)
      by false found = at (is_same_kind kind p.kind) refl found

  -- one of them comes to its record
  step_open : (p : Placed) (ps : List Placed) (m : Places) (d : ℕ) → is_of kind number.0 p ≡ true → place_in m p.place ≡ None → suc d ≤ capacity
      → newest number.0 (take (suc d) (records capacity kind ps)) ≡ Some (standings.Open m) → State (with_place p.place p.sighting m) (p ∷ ps) (opens p ps + d)
  step_open p ps m d it free within found = by (complete (with_place p.place p.sighting m)) refl
    where
      parts : (is_same_kind kind p.kind ≡ true) × (nat_eq p.number.0 number.0 ≡ true)
      parts = and_parts (is_same_kind kind p.kind) (nat_eq p.number.0 number.0) it

      kind_is : p.kind ≡ kind
      kind_is = same_kind kind p.kind parts.0

      number_is : p.number.0 ≡ number.0
      number_is = same_number p.number.0 number.0 parts.1

      comes : open_record capacity p.number.0 (records capacity kind ps) ≡ Some (standings.Open m)
      comes =
          ap (λ n. open_record capacity n (records capacity kind ps)) number_is
          ∙ ap unclosed (newest_more number.0 (suc d) capacity (records capacity kind ps) (standings.Open m) within found)

      told_is : told capacity p ps ≡ closes_or_waits p (complete (with_place p.place p.sighting m))
      told_is =
          ap (λ k. comes_to p (unwrap_or (open_record capacity p.number.0 (records capacity k ps)) new_record)) kind_is
          ∙ ap (λ o. comes_to p (unwrap_or o new_record)) comes
          ∙ ap (λ o. if is_some o then outcomes.Spoils else closes_or_waits p (complete (with_place p.place p.sighting m))) free

      stands : is_some (complete (with_place p.place p.sighting m)) ≡ false → with p (standings.Open m) ≡ standings.Open (with_place p.place p.sighting m)
      stands none =
          ap (λ o. if is_some o then standings.Spoiled else closed_or_open (with_place p.place p.sighting m)) free
          ∙ ap (λ (b : Bool). if b then standings.Closed else standings.Open (with_place p.place p.sighting m)) none

      depth : opens p ps + d ≡ d
      depth = ap (λ (b : Bool). (if b && is_free capacity kind p.number.0 ps then 1 else 0) + d) parts.0
          ∙ ap (λ o. (if is_none o then 1 else 0) + d) comes ∙ (let n : 0 + d ≡ d = omega arith in n)

      records_are : records capacity kind (p ∷ ps) ≡ replace_first number.0 (with p (standings.Open m)) (records capacity kind ps)
      records_are =
          ap (λ (b : Bool). if b then joined p (open_record capacity p.number.0 (records capacity kind ps)) (records capacity kind ps) else records capacity kind ps) parts.0
          ∙ ap (λ o. joined p o (records capacity kind ps)) comes
          ∙ ap (λ n. replace_first n (with p (standings.Open m)) (records capacity kind ps)) number_is

      by : (o : Option _) → complete (with_place p.place p.sighting m) ≡ o → State (with_place p.place p.sighting m) (p ∷ ps) (opens p ps + d)
      by None is =
          subst (λ (b : Bool). StateAt b (with_place p.place p.sighting m) (p ∷ ps) (opens p ps + d)) (sym (ap is_some is))
          (ap (λ n. newest number.0 (take (suc n) (records capacity kind (p ∷ ps)))) depth
          ∙ ap (λ rs. newest number.0 (take (suc d) rs)) records_are
          ∙ it_replaced number.0 (suc d) (with p (standings.Open m)) (standings.Open m) (records capacity kind ps) found
          ∙ ap Some (stands (ap is_some is)))
      by (Some c) is =
          subst (λ (b : Bool). StateAt b (with_place p.place p.sighting m) (p ∷ ps) (opens p ps + d)) (sym (ap is_some is))
          (λ x x_is why.
          let reason : no_crossing kind c ≡ None = sym (ap (option_and_then (no_crossing kind)) is) ∙ why in
          let same : Some (crossing kind number c) ≡ Some x = sym (ap (option_map (crossing kind number)) is) ∙ x_is in
          let seq : p.number ≡ number = ap (λ n. record { 0 = n }) number_is in
          let crossed : told capacity p ps ≡ outcomes.Crossed x =
          told_is ∙ ap (closes_or_waits p) is ∙ ap (λ k. crossed_unless (no_crossing k c) k p.number c) kind_is
          ∙ ap (λ n. crossed_unless (no_crossing kind c) kind n c) seq
          ∙ ap (λ why. crossed_unless why kind number c) reason
          ∙ ap (λ (o : Option Crossing). option_map_or outcomes.Crossed o outcomes.Waits) same in
          Contains-append_left (option_to_list (crossing_in (told capacity p ps))) (crossings_of capacity ps) x
          (subst (λ o. Contains (option_to_list (crossing_in o)) x) (sym crossed) (0, omega arith, refl)))

  -- one of them, at a place that is free
  step_it : (p : Placed) (ps : List Placed) (m : Places) (d : ℕ) → is_of kind number.0 p ≡ true → place_in m p.place ≡ None → suc d ≤ capacity → State m ps d
      → State (with_place p.place p.sighting m) (p ∷ ps) (opens p ps + d)
  step_it p ps m d it free within = by (is_some (complete m)) refl
    where
      by : (b : Bool) → is_some (complete m) ≡ b → StateAt b m ps d → State (with_place p.place p.sighting m) (p ∷ ps) (opens p ps + d)
      by true some told =
          let same = stays_complete p.place p.sighting m some free in
          subst (λ (b : Bool). StateAt b (with_place p.place p.sighting m) (p ∷ ps) (opens p ps + d)) (sym (ap is_some same ∙ some))
          (λ x is why. told_too p ps x (told x (ap (option_map (crossing kind number)) (sym same) ∙ is) (ap (option_and_then (no_crossing kind)) (sym same) ∙ why)))
      by false none found = step_open p ps m d it free within found

  pub each_step : (p : Placed) (ps : List Placed) (m : Places) (d : ℕ) → (b : Bool) → is_of kind number.0 p ≡ b → (is_of kind number.0 p ≡ true → place_in m p.place ≡ None)
      → suc d ≤ capacity → State m ps d → State (if b then with_place p.place p.sighting m else m) (p ∷ ps) (opens p ps + d)
  each_step p ps m d true it free within state = step_it p ps m d it (free it) within state
  each_step p ps m d false it free within state = step_other p ps m d it state

  -- the message that opens the record
  begins : (before : List Placed) (p : Placed) → is_of kind number.0 p ≡ true → is_free capacity kind number.0 before ≡ true
      → State (if is_of kind number.0 p then with_place p.place p.sighting no_places else no_places) (p ∷ before) 0
  begins before p it free = rw it (by p.place refl)
    where
      parts : (is_same_kind kind p.kind ≡ true) × (nat_eq p.number.0 number.0 ≡ true)
      parts = and_parts (is_same_kind kind p.kind) (nat_eq p.number.0 number.0) it

      none : open_record capacity p.number.0 (records capacity kind before) ≡ None
      none = is_none_is (open_record capacity p.number.0 (records capacity kind before))
          (ap (λ n. is_free capacity kind n before) (same_number p.number.0 number.0 parts.1) ∙ free)

      found : (r : Record) → with p new_record ≡ r → newest number.0 (take 1 (records capacity kind (p ∷ before))) ≡ Some r
      found r is = rw (parts.0, none, parts.1) (ap Some is)

      by : (place : Place) → p.place ≡ place → State (with_place p.place p.sighting no_places) (p ∷ before) 0
      by places.First is =
          subst (λ q. State (with_place q p.sighting no_places) (p ∷ before) 0) (sym is)
          (found (standings.Open (with_place places.First p.sighting no_places)) (ap (λ q. after q p.sighting new_record) is))
      by places.Second is =
          subst (λ q. State (with_place q p.sighting no_places) (p ∷ before) 0) (sym is)
          (found (standings.Open (with_place places.Second p.sighting no_places)) (ap (λ q. after q p.sighting new_record) is))
      by places.AtFrom is =
          subst (λ q. State (with_place q p.sighting no_places) (p ∷ before) 0) (sym is)
          (found (standings.Open (with_place places.AtFrom p.sighting no_places)) (ap (λ q. after q p.sighting new_record) is))
      by places.AtTo is =
          subst (λ q. State (with_place q p.sighting no_places) (p ∷ before) 0) (sym is)
          (found (standings.Open (with_place places.AtTo p.sighting no_places)) (ap (λ q. after q p.sighting new_record) is))

  module _ (before : List Placed) (opening : Placed) (it : is_of kind number.0 opening ≡ true) (free : is_free capacity kind number.0 before ≡ true) where
    -- after each message
    pub states : (since : List Placed) → AreSingle kind number.0 (since ++ opening ∷ []) → opened_by capacity kind since (opening ∷ before) < capacity
        → State (met_of kind number.0 (since ++ opening ∷ [])) (since ++ opening ∷ before) (opened_by capacity kind since (opening ∷ before))
    states [] single within = begins before opening it free
    states (p ∷ since) single within =
        let less : opened_by capacity kind since (opening ∷ before) < capacity = omega (arith, within) in
        each_step p (since ++ opening ∷ before) (met_of kind number.0 (since ++ opening ∷ [])) (opened_by capacity kind since (opening ∷ before))
        (is_of kind number.0 p) refl single.0 less (states since single.1 less)

  -- what was told stays told
  told_later : (later ps : List Placed) (x : Crossing) → Contains (crossings_of capacity ps) x → Contains (crossings_of capacity (later ++ ps)) x
  told_later [] ps x told = told
  told_later (p ∷ later) ps x told = told_too p (later ++ ps) x (told_later later ps x told)

  some_is : {X Y : Type 0} (g : X → Y) (o : Option X) (y : Y) → option_map g o ≡ Some y → is_some o ≡ true
  some_is g None y is = cc
  some_is g (Some x) y is = refl

pub each_complete : EachCompleteIsTold
each_complete capacity kind number later since before opening x it free single within x_is why =
    let m : Places = met_of kind number.0 (since ++ opening ∷ []) in
    let some : is_some (complete m) ≡ true = some_is capacity kind number (crossing kind number) (complete m) x x_is in
    let state = subst (λ (b : Bool). StateAt capacity kind number b m (since ++ opening ∷ before) (opened_by capacity kind since (opening ∷ before))) some
    (states capacity kind number before opening it free since single within) in
    told_later capacity kind number later (since ++ opening ∷ before) x (state x x_is why)
