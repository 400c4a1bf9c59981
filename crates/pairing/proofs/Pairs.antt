-- The last pair of a number, as the newest entry of that number.
use Rattle.std.proofs.Common.{◌≡◌, ◌∙◌, ◌≤◌, ◌<◌, ◌+◌, ◌-◌, ℕ, zero, suc, refl, sym, ap, arith, Bool, true, false, cond, not, nat_eq, nat_lt, List, [], ◌∷◌, ◌++◌, length, reverse, set, get_or, drop, Option, Some, None, option_map, is_some, find as first_passing, position}
use Rattle.std.specs.List.{position_or_len}
use Rattle.std.proofs.lemmas.List.{length-reverse, length-map, get_or-reverse, reverse-reverse, drop-map, map-append, length_push}
use Rattle.std.proofs.lemmas.List.Quantifiers.{position-Some}
use Rattle.std.proofs.lemmas.Bool.Decides.{nat_tests}
use Rattle.ptp_units.specs.declared.sequence.Seq.{Seq}
use Rattle.pairing.specs.Marked.{Entry, entry, first_value, replace_first, tick, push, without_oldest}
use Rattle.pairing.specs.Inner.Listed.{entries_of, marked_of}
use Rattle.pairing.proofs.Lists.{map-reverse, reverse-set}

module _ {V : Type 0} where
  abbrev pub is_of : ℕ → Seq × V → Bool
  is_of number p = nat_eq p.0.0 number

  first_of_pairs : (number : ℕ) (pairs : List (Seq × V))
      → option_map (λ p. p.1) (first_passing (is_of number) pairs) ≡ first_value number (entries_of pairs)
  first_of_pairs number [] = refl
  first_of_pairs number (p ∷ pairs) = at (is_of number p) (first_of_pairs number pairs)
    where
      at : (b : Bool) → option_map (λ q. q.1) (first_passing (is_of number) pairs) ≡ first_value number (entries_of pairs)
          → option_map (λ q. q.1) (cond b (Some p) (first_passing (is_of number) pairs))
          ≡ option_map (λ e. e.value) (cond b (Some (entry p.0.0 p.1)) (first_passing (λ e. nat_eq e.number number) (entries_of pairs)))
      at true same = refl
      at false same = same

  -- the value of the last pair is that of the newest entry
  pub last_value : (number : ℕ) (pairs : List (Seq × V))
      → option_map (λ p. p.1) (first_passing (λ p. nat_eq p.0.0 number) (reverse pairs)) ≡ first_value number (reverse (entries_of pairs))
  last_value number pairs =
      first_of_pairs number (reverse pairs) ∙ ap (first_value number) (map-reverse (λ p. entry p.0.0 p.1) pairs)

  first_replaced : (number : ℕ) (value : V) (pairs : List (Seq × V)) (i : ℕ) (d : Seq × V) → i < length pairs
      → is_of number (get_or pairs i d) ≡ true → ((k : ℕ) → k < i → is_of number (get_or pairs k d) ≡ false)
      → entries_of (set pairs i ((get_or pairs i d).0, value)) ≡ replace_first number value (entries_of pairs)
  first_replaced number value [] i d within here before = absurd (omega arith)
  first_replaced number value (p ∷ pairs) zero d within here before = grind (arith, nat_tests, here)
  first_replaced number value (p ∷ pairs) (suc i) d within here before =
      let first : is_of number p ≡ false = before 0 (omega arith) in
      rw first (ap (λ es. entry p.0.0 p.1 ∷ es)
      (first_replaced number value pairs i d (omega arith) here (λ k below. before (suc k) (omega arith))))

  none_first : (number : ℕ) (value : V) (pairs : List (Seq × V)) → length pairs ≤ position_or_len (is_of number) pairs
      → replace_first number value (entries_of pairs) ≡ entries_of pairs
  none_first number value [] none = refl
  none_first number value (p ∷ pairs) none = at (is_of number p) none (none_first number value pairs)
    where
      at : (b : Bool) → suc (length pairs) ≤ cond (not b) (1 + position_or_len (is_of number) pairs) 0
          → (length pairs ≤ position_or_len (is_of number) pairs → replace_first number value (entries_of pairs) ≡ entries_of pairs)
          → cond b (entry number value ∷ entries_of pairs) (entry p.0.0 p.1 ∷ replace_first number value (entries_of pairs)) ≡ entries_of (p ∷ pairs)
      at true past more = absurd (omega arith)
      at false past more = ap (λ es. entry p.0.0 p.1 ∷ es) (more (omega arith))

  first_within : (number : ℕ) (pairs : List (Seq × V))
      → is_some (first_value number (entries_of pairs)) ≡ nat_lt (position_or_len (is_of number) pairs) (length pairs)
  first_within number [] = refl
  first_within number (p ∷ pairs) = at (is_of number p) (first_within number pairs)
    where
      at : (b : Bool) → is_some (first_value number (entries_of pairs)) ≡ nat_lt (position_or_len (is_of number) pairs) (length pairs)
          → is_some (option_map (λ e. e.value) (cond b (Some (entry p.0.0 p.1)) (first_passing (λ e. nat_eq e.number number) (entries_of pairs))))
          ≡ nat_lt (cond (not b) (1 + position_or_len (is_of number) pairs) 0) (suc (length pairs))
      at true same = grind (arith, nat_tests)
      at false same = grind (arith, nat_tests, same)

  -- the last pair of the number gets the value
  pub last_replaced : (number : ℕ) (value : V) (pairs : List (Seq × V)) (after i : ℕ) (d : Seq × V)
      → position (λ p. nat_eq p.0.0 number) (reverse pairs) ≡ Some after → i ≡ length pairs - 1 - after
      → entries_of (set pairs i ((get_or pairs i d).0, value)) ≡ reverse (replace_first number value (reverse (entries_of pairs)))
  last_replaced number value pairs after i d found at =
      let back : List (Seq × V) = reverse pairs in
      let place = position-Some (is_of number) back after d found in
      let even : length back ≡ length pairs = length-reverse pairs in
      let within : i < length pairs = omega (arith, even, place.0) in
      let same : get_or back after d ≡ get_or pairs i d =
      get_or-reverse pairs after d (omega (arith, even, place.0)) ∙ ap (λ k. get_or pairs k d) (sym at) in
      let from_end : reverse (set pairs i ((get_or pairs i d).0, value)) ≡ set back after ((get_or back after d).0, value) =
      reverse-set pairs i ((get_or pairs i d).0, value) within
      ∙ ap (λ k. set back k ((get_or pairs i d).0, value)) (let e : length pairs - 1 - i ≡ after = omega (arith, even, place.0) in e)
      ∙ ap (λ q. set back after (q.0, value)) (sym same) in
      sym (reverse-reverse (entries_of (set pairs i ((get_or pairs i d).0, value))))
      ∙ ap reverse (sym (map-reverse (λ p. entry p.0.0 p.1) (set pairs i ((get_or pairs i d).0, value))) ∙ ap entries_of from_end
      ∙ first_replaced number value back after d place.0 place.1 place.2
      ∙ ap (replace_first number value) (map-reverse (λ p. entry p.0.0 p.1) pairs))

  first_at : (number : ℕ) (pairs : List (Seq × V)) (i : ℕ) (d : Seq × V) → i < length pairs
      → is_of number (get_or pairs i d) ≡ true → ((k : ℕ) → k < i → is_of number (get_or pairs k d) ≡ false)
      → first_value number (entries_of pairs) ≡ Some (get_or pairs i d).1
  first_at number [] i d within here before = absurd (omega arith)
  first_at number (p ∷ pairs) zero d within here before = rw here refl
  first_at number (p ∷ pairs) (suc i) d within here before =
      let first : is_of number p ≡ false = before 0 (omega arith) in
      rw first (first_at number pairs i d (omega arith) here (λ k below. before (suc k) (omega arith)))

  -- the newest entry of the number has the value of the last pair
  pub last_at : (number : ℕ) (pairs : List (Seq × V)) (after i : ℕ) (d : Seq × V)
      → position (λ p. nat_eq p.0.0 number) (reverse pairs) ≡ Some after → i ≡ length pairs - 1 - after
      → first_value number (reverse (entries_of pairs)) ≡ Some (get_or pairs i d).1
  last_at number pairs after i d found at =
      let place = position-Some (is_of number) (reverse pairs) after d found in
      ap (first_value number) (sym (map-reverse (λ p. entry p.0.0 p.1) pairs))
      ∙ first_at number (reverse pairs) after d place.0 place.1 place.2
      ∙ ap (λ p. Some p.1) (get_or-reverse pairs after d (omega (arith, length-reverse pairs, place.0)) ∙ ap (λ k. get_or pairs k d) (sym at))

  -- there is a newest entry of the number just where there is a last pair of it
  pub last_held : (number : ℕ) (pairs : List (Seq × V)) (after : Option ℕ) → after ≡ position (λ p. nat_eq p.0.0 number) (reverse pairs)
      → is_some after ≡ is_some (first_value number (reverse (entries_of pairs)))
  last_held number pairs after found =
      ap is_some found ∙ sym (at (nat_lt (position_or_len (is_of number) (reverse pairs)) (length (reverse pairs))))
      ∙ sym (ap (λ es. is_some (first_value number es)) (sym (map-reverse (λ p. entry p.0.0 p.1) pairs)) ∙ first_within number (reverse pairs))
    where
      at : (b : Bool) → b ≡ is_some (cond b (Some (position_or_len (is_of number) (reverse pairs))) None)
      at true = refl
      at false = refl

  -- where no pair has the number, there is nothing to replace
  pub none_replaced : (number : ℕ) (value : V) (pairs : List (Seq × V)) → position (λ p. nat_eq p.0.0 number) (reverse pairs) ≡ None
      → entries_of pairs ≡ reverse (replace_first number value (reverse (entries_of pairs)))
  none_replaced number value pairs none =
      let past : length (reverse pairs) ≤ position_or_len (is_of number) (reverse pairs) = grind (arith, nat_tests, none) in
      sym (reverse-reverse (entries_of pairs))
      ∙ ap reverse (sym (map-reverse (λ p. entry p.0.0 p.1) pairs) ∙ sym (none_first number value (reverse pairs) past)
      ∙ ap (replace_first number value) (map-reverse (λ p. entry p.0.0 p.1) pairs))

  -- without the marked pairs, and all that stay marked
  pub ticked : (pairs kept : List (Seq × V)) (marked left : ℕ) → kept ≡ drop marked pairs → left ≡ length kept
      → marked_of kept left ≡ tick (marked_of pairs marked)
  ticked pairs kept marked left dropped counted =
      let same : entries_of kept ≡ drop marked (entries_of pairs) =
      ap entries_of dropped ∙ sym (drop-map (λ p. entry p.0.0 p.1) marked pairs) in
      let all : left ≡ length (drop marked (entries_of pairs)) =
      counted ∙ sym (length-map kept (λ p. entry p.0.0 p.1)) ∙ ap length same in
      ap (λ es. record { entries = es; marked = left }) same
      ∙ ap (λ n. record { entries = drop marked (entries_of pairs); marked = n }) all

  -- one more pair, the newest
  pub pushed : (capacity : ℕ) (pairs : List (Seq × V)) (marked : ℕ) (pair : Seq × V) → length pairs < capacity
      → marked_of (pairs ++ pair ∷ []) marked ≡ push capacity (entry pair.0.0 pair.1) (marked_of pairs marked)
  pushed capacity pairs marked pair room =
      let es : List (Entry V) = entries_of pairs ++ entry pair.0.0 pair.1 ∷ [] in
      let none : length es - capacity ≡ 0 = omega (arith, length_push (entries_of pairs) (entry pair.0.0 pair.1), length-map pairs (λ p. entry p.0.0 p.1)) in
      ap (λ es. record { entries = es; marked = marked }) (map-append (λ p. entry p.0.0 p.1) pairs (pair ∷ []))
      ∙ ap (λ n. record { entries = es; marked = n }) (let same : marked ≡ marked - 0 = omega arith in same)
      ∙ ap (λ n. without_oldest n (record { entries = es; marked = marked })) (sym none)

  -- and the oldest gone, where the table was full
  pub pushed_full : (capacity : ℕ) (pairs : List (Seq × V)) (marked : ℕ) (pair : Seq × V) → 1 ≤ capacity → length pairs ≡ capacity
      → marked_of (drop 1 pairs ++ pair ∷ []) (marked - 1) ≡ push capacity (entry pair.0.0 pair.1) (marked_of pairs marked)
  pushed_full capacity [] marked pair some full = absurd (omega (arith, full))
  pushed_full capacity (p ∷ pairs) marked pair some full =
      let es : List (Entry V) = entries_of (p ∷ pairs) ++ entry pair.0.0 pair.1 ∷ [] in
      let one : length es - capacity ≡ 1 = omega (arith, full, length_push (entries_of (p ∷ pairs)) (entry pair.0.0 pair.1), length-map (p ∷ pairs) (λ p. entry p.0.0 p.1)) in
      ap (λ es. record { entries = es; marked = marked - 1 }) (map-append (λ p. entry p.0.0 p.1) pairs (pair ∷ []))
      ∙ ap (λ n. without_oldest n (record { entries = es; marked = marked })) (sym one)
