-- What the calls of a table do to the list of its entries with the newest first, and to what `find` finds.
use Rattle.std.proofs.Common.{◌≡◌, ◌∙◌, ◌≤◌, ◌-◌, ◌+◌, ℕ, zero, suc, min, refl, sym, ap, append-nil, arith, Bool, true, false, if◌then◌else◌, nat_eq, List, [], ◌∷◌, ◌++◌, length, reverse, take, drop, Some, None, option_map, find as first_passing}
use Rattle.std.proofs.lemmas.List.{reverse-append, reverse-reverse, length-reverse, length-drop, length-append, length-take, take_min}
use Rattle.std.proofs.lemmas.Bool.Decides.{nat_tests}
use Rattle.pairing.specs.Marked.{Entry, Marked, entry, empty, newest_first, without_oldest, push, first_value, find, replace_first, set, tick}
use Rattle.pairing.specs.Latest.{HoldsLatest}
use Rattle.pairing.proofs.Lists.{reverse-take, reverse-drop, take-front, take-more, take-nil}

module _ {V : Type 0} where
  -- without the oldest, the rest of the newest stay
  pub newest_first-without_oldest : (n : ℕ) (table : Marked V)
      → newest_first (without_oldest n table) ≡ take (length table.entries - n) (newest_first table)
  newest_first-without_oldest n table = reverse-drop n table.entries

  pub newest_first-push : (capacity : ℕ) (e : Entry V) (table : Marked V)
      → newest_first (push capacity e table) ≡ take capacity (e ∷ newest_first table)
  newest_first-push capacity e table =
      let all : List (Entry V) = e ∷ newest_first table in
      let pushed : reverse all ≡ table.entries ++ e ∷ [] =
      reverse-append (e ∷ []) (newest_first table) ∙ ap (λ es. es ++ e ∷ []) (reverse-reverse table.entries) in
      rw (← pushed) (ap reverse (ap (λ n. drop (n - capacity) (reverse all)) (length-reverse all) ∙ sym (reverse-take capacity all)) ∙ reverse-reverse (take capacity all))

  pub newest_first-set : (number : ℕ) (value : V) (table : Marked V)
      → newest_first (set number value table) ≡ replace_first number value (newest_first table)
  newest_first-set number value table = reverse-reverse (replace_first number value (newest_first table))

  pub newest_first-tick : (table : Marked V)
      → newest_first (tick table) ≡ take (length table.entries - table.marked) (newest_first table)
  newest_first-tick table = newest_first-without_oldest table.marked table

  pub length-newest_first : (table : Marked V) → length (newest_first table) ≡ length table.entries
  length-newest_first table = length-reverse table.entries

  pub find-empty : (number : ℕ) → find number (empty {V = V}) ≡ None
  find-empty number = refl

  -- after a push, the new value where the number is its own, else that of an entry that stayed
  pub find-push : (number capacity : ℕ) (e : Entry V) (table : Marked V) → 1 ≤ capacity
      → find number (push capacity e table)
      ≡ (if nat_eq e.number number then Some e.value
      else find number (without_oldest (length table.entries + 1 - capacity) table))
  find-push number zero e table some = absurd (omega arith)
  find-push number (suc room) e table some =
      ap (first_value number) (newest_first-push (suc room) e table) ∙ at (nat_eq e.number number)
      ∙ ap (λ es. if nat_eq e.number number then Some e.value else first_value number es) (sym stayed)
    where
      rest : List (Entry V)
      rest = take room (newest_first table)

      at : (b : Bool) → option_map (λ e. e.value) (if b then Some e else first_passing (λ e. nat_eq e.number number) rest)
          ≡ (if b then Some e.value else first_value number rest)
      at true = refl
      at false = refl

      stayed : newest_first (without_oldest (length table.entries + 1 - suc room) table) ≡ rest
      stayed =
          newest_first-without_oldest (length table.entries + 1 - suc room) table
          ∙ ap (λ n. take n (newest_first table)) (let stay : length table.entries - (length table.entries + 1 - suc room) ≡ min room (length (newest_first table)) =
          omega (arith, length-newest_first table) in stay)
          ∙ take_min room (newest_first table)

  pub take-replace_first : (number : ℕ) (value : V) (n : ℕ) (es : List (Entry V))
      → take n (replace_first number value es) ≡ replace_first number value (take n es)
  take-replace_first number value zero es = refl
  take-replace_first number value (suc n) [] = refl
  take-replace_first number value (suc n) (e ∷ es) =
      at (nat_eq e.number number) (take-replace_first number value n es)
    where
      at : (b : Bool) → take n (replace_first number value es) ≡ replace_first number value (take n es)
          → take (suc n) (if b then entry number value ∷ es else e ∷ replace_first number value es)
          ≡ (if b then entry number value ∷ take n es else e ∷ replace_first number value (take n es))
      at true same = refl
      at false same = ap (λ rest. e ∷ rest) same

  pub length-replace_first : (number : ℕ) (value : V) (es : List (Entry V)) → length (replace_first number value es) ≡ length es
  length-replace_first number value [] = refl
  length-replace_first number value (e ∷ es) = at (nat_eq e.number number) (length-replace_first number value es)
    where
      at : (b : Bool) → length (replace_first number value es) ≡ length es
          → length (if b then entry number value ∷ es else e ∷ replace_first number value es) ≡ suc (length es)
      at true same = refl
      at false same = ap suc same

  pub first_value-replace_first : (sought number : ℕ) (value : V) (es : List (Entry V))
      → first_value sought (replace_first number value es)
      ≡ (if nat_eq sought number then option_map (λ _. value) (first_value number es) else first_value sought es)
  first_value-replace_first sought number value [] = grind (arith, nat_tests)
  first_value-replace_first sought number value (e ∷ es) =
      grind (arith, nat_tests, first_value-replace_first sought number value es)

  -- after a set, the new value at its number if there was one, and all else as before
  pub find-set : (sought number : ℕ) (value : V) (table : Marked V)
      → find sought (set number value table)
      ≡ (if nat_eq sought number then option_map (λ _. value) (find number table) else find sought table)
  find-set sought number value table =
      ap (first_value sought) (newest_first-set number value table)
      ∙ first_value-replace_first sought number value (newest_first table)

  -- after a tick, one that wasn't marked
  pub find-tick : (number : ℕ) (table : Marked V) → find number (tick table) ≡ find number (without_oldest table.marked table)
  find-tick number table = refl

-- Of the laws on the latest entries, each takes the equation that the call ensures.
module _ {V : Type 0} where
  pub HoldsLatest-empty : {capacity : ℕ} {table : Marked V} → table ≡ empty → HoldsLatest capacity [] [] table
  HoldsLatest-empty {capacity} made =
      rw made (record { latest = sym (take-nil capacity); marked = refl })

  -- as many are held as fit, or all
  pub length-HoldsLatest : {capacity : ℕ} {since before : List (Entry V)} {table : Marked V}
      → HoldsLatest capacity since before table → length table.entries ≡ min capacity (length (since ++ before))
  length-HoldsLatest {capacity} {since} {before} {table} held =
      sym (length-newest_first table) ∙ ap length held.latest ∙ length-take capacity (since ++ before)

  pub HoldsLatest-push : {capacity : ℕ} {since before : List (Entry V)} {e : Entry V} {table new : Marked V} → new ≡ push capacity e table
      → HoldsLatest capacity since before table → HoldsLatest capacity (e ∷ since) before new
  HoldsLatest-push {capacity} {since} {before} {e} {table} pushed held = rw pushed (record {
    latest =
        newest_first-push capacity e table ∙ ap (λ es. take capacity (e ∷ es)) held.latest
        ∙ take-more capacity e (since ++ before);
    marked = omega (
      arith,
      held.marked,
      length-HoldsLatest held,
      length-append table.entries (e ∷ []),
      length-drop (length (table.entries ++ e ∷ []) - capacity) (table.entries ++ e ∷ []),
    );
  })

  -- what came before the last tick goes
  pub HoldsLatest-tick : {capacity : ℕ} {since before : List (Entry V)} {table new : Marked V} → new ≡ tick table
      → HoldsLatest capacity since before table → HoldsLatest capacity [] since new
  HoldsLatest-tick {capacity} {since} {before} {table} ticked held =
      let stay : length table.entries - table.marked ≡ min capacity (length since) =
      omega (arith, held.marked, length-HoldsLatest held, length-append since before) in
      rw ticked (record {
        latest =
            newest_first-tick table ∙ ap (λ n. take n (newest_first table)) stay
            ∙ ap (take (min capacity (length since))) held.latest ∙ take-front capacity since before;
        marked = omega arith;
      })

  -- of a table that was never ticked
  pub HoldsLatest-set : (number : ℕ) (value : V) {capacity : ℕ} {since : List (Entry V)} {table new : Marked V} → new ≡ set number value table
      → HoldsLatest capacity since [] table → HoldsLatest capacity (replace_first number value since) [] new
  HoldsLatest-set number value {capacity} {since} {table} replaced held = rw replaced (record {
    latest =
        newest_first-set number value table ∙ ap (replace_first number value) (held.latest ∙ ap (take capacity) (append-nil since))
        ∙ sym (take-replace_first number value capacity since)
        ∙ ap (take capacity) (sym (append-nil (replace_first number value since)));
    marked = omega (
      arith,
      held.marked,
      length-replace_first number value since,
      length-replace_first number value (newest_first table),
      length-newest_first table,
      length-newest_first (set number value table),
      ap length (newest_first-set number value table),
    );
  })

  -- the newest of the latest
  pub find-HoldsLatest : {capacity : ℕ} {since before : List (Entry V)} {table : Marked V} (number : ℕ)
      → HoldsLatest capacity since before table → find number table ≡ first_value number (take capacity (since ++ before))
  find-HoldsLatest number held = ap (first_value number) held.latest

-- what a table holds after each call
pub ruleset latest = (HoldsLatest-empty, HoldsLatest-push, HoldsLatest-tick, HoldsLatest-set)
