-- Numbered values in the order in which they came, of which some of the oldest may be marked: what a table means.
use Rattle.std.specs.Prelude.{ℕ, ◌-◌, ◌≤◌, List, [], ◌∷◌, ◌++◌, length, drop, reverse, nat_eq, Option, option_map}
use Rattle.std.specs.Prelude.{find as first_passing, if◌then◌else◌}

-- a value under a sequenceId (IEEE 1588-2019, 7.3.7)
pub record Entry (V : Type 0) : Type 0 where
  pub number : ℕ
  pub value : V

-- entries, oldest first, and how many of those at the front are marked
pub record Marked (V : Type 0) : Type 0 where
  pub entries : List (Entry V)
  pub marked : ℕ

module _ {V : Type 0} where
  -- the value under the number
  abbrev pub entry : ℕ → V → Entry V
  entry number value = record { number = number; value = value }

  -- no entry, and none marked
  abbrev pub empty : Marked V
  empty = record { entries = []; marked = 0 }

  -- the entries, from the newest back to the oldest
  abbrev pub newest_first : Marked V → List (Entry V)
  newest_first table = reverse table.entries

  -- without its oldest n entries, the marked ones among them too
  abbrev pub without_oldest : ℕ → Marked V → Marked V
  without_oldest n table = record { entries = drop n table.entries; marked = table.marked - n }

  -- with one more entry, the newest
  abbrev pub with_newest : Entry V → Marked V → Marked V
  with_newest e table = record { entries = table.entries ++ e ∷ []; marked = table.marked }

  -- an entry is added, and of them all the newest `capacity` stay
  abbrev pub push : ℕ → Entry V → Marked V → Marked V
  push capacity e table =
      without_oldest (length (table.entries ++ e ∷ []) - capacity) (with_newest e table)

  -- the value of the first entry of this number
  abbrev pub first_value : ℕ → List (Entry V) → Option V
  first_value number entries = option_map (λ e. e.value) (first_passing (λ e. nat_eq e.number number) entries)

  -- the value of the newest entry of this number
  abbrev pub find : ℕ → Marked V → Option V
  find number table = first_value number (newest_first table)

  -- the first entry of this number, if there is one, gets another value
  abbrev pub replace_first : ℕ → V → List (Entry V) → List (Entry V)
  replace_first number value [] = []
  replace_first number value (e ∷ rest) =
      if nat_eq e.number number then entry number value ∷ rest else e ∷ replace_first number value rest

  -- the newest entry of this number, if there is one, gets another value
  abbrev pub set : ℕ → V → Marked V → Marked V
  set number value table =
      record { entries = reverse (replace_first number value (newest_first table)); marked = table.marked }

  -- the marked entries go, and all that stay are marked
  abbrev pub tick : Marked V → Marked V
  tick table =
      record { entries = drop table.marked table.entries; marked = length (drop table.marked table.entries) }

  -- the capacity is 1 to 256, no more entries are there than fit, and no more are marked than are there
  pub record IsWithin (capacity : ℕ) (table : Marked V) : Type 0 where
    pub some_fit : 1 ≤ capacity
    pub few_fit : capacity ≤ 256
    pub fits : length table.entries ≤ capacity
    pub marked_there : table.marked ≤ length table.entries
