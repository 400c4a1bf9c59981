-- What a table holds of all the entries that ever came to it.
use Rattle.std.specs.Prelude.{◌≡◌, ℕ, ◌-◌, List, ◌++◌, length, take}
use Rattle.pairing.specs.Marked.{Entry, Marked, newest_first}

-- of the entries since the last tick and those before it, each list the newest first, the table holds the latest
-- `capacity`; those since the last tick aren't marked
pub record HoldsLatest {V : Type 0} (capacity : ℕ) (since before : List (Entry V)) (table : Marked V) : Type 0 where
  pub latest : newest_first table ≡ take capacity (since ++ before)
  pub marked : table.marked ≡ length table.entries - length since
