-- The records that are open, by the places in which something was met. At the end these are the ones that lack a message.
use Rattle.std.specs.Prelude.{◌≡◌, ℕ, ◌+◌, ◌*◌, ◌%◌, ◌^◌, ◌<◌, Bool, ◌==◌, List, [], ◌∷◌, length, slice_index, is_some}
use Rattle.std.specs.Prelude.{Option, Some, None, if◌then◌else◌}
use Rattle.pairing.specs.Marked.{Entry}
use Rattle.tap_crossing.specs.declared.places.Filled.{Filled}
use Rattle.tap_crossing.specs.declared.places.Places.{Places}
use Rattle.tap_crossing.specs.declared.places.Record.{Record}
use Rattle.tap_crossing.specs.declared.places.Record.TheVariants as standings

-- 1 where it is so
abbrev pub bit : Bool → ℕ
bit b = if b then 1 else 0

-- which places are filled, as one number
abbrev pub number_of : Filled → ℕ
number_of f = bit f.first + 2 * bit f.second + 4 * bit f.at_from + 8 * bit f.at_to

-- the places in which something was met
abbrev pub filled : Places → Filled
filled met = record {
  first = is_some met.first;
  second = is_some met.second;
  at_from = is_some met.at_from;
  at_to = is_some met.at_to;
}

-- the number of the filled places of a record that is open
abbrev pub open_number : Record → Option ℕ
open_number (standings.Open met) = Some (number_of (filled met))
open_number standings.Spoiled = None
open_number standings.Closed = None

-- 1 where it is this number
abbrev pub counts_as : ℕ → Option ℕ → ℕ
counts_as k None = 0
counts_as k (Some i) = bit (i == k)

-- how many of the records are open with the places of this number filled
abbrev pub open_count : ℕ → List (Entry Record) → ℕ
open_count k [] = 0
open_count k (e ∷ es) = counts_as k (open_number e.value) + open_count k es

-- these are the counts of the records, modulo 2^64
pub record HoldsOpen (counts : List ℕ) (all : List (Entry Record)) : Type 0 where
  pub length_is : length counts ≡ 16
  pub each : (k : ℕ) → k < 16 → slice_index counts k ≡ open_count k all % 2 ^ 64
