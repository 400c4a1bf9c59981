-- What is held of crossings of a kind.
use Rattle.std.specs.Prelude.{◌≡◌, ℕ, ◌+◌, ◌*◌, ◌^◌, ℤ, pos, ◌+ℤ◌, List, length}
use Rattle.tap_crossing.specs.declared.crossing.Crossing.{Crossing}
use Rattle.tap_sums.specs.declared.spread.Quantity.TheVariants as quantities
use Rattle.tap_sums.specs.declared.total.Total.{Total}
use Rattle.tap_sums.specs.declared.kind_sums.KindSums.{KindSums}
use Rattle.tap_sums.specs.Sums.{total, least, greatest, value_of, newest, step}

-- the sum of values that are raised by 2^97 each, so that none is below 0
abbrev pub raised : Total → ℕ
raised t = t.high * 2 ^ 64 + t.low

-- this is the sum of these values, raised, and the least and the greatest of them
pub record IsTotal (of : Crossing → ℤ) (all : List Crossing) (t : Total) : Type 0 where
  pub sum : pos (raised t) ≡ total of all +ℤ pos (2 ^ 97 * length all)
  pub least : t.least ≡ least of all
  pub greatest : t.greatest ≡ greatest of all

-- this is held of these
pub record AreKindSums (all : List Crossing) (s : KindSums) : Type 0 where
  pub count : s.count ≡ length all
  pub taken : IsTotal (value_of quantities.Taken) all s.taken
  pub corrected : IsTotal (value_of quantities.Corrected) all s.corrected
  pub rest : IsTotal (value_of quantities.Rest) all s.rest
  pub newest : s.newest ≡ newest all
  pub step : s.step ≡ step all
