-- How great what is held of values can be.
use Rattle.std.specs.Prelude.{ℕ, ◌*◌, ◌^◌, ◌-◌, ◌<◌, ◌≤◌, ℤ, pos, negsuc, ◌<ℤ◌, Option, IfSome}
use Rattle.tap_sums.specs.declared.total.Total.{Total}

-- between -2^97 and 2^97
pub record IsValue (value : ℤ) : Type 0 where
  pub above : negsuc (2 ^ 97 - 1) <ℤ value
  pub below : value <ℤ pos (2 ^ 97)

-- the sum of so many values, of which none is greater
pub record IsBounded (count : ℕ) (t : Total) : Type 0 where
  pub high : t.high ≤ 2 ^ 34 * count
  pub low : t.low ≤ 2 ^ 64 * count
  pub least : IfSome t.least IsValue
  pub greatest : IfSome t.greatest IsValue

-- what is held of crossings of a kind: how many there are, the sums, the rest of the newest, and its greatest change
pub record HeldSums : Type 0 where
  pub count : ℕ
  pub taken : Total
  pub corrected : Total
  pub rest : Total
  pub newest : Option ℤ
  pub step : Option ℕ

-- and how great that can be
pub record AreBounded (s : HeldSums) : Type 0 where
  pub few : s.count < 2 ^ 63
  pub taken : IsBounded s.count s.taken
  pub corrected : IsBounded s.count s.corrected
  pub rest : IsBounded s.count s.rest
  pub newest : IfSome s.newest IsValue
  pub step : IfSome s.step (λ units. units < 2 ^ 98)
