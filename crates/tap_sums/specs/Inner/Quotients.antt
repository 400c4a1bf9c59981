-- Quotients of sums of values that were raised by 2^97 each.
use Rattle.std.specs.Prelude.{◌≡◌, ℕ, ◌+◌, ◌*◌, ◌^◌, ◌<◌, ℤ, pos, ◌+ℤ◌}
use Rattle.tap_sums.specs.declared.total.Quotient.{Quotient}

-- by so many
pub record IsQuotient (count : ℕ) (q : Quotient) : Type 0 where
  pub few : count < 2 ^ 63
  pub rest : q.rest < count
  pub whole : q.whole < 2 ^ 99

-- this is the sum of so many values
abbrev pub IsSumOf : ℤ → Quotient → (count : ℕ) → Type 0
IsSumOf n q count = pos (q.whole * count + q.rest) ≡ n +ℤ pos (2 ^ 97 * count)
