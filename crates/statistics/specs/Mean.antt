-- Means, medians and standard deviations, rounded to thousandths of a nanosecond. Values are in units of 2^-17 ns.
use Rattle.std.specs.Prelude.{◌≡◌, ℕ, ◌+◌, ◌-◌, ◌*◌, ◌/◌, ◌^◌, ◌≤◌, ◌<◌, ◌⊎◌, nat_lt, ℤ, pos, ◌+ℤ◌, int_lt, unsigned_abs}
use Rattle.statistics.specs.declared.recent.Middle.{Middle}
use Rattle.statistics.specs.declared.rounded.Signed.{Signed}
use Rattle.statistics.specs.declared.series.Series.{Series}
use Rattle.statistics.specs.Wide.{wide}

-- how far two numbers are apart
abbrev pub apart : ℕ → ℕ → ℕ
apart a b = (a - b) + (b - a)

-- the sum of all values, without its sign
abbrev pub total : Series → ℕ
total s = apart (wide s.above) (wide s.below)

-- a size in units of 2^-17 ns to the nearest nanosecond, a half upwards
abbrev pub in_nanoseconds : ℕ → ℕ
in_nanoseconds size = (size + 65536) / 131072

-- of no values, and from a sum of 2^118 units on, which are 80 million years
abbrev pub HasNoMean : Series → Type 0
HasNoMean s = (2 ^ 128 ≤ 1000 * total s) ⊎ (s.count ≡ 0)

-- in thousandths of a nanosecond, to the nearest, halves away from 0
pub record IsMean (s : Series) (m : Signed) : Type 0 where
  pub is_negative : m.is_negative ≡ nat_lt (wide s.above) (wide s.below)
  pub size : m.size ≡ (1000 * total s + 65536 * s.count) / (131072 * s.count)

-- the sum of the two values in the middle
abbrev pub both : Middle → ℤ
both middle = middle.lower +ℤ middle.upper

-- their mean, in thousandths of a nanosecond, to the nearest, halves away from 0
pub record IsRoundedMedian (middle : Middle) (m : Signed) : Type 0 where
  pub is_negative : m.is_negative ≡ int_lt (both middle) (pos 0)
  pub size : m.size ≡ (1000 * unsigned_abs (both middle) + 131072) / 262144

-- ---- how much values vary
-- so many times the sum of the squares, less the square of the sum
abbrev pub varied : Series → ℕ
varied s = wide s.squares * s.count - total s * total s

-- their variance, of a sample, rounded down
abbrev pub variance : Series → ℕ
variance s = varied s / s.count / (s.count - 1)

-- of fewer than two values, and where a number passes what is reckoned with: a sum of 2^128, one of squares of 2^256, a variance of 2^128
abbrev pub HasNoDeviation : Series → Type 0
HasNoDeviation s =
    (s.count < 2) ⊎ (2 ^ 128 ≤ total s) ⊎ (2 ^ 256 ≤ wide s.squares * s.count) ⊎ (wide s.squares * s.count < total s * total s)
    ⊎ (2 ^ 128 ≤ variance s)

-- a square root, rounded down
pub record IsRoot (root n : ℕ) : Type 0 where
  pub at_most : root * root ≤ n
  pub next : n < (root + 1) * (root + 1)

-- the standard deviation: the square root of the variance, in thousandths of a nanosecond, to the nearest
abbrev pub IsDeviation : Series → (thousandths : ℕ) → Type 0
IsDeviation s thousandths = (root : ℕ) × IsRoot root (variance s) × (thousandths ≡ in_nanoseconds (1000 * root))
