-- Corrections: signed numbers of 2^-16 ns, of which the greatest means 'too big' (IEEE 1588-2019, 13.3.2.9).
use Rattle.std.specs.Prelude.{ℕ, ◌-◌, ◌^◌, ℤ, pos, negsuc, ◌+ℤ◌, ◌-ℤ◌, int_lt, Option, Some, None, if◌then◌else◌}
use Rattle.std.specs.Int.{int_min}

-- too big to be represented
abbrev pub too_big : ℤ
too_big = pos (2 ^ 63 - 1)

-- the least correction, -2^63
abbrev pub least : ℤ
least = negsuc (2 ^ 63 - 1)

-- the number of units, unless the correction is too big
abbrev pub exact : ℤ → Option ℤ
exact c = if int_lt c too_big then Some c else None

-- a residence time is added (IEEE 1588-2019, 10.2); a sum of 2^63 - 1 or more is too big, so too big stays too big
abbrev pub with_residence : ℤ → ℕ → ℤ
with_residence c residence = int_min (c +ℤ pos residence) too_big

-- a fraction of a nanosecond is taken off (IEEE 1588-2019, 11.3); too big stays too big
abbrev pub less_fraction : ℤ → ℕ → ℤ
less_fraction c fraction = if int_lt c too_big then c -ℤ pos fraction else too_big
