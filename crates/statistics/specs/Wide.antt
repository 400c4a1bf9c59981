-- Sums of 256 bits, which stay at the most that these hold, and counts of 64.
use Rattle.std.specs.Prelude.{ℕ, ◌+◌, ◌-◌, ◌*◌, ◌^◌, min, List}
use Rattle.std.specs.Prelude.{sum_by}
use Rattle.statistics.specs.declared.wide.Wide.{Wide}

-- the sum that it is
abbrev pub wide : Wide → ℕ
wide w = w.low + w.high * 2 ^ 128

-- so much, as far as 256 bits hold it
abbrev pub up_to_wide : ℕ → ℕ
up_to_wide sum = min sum (2 ^ 256 - 1)

-- the sum of what each of these has
abbrev pub wide_sum : {A : Type 0} → (A → ℕ) → List A → ℕ
wide_sum of all = up_to_wide (sum_by of all)

-- so many, as far as is counted
abbrev pub at_most : ℕ → ℕ
at_most count = min count (2 ^ 64 - 1)
