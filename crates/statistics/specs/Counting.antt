-- Counts that stay at 2^64 - 1.
use Rattle.std.specs.Prelude.{ℕ, ◌+◌, ◌-◌, ◌^◌, min, Bool, if◌then◌else◌}

-- one more where it is so, as far as is counted
abbrev pub with_one_if : Bool → ℕ → ℕ
with_one_if is_so count = if is_so then min (count + 1) (2 ^ 64 - 1) else count
