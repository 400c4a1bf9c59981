-- How an exact number is kept: whole nanoseconds, rounded down, and what is left of one.
use Rattle.std.specs.Prelude.{◌≡◌, ℕ, ◌+◌, ◌-◌, ◌*◌, ◌/◌, ◌%◌, ◌^◌, ◌<◌, ℤ, pos, negsuc}
use Rattle.result_verdict.specs.Exact.{nanosecond, IsWithin}

-- whole nanoseconds, rounded down, and what is left of one
abbrev pub with_parts : ℤ → ℕ → ℤ
with_parts (pos whole) parts = pos (whole * nanosecond + parts)
with_parts (negsuc whole) parts = negsuc (whole * nanosecond + (nanosecond - 1 - parts))

-- whole nanoseconds, rounded down
abbrev pub whole_of : ℤ → ℤ
whole_of (pos n) = pos (n / nanosecond)
whole_of (negsuc n) = negsuc (n / nanosecond)

-- what is left
abbrev pub parts_of : ℤ → ℕ
parts_of (pos n) = n % nanosecond
parts_of (negsuc n) = nanosecond - 1 - n % nanosecond

-- what is left is less than a nanosecond, all is less than 2^120 ns from 0, and both are found again
pub record IsNormal (whole : ℤ) (parts : ℕ) : Type 0 where
  pub below : parts < nanosecond
  pub near : IsWithin (2 ^ 120) (with_parts whole parts)
  pub whole_found : whole_of (with_parts whole parts) ≡ whole
  pub parts_found : parts_of (with_parts whole parts) ≡ parts
