-- Quotients that are rounded to whole numbers.
use Rattle.std.specs.Prelude.{ℕ, ◌-◌, ◌*◌, ◌/◌, ◌%◌, ◌==◌, nat_lt, Bool, ◌&&◌, ◌||◌, ℤ, pos, negsuc, ◌+ℤ◌, unsigned_abs}
use Rattle.std.specs.Prelude.{if◌then◌else◌}

-- the greatest whole number that isn't above a quotient
abbrev pub floor : ℤ → ℕ → ℤ
floor (pos n) divisor = pos (n / divisor)
floor (negsuc n) divisor = negsuc (n / divisor)

-- what is left of the dividend above that
abbrev pub remainder : ℤ → ℕ → ℕ
remainder (pos n) divisor = n % divisor
remainder (negsuc n) divisor = divisor - 1 - n % divisor

abbrev pub is_odd : ℤ → Bool
is_odd n = unsigned_abs n % 2 == 1

-- the whole number next to one with this remainder, of two that are as near the even one
abbrev pub next_to : (whole : ℤ) → (rest divisor : ℕ) → ℤ
next_to whole rest divisor =
    if nat_lt divisor (2 * rest) || (2 * rest == divisor && is_odd whole) then whole +ℤ pos 1 else whole

-- the whole number next to a quotient, of two that are as near the even one
abbrev pub rounded : ℤ → (divisor : ℕ) → ℤ
rounded n divisor = next_to (floor n divisor) (remainder n divisor) divisor
