-- Differences that are whole numbers of seconds, as between two timescales of which one has leap seconds.
use Rattle.std.specs.Prelude.{ℕ, ◌+◌, ◌*◌, ◌/◌, ◌^◌, nat_le, ◌&&◌, ℤ, pos, ◌-ℤ◌, unsigned_abs, Option, Some, None, if◌then◌else◌}
use Rattle.result_verdict.specs.Exact.{nanosecond}
use Rattle.result_verdict.specs.Delays.{is_within}

-- a second
abbrev pub second : ℕ
second = 10 ^ 9 * nanosecond

-- how many seconds a difference is without its sign, rounded to the nearest number
abbrev pub nearest_seconds : ℤ → ℕ
nearest_seconds difference = (unsigned_abs difference + second / 2) / second

-- how far it is from so many
abbrev pub from_seconds : ℤ → ℕ → ℤ
from_seconds difference seconds = pos (unsigned_abs difference) -ℤ pos (seconds * second)

-- the number of seconds, at least one, that it is within the tolerance
abbrev pub whole_seconds : (tolerance difference : ℤ) → Option ℕ
whole_seconds tolerance difference =
    if nat_le 1 (nearest_seconds difference) && is_within tolerance (from_seconds difference (nearest_seconds difference))
    then Some (nearest_seconds difference) else None
