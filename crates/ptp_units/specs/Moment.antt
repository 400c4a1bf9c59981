-- Moments, and the timestamp and fraction that name each of them (IEEE 1588-2019, 5.3.3 and 13.3.2.9).
use Rattle.std.specs.Prelude.{ℕ, ◌+◌, ◌*◌, ◌/◌, ◌%◌, ◌^◌, ◌<◌, ℤ, pos, negsuc, nat_lt, if◌then◌else◌}
use Rattle.std.specs.Prelude.{Option, Some, None}

-- seconds, and nanoseconds past the second
pub record Stamp : Type 0 where
  pub seconds : ℕ
  pub nanos : ℕ

abbrev pub stamp : ℕ → ℕ → Stamp
stamp seconds nanos = record { seconds = seconds; nanos = nanos }

-- what a Timestamp may hold: 48 bits of seconds, and less than a second of nanoseconds
pub record IsStamp (s : Stamp) : Type 0 where
  pub seconds : s.seconds < 2 ^ 48
  pub nanos : s.nanos < 10 ^ 9

-- the moments are the numbers of 2^-16 ns below 2^48 s
abbrev pub bound : ℕ
bound = 18446744073709551616000000000

-- the moment that a whole number is, where it is one
abbrev pub moment_of : ℤ → Option ℕ
moment_of (pos n) = if nat_lt n bound then Some n else None
moment_of (negsuc n) = None

-- the moment that a timestamp and a fraction of a nanosecond name
abbrev pub moment : Stamp → ℕ → ℕ
moment s fraction = (s.seconds * 1000000000 + s.nanos) * 65536 + fraction

-- the timestamp of a moment, without its fraction
abbrev pub stamp_of : ℕ → Stamp
stamp_of time = stamp (time / 65536 / 1000000000) (time / 65536 % 1000000000)

-- the fraction of a nanosecond of a moment
abbrev pub fraction_of : ℕ → ℕ
fraction_of time = time % 65536
