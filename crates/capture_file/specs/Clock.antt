-- Times of packets in pcapng: in parts of a second since an offset, cut down to whole nanoseconds.
use Rattle.std.specs.Prelude.{ℕ, ◌-◌, ◌*◌, ◌/◌, ◌%◌, ◌^◌, nat_lt, ℤ, pos, negsuc, ◌+ℤ◌, if◌then◌else◌, Option, Some, None}
use Rattle.ptp_units.specs.Moment.{Stamp, stamp}

-- a second is divided into base ^ exponent parts
pub record ResolutionOf : Type 0 where
  pub base : ℕ
  pub exponent : ℕ

-- what the octet of if_tsresol says: a power of ten, or with the high bit a power of two
abbrev pub resolution_of : (octet : ℕ) → ResolutionOf
resolution_of octet =
    if nat_lt octet 128 then record { base = 10; exponent = octet } else record { base = 2; exponent = octet - 128 }

-- microseconds, where nothing is said
abbrev pub microseconds : ResolutionOf
microseconds = record { base = 10; exponent = 6 }

-- so many parts of a second, in whole nanoseconds
abbrev pub whole_nanoseconds : ResolutionOf → (ticks : ℕ) → ℕ
whole_nanoseconds resolution ticks = ticks * 10 ^ 9 / resolution.base ^ resolution.exponent

-- whole seconds, which may be no time, and nanoseconds
abbrev pub seconds_at : (seconds : ℤ) → (nanoseconds : ℕ) → Option Stamp
seconds_at (pos seconds) nanoseconds = if nat_lt seconds (2 ^ 48) then Some (stamp seconds nanoseconds) else None
seconds_at (negsuc n) nanoseconds = None

-- the time of so many parts of a second, behind an offset of whole seconds
abbrev pub time_at : ResolutionOf → (offset : ℤ) → (ticks : ℕ) → Option Stamp
time_at resolution offset ticks =
    seconds_at (offset +ℤ pos (whole_nanoseconds resolution ticks / 10 ^ 9)) (whole_nanoseconds resolution ticks % 10 ^ 9)
