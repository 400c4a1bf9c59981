-- Timestamps and brackets as C passes them (IEEE 1588-2019, 5.3.3, 11.2 and 11.3).
use Rattle.std.specs.Prelude.{◌≡◌, ℕ, ◌-◌, ◌^◌, ℤ, pos, negsuc, int_lt, Bool, ◌&&◌, if◌then◌else◌, Some, None}
use Rattle.std.specs.Prelude.{MatchOption}
use Rattle.ptp_units.specs.Moment.{Stamp, stamp}
use Rattle.ptpx_c.specs.declared.time.RawTimestamp.{RawTimestamp}
use Rattle.ptpx_c.specs.declared.words.RawSigned.{RawSigned}
use Rattle.ptpx_c.specs.Words.{signed_of}

-- the timestamp that the fields say
abbrev pub stamp_said : RawTimestamp → Stamp
stamp_said timestamp = stamp timestamp.seconds timestamp.nanos

-- strictly between -2^96 and 2^96
abbrev pub is_bracket : ℤ → Bool
is_bracket value = int_lt (negsuc (2 ^ 96 - 1)) value && int_lt value (pos (2 ^ 96))

-- the result is put there, or one of the two isn't a bracket and what was there stays
abbrev pub IsTwice : ℤ → (a b : RawSigned) → (code : ℕ) → (old new : RawSigned) → Type 0
IsTwice twice a b code old new =
    MatchOption (if is_bracket (signed_of a) && is_bracket (signed_of b) then Some twice else None)
    ((code ≡ 908) × (new ≡ old)) (λ value. (code ≡ 0) × (signed_of new ≡ value))
