-- Numbers of more than 64 bits as C passes them, in two words.
use Rattle.std.specs.Prelude.{◌≡◌, ℕ, ◌+◌, ◌-◌, ◌*◌, ◌^◌, ℤ, pos, negsuc, ◌+ℤ◌, ◌*ℤ◌, int_lt, ◌&&◌, not, Option, Some}
use Rattle.std.specs.Prelude.{None, MatchOption, if◌then◌else◌}
use Rattle.ptpx_c.specs.declared.words.RawTime.{RawTime}
use Rattle.ptpx_c.specs.declared.words.RawSigned.{RawSigned}

-- the number of 2^-16 ns that two words are
abbrev pub units_of : RawTime → ℕ
units_of time = time.high * 18446744073709551616 + time.low

-- the signed number that two words are
abbrev pub signed_of : RawSigned → ℤ
signed_of value = (value.high *ℤ pos 18446744073709551616) +ℤ pos value.low

-- the number, where it fits a signed number of 64 bits
abbrev pub narrow_of : ℤ → Option ℤ
narrow_of value = if not (int_lt value (negsuc (2 ^ 63 - 1))) && int_lt value (pos (2 ^ 63)) then Some value else None

-- the number is put there, or it doesn't fit and what was there stays
abbrev pub IsNarrowed : ℤ → (code : ℕ) → (old new : ℤ) → Type 0
IsNarrowed value code old new =
    MatchOption (narrow_of value) ((code ≡ 909) × (new ≡ old)) (λ narrow. (code ≡ 0) × (new ≡ narrow))
