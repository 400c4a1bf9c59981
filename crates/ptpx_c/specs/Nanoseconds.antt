-- Times and results as C keeps them elsewhere: in whole nanoseconds, or in seconds and nanoseconds (struct timespec).
use Rattle.std.specs.Prelude.{◌≡◌, ℕ, ◌+◌, ◌/◌, ℤ, pos, ◌+ℤ◌, ◌*ℤ◌, int_lt, not, ◌&&◌, Option, Some, None, MatchOption, option_map}
use Rattle.std.specs.Prelude.{if◌then◌else◌}
use Rattle.std.specs.Int.{int_div_euclid, int_rem_euclid}
use Rattle.ptp_units.specs.Moment.{moment_of}
use Rattle.ptpx_c.specs.declared.words.RawTime.{RawTime}
use Rattle.ptpx_c.specs.declared.words.RawSigned.{RawSigned}
use Rattle.ptpx_c.specs.Words.{units_of, signed_of, narrow_of}

-- the whole nanosecond next to a moment, of two that are as near the later one
abbrev pub nanoseconds_of_moment : ℕ → ℕ
nanoseconds_of_moment units = (units + 32768) / 65536

-- the whole nanosecond next to half of a number of 2^-16 ns, of two that are as near the greater one
abbrev pub nanoseconds_of_result : ℤ → ℤ
nanoseconds_of_result twice =
    if int_lt (int_rem_euclid twice (pos 131072)) (pos 65536) then int_div_euclid twice (pos 131072)
    else int_div_euclid twice (pos 131072) +ℤ pos 1

-- the nanoseconds that seconds and nanoseconds past the second are, where the latter are 0 to 999,999,999
abbrev pub nanoseconds_said : (seconds nanoseconds : ℤ) → Option ℤ
nanoseconds_said seconds nanoseconds =
    if not (int_lt nanoseconds (pos 0)) && int_lt nanoseconds (pos 1000000000)
    then Some (seconds *ℤ pos 1000000000 +ℤ nanoseconds) else None

-- the moment of these nanoseconds is put there, or there is none and what was there stays
abbrev pub IsMoment : (nanoseconds : ℤ) → (code : ℕ) → (old new : RawTime) → Type 0
IsMoment nanoseconds code old new = MatchOption (moment_of (nanoseconds *ℤ pos 65536))
    ((code ≡ 101) × (new ≡ old)) (λ moment. (code ≡ 0) × (units_of new ≡ moment))

-- the moment that seconds and nanoseconds say is put there, or they say none and what was there stays
abbrev pub IsMomentSaid : Option ℤ → (code : ℕ) → (old new : RawTime) → Type 0
IsMomentSaid said code old new =
    MatchOption said ((code ≡ 911) × (new ≡ old)) (λ nanoseconds. IsMoment nanoseconds code old new)

-- twice what seconds and nanoseconds say is put there, or they say nothing and what was there stays
abbrev pub IsResultSaid : Option ℤ → (code : ℕ) → (old new : RawSigned) → Type 0
IsResultSaid said code old new = MatchOption said
    ((code ≡ 911) × (new ≡ old)) (λ nanoseconds. (code ≡ 0) × (signed_of new ≡ nanoseconds *ℤ pos 131072))

-- whole seconds, rounded down, and nanoseconds past the second, where the seconds fit a signed number of 64 bits
abbrev pub parted : ℤ → Option (ℤ × ℤ)
parted nanoseconds = option_map (λ seconds. (seconds, int_rem_euclid nanoseconds (pos 1000000000)))
    (narrow_of (int_div_euclid nanoseconds (pos 1000000000)))

-- seconds, and nanoseconds past the second, are put there, or the seconds don't fit and what was there stays
abbrev pub IsParted : Option (ℤ × ℤ) → (code : ℕ) → (old_seconds new_seconds old_rest new_rest : ℤ) → Type 0
IsParted parts code old_seconds new_seconds old_rest new_rest = MatchOption parts
    ((code ≡ 909) × (new_seconds ≡ old_seconds) × (new_rest ≡ old_rest))
    (λ part. (code ≡ 0) × (new_seconds ≡ part.0) × (new_rest ≡ part.1))
