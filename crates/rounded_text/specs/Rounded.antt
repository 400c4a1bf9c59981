-- Rounded numbers as text.
use Rattle.std.specs.Prelude.{ℕ, ◌-◌, ◌/◌, ◌%◌, ◌==◌, ℤ, pos, int_lt, unsigned_abs, replicate, List, [], ◌++◌, length, codes}
use Rattle.std.specs.Prelude.{if◌then◌else◌}
use Rattle.std.specs.Fmt.{decimal}
use Rattle.statistics.specs.declared.rounded.Signed.{Signed}

-- a number below 1,000 in three digits
abbrev pub three_digits : ℕ → List ℕ
three_digits n = replicate (3 - length (decimal n)) 48 ++ decimal n

-- whole ones, a point, and three decimals
abbrev pub size_text : ℕ → List ℕ
size_text thousandths = decimal (thousandths / 1000) ++ codes "." ++ three_digits (thousandths % 1000)

-- a sign where it is below 0, and not rounded to 0
abbrev pub sign_text : Signed → List ℕ
sign_text value = if value.is_negative then (if value.size == 0 then [] else codes "-") else []

abbrev pub thousandths_text : Signed → List ℕ
thousandths_text value = sign_text value ++ size_text value.size

-- units of 2^-17 ns in microseconds, rounded towards 0
abbrev pub milliseconds_of : ℤ → Signed
milliseconds_of units = record { is_negative = int_lt units (pos 0); size = unsigned_abs units / 131072000 }

-- thousandths of a nanosecond in microseconds, rounded towards 0
abbrev pub milliseconds_of_thousandths : Signed → Signed
milliseconds_of_thousandths value = record { is_negative = value.is_negative; size = value.size / 1000000 }

-- a number of microseconds in milliseconds
abbrev pub milliseconds_text : (microseconds : Signed) → List ℕ
milliseconds_text microseconds = thousandths_text microseconds ++ codes " ms"
