-- What the format of decimals writes.
use Rattle.std.proofs.Common.{◌≡◌, ℕ, ◌-◌, ◌^◌, ◌++◌, length, replicate, ap, append-nil}
use native.Mathlib.Numerals.{unary_clauses}
use Rattle.std.specs.Fmt.{decimal, char_count, styled_decimal, padded_integral, format_spec}
use Rattle.rounded_text.specs.Rounded.{three_digits}

-- `{:03}`
pub styled_decimal-three : (n : ℕ) → styled_decimal (format_spec 32 0 4 3 (2 ^ 64 - 1)) n ≡ three_digits n
unfolding padded_integral char_count
styled_decimal-three n = simp unary_clauses (ap (λ t. replicate (3 - length (decimal n)) 48 ++ t) (append-nil (decimal n)))
