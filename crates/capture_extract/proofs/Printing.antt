-- What the format of hexadecimals writes.
use Rattle.std.proofs.Common.{◌≡◌, ℕ, ◌-◌, ◌^◌, ◌++◌, List, [], false, length, replicate, ap, append-nil}
use native.Mathlib.Numerals.{unary_clauses}
use Rattle.std.specs.Fmt.{digits, char_count, padded_integral, format_spec}

-- `{:03x}`
pub three_digits : (n : ℕ) → padded_integral (format_spec 32 0 4 3 (2 ^ 64 - 1)) false [] (digits 16 false n)
    ≡ replicate (3 - length (digits 16 false n)) 48 ++ digits 16 false n
unfolding padded_integral char_count
three_digits n =
    simp unary_clauses (ap (λ (t : List ℕ). replicate (3 - length (digits 16 false n)) 48 ++ t) (append-nil (digits 16 false n)))
