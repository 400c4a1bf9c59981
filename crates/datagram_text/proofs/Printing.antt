-- What the formats of numbers and octets write.
use Rattle.std.proofs.Common.{◌≡◌, ℕ, ◌-◌, ◌^◌, Bool, true, List, [], ◌∷◌, ◌++◌, length, replicate, refl, ap, append-nil}
use native.Mathlib.Numerals.{unary_clauses}
use Rattle.std.specs.Fmt.{decimal, char_count, styled_decimal, padded_integral, format_spec}
use Rattle.std.specs.Prelude.{Result, Ok, Err, MatchResult, IsOk, OnOk, IsUtf8, IsAscii, nat_lt, ◌&&◌}
use Rattle.std.proofs.lemmas.Bool.{and_parts, ltb-true}
use Rattle.std.proofs.lemmas.Str.Ascii.{IsAscii-nil, IsAscii-cons}
use Rattle.std.proofs.lemmas.Str.{IsUtf8-from_ascii}
use Rattle.hex.proofs.HexLemmas.{IsAscii-encode_with}
use Rattle.hex.specs.Hex.{encode_lower, lower_digits}
use Rattle.datagram_text.specs.Shown.{nine_digits}

-- `{:09}`
pub styled_decimal-nine : (n : ℕ) → styled_decimal (format_spec 32 0 4 9 (2 ^ 64 - 1)) n ≡ nine_digits n
unfolding padded_integral char_count
styled_decimal-nine n = simp unary_clauses (ap (λ t. replicate (9 - length (decimal n)) 48 ++ t) (append-nil (decimal n)))

-- a test that computes
abbrev all_ascii : List ℕ → Bool
all_ascii [] = true
all_ascii (x ∷ xs) = nat_lt x 128 && all_ascii xs

IsAscii-from_test : (xs : List ℕ) → all_ascii xs ≡ true → IsAscii xs
IsAscii-from_test [] h = IsAscii-nil
IsAscii-from_test (x ∷ xs) h =
    let parts = and_parts (nat_lt x 128) (all_ascii xs) h in
    IsAscii-cons x xs (ltb-true x 128 parts.0) (IsAscii-from_test xs parts.1)

-- what was encoded is text
pub IsUtf8-encoded : {T E : Type 0} (r : Result T E) (x : T) (out octets : List ℕ) → r ≡ Ok x → OnOk r (out ≡ encode_lower octets) → IsUtf8 out
IsUtf8-encoded (Ok y) x out octets e h =
    rw h (IsUtf8-from_ascii _ (IsAscii-encode_with lower_digits octets (IsAscii-from_test lower_digits refl)))
IsUtf8-encoded (Err d) x out octets e h = absurd cc

-- text is never refused as such
pub ok_text : {T E : Type 0} (r : Result T E) (octets : List ℕ) (P : T → Type 0) (Q : E → Type 0) → MatchResult r P (λ e. ¬ (IsUtf8 octets) × Q e) → IsUtf8 octets → IsOk r
ok_text (Ok x) octets P Q h text = refl
ok_text (Err e) octets P Q h text = absurd (h.0 text)
