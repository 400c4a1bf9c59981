-- What `parse` gives of digits.
use Rattle.std.proofs.Common.{◌≡◌, ◌≤◌, ◌<◌, ◌^◌, ℕ, ℤ, pos, neg_ℤ, nat_lt, true, false, Bool, ◌&&◌, List, [], ◌∷◌, length, drop, get_or, slice_index, Some, None, option_map, Result, Ok, Err, if◌then◌else◌, refl, ap, arith}
use Rattle.std.specs.Result.{OkIff, result_ok}
use Rattle.std.specs.Str.{all_ascii_digits}
use Rattle.std.specs.Str.Parse.{digits_value, ParsesSigned}
use Rattle.std.proofs.lemmas.Str.Parse.{IsNumeralModel, numerals_by_value, tells_all_ascii_digits, digits_value_short, parse_signed_minus, parse_signed_plain}
use Rattle.std.proofs.lemmas.List.{length-drop}
use Rattle.std.proofs.lemmas.Bool.Decides.{nat_tests}
use Rattle.schedule_lines.specs.Json.{positive_of}
use mir.Syntax.{w128}

pub own : IsNumeralModel (λ ds. all_ascii_digits ds ≡ true) (digits_value 10)
own = numerals_by_value _ tells_all_ascii_digits

decided : {E : Type 0} (some digits : Bool) (L U : Type 0) (f : ℕ → ℤ) (n : ℕ) (r : Result ℤ E) → some ≡ true
    → OkIff r ((digits ≡ true) × L × U) (f n) → L → (digits ≡ true → U)
    → result_ok r ≡ option_map f (if some && digits then Some n else None)
decided true true L U f n (Ok x) is given l u = ap Some given.1
decided true true L U f n (Err e) is given l u = absurd (given (refl, l, u refl))
decided true false L U f n (Ok x) is given l u = cc (given.0.0)
decided true false L U f n (Err e) is given l u = refl
decided false digits L U f n r is given l u = cc

within : (ds : List ℕ) → length ds ≤ 32 → all_ascii_digits ds ≡ true → digits_value 10 ds < 2 ^ 127
within ds short digits = omega (arith, digits_value_short own ds 32 digits short)

first_of_rest : (bs : List ℕ) → slice_index (drop 1 bs) 0 ≡ slice_index bs 1
first_of_rest [] = refl
first_of_rest (b ∷ bs) = refl

some_of : (bs : List ℕ) → nat_lt 48 (slice_index bs 0) ≡ true → 0 < length bs
some_of [] h = cc
some_of (b ∷ bs) h = omega arith

-- a text without a sign that begins above `0`
pub parsed_positive : {E : Type 0} (text : List ℕ) (r : Result ℤ E) → ParsesSigned w128 10 text r → length text ≤ 32
    → nat_lt 48 (slice_index text 0) ≡ true → result_ok r ≡ option_map pos (positive_of text)
parsed_positive text r parsed short above =
    let high : 48 < get_or text 0 0 = grind (arith, nat_tests, above) in
    decided (nat_lt 48 (slice_index text 0)) (all_ascii_digits text) _ _ pos (digits_value 10 text) r above
    (parse_signed_plain own w128 text r parsed (omega arith) (omega arith)) (some_of text above) (within text short)

-- a text with `-` in front, which begins above `0` behind it
pub parsed_negative : {E : Type 0} (text : List ℕ) (r : Result ℤ E) → ParsesSigned w128 10 text r → length text ≤ 32
    → slice_index text 0 ≡ 45 → nat_lt 48 (slice_index text 1) ≡ true
    → result_ok r ≡ option_map (λ n. neg_ℤ (pos n)) (positive_of (drop 1 text))
parsed_negative text r parsed short signed above =
    let above_rest : nat_lt 48 (slice_index (drop 1 text) 0) ≡ true = rw first_of_rest above in
    decided (nat_lt 48 (slice_index (drop 1 text) 0)) (all_ascii_digits (drop 1 text)) _ _ (λ n. neg_ℤ (pos n)) (digits_value 10 (drop 1 text)) r above_rest
    (parse_signed_minus own w128 text r parsed signed) (some_of (drop 1 text) above_rest)
    (λ digits. omega (arith, within (drop 1 text) (omega (arith, length-drop 1 text)) digits))
