-- What digits are read as.
use Rattle.std.proofs.Common.{◌≡◌, ◌≢◌, ◌<◌, ◌^◌, ◌==◌, ℕ, List, [], length, drop, get_or, cond, false, Some, Result, IfSome, refl, sym, ap, ◌∙◌, subst, arith, append-nil, ne_eqb, lt-ltb}
use Rattle.std.specs.Result.{result_ok}
use Rattle.std.specs.declared.result.Result.TheVariants.{Ok, Err}
use Rattle.std.specs.Str.Parse.{AllDigits, IsNumeral, ParsesUnsigned, digits_value, without_leading_plus}
use Rattle.std.proofs.lemmas.Str.Parse.{digit_at}
use Rattle.fast_float.specs.Text.{Parts, scan}
use Rattle.fast_float.proofs.Writing.{scan-text_of}
use Rattle.serde_json.specs.Data.{unsigned}
use Rattle.serde_json.specs.Read.{number_of}

-- digits alone, in their parts
abbrev plain : List ℕ → Parts
plain ds = record { whole = ds; point = false; fraction = []; exponent_negative = false; exponent = []; len = length ds }

scanned : (ds : List ℕ) → AllDigits 10 ds → scan ds ≡ plain ds
scanned ds digits =
    ap scan (sym (append-nil ds))
    ∙ scan-text_of (plain ds) (record { whole_digits = digits; fraction_digits = tt; exponent_digits = tt; no_point = λ e. refl; no_exponent = λ e. refl; len_is = ap length (sym (append-nil ds)) })

digits_read : (ds : List ℕ) → IsNumeral 10 ds → digits_value 10 ds < 2 ^ 64 → number_of ds ≡ Some (unsigned (digits_value 10 ds))
unfolding number_of
digits_read ds digits fits =
    let first = digit_at ds 0 digits.1 digits.0 in
    let plus : (get_or ds 0 0 == 45) ≡ false = ne_eqb (get_or ds 0 0) 45 (λ e. omega (arith, first, e)) in
    rw (plus, scanned ds digits.1, append-nil ds, lt-ltb 0 (length ds) digits.0, lt-ltb (digits_value 10 ds) (2 ^ 64) fits)

unsigned_is : (ds : List ℕ) → get_or ds 0 0 ≢ 43 → without_leading_plus ds ≡ ds
unsigned_is ds first = ap (λ b. drop (cond b 1 0) ds) (ne_eqb (get_or ds 0 0) 43 first)

-- what is parsed as a whole number is read as that
pub parsed : {E : Type 0} (ds : List ℕ) (r : Result ℕ E) → get_or ds 0 0 ≢ 43 → ParsesUnsigned 64 10 ds r → IfSome (result_ok r) (λ n. number_of ds ≡ Some (unsigned n))
parsed ds (Ok n) first parses =
    let same = unsigned_is ds first in
    digits_read ds (subst (IsNumeral 10) same parses.0.0) (subst (λ t. digits_value 10 t < 2 ^ 64) same parses.0.1)
    ∙ ap (λ m. Some (unsigned m)) (ap (digits_value 10) (sym same) ∙ sym parses.1)
parsed ds (Err e) first parses = tt
