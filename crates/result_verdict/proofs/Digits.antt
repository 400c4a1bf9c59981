-- What the digits of a number are.
use Rattle.std.proofs.Common.{◌≡◌, ℕ, ◌+◌, ◌-◌, ◌*◌, ◌^◌, ◌<◌, ◌≤◌, nat_le, true, false, ◌&&◌}
use Rattle.std.proofs.Common.{◌==◌, ◌≢◌, List, [], ◌∷◌, length, pos, option_map, Result, Option, Some, None, IfSome, Bool, refl, ap}
use Rattle.std.proofs.Common.{if◌then◌else◌, sym, arith}
use Rattle.std.proofs.Common.{rules, ◌∙◌}
use Rattle.std.specs.Result.{result_ok}
use Rattle.std.specs.List.{list_all}
use Rattle.std.specs.Char.{is_ascii_digit}
use Rattle.std.specs.Str.Parse.{digits_value, ParsesUnsigned}
use Rattle.std.proofs.lemmas.Str.Parse.{IsNumeralModel, numerals_by_value, digits_value_short, parse_gives}
use Rattle.std.proofs.lemmas.Bool.{and_parts}
use Rattle.std.proofs.lemmas.Bool.Decides.{nat_tests}
use Rattle.std.proofs.lemmas.Nat.{pow-add}
use Rattle.std.proofs.Math.Nat.{mul-lt-mul_of_pos_right, one-le-pow, pow-le-pow_right}
use Rattle.result_verdict.specs.Exact.{are_digits, number_in, size_in, exact_in}

pub own : IsNumeralModel (λ ds. list_all is_ascii_digit ds ≡ true) (digits_value 10)
own = numerals_by_value _ (search rules)

-- at least one digit, at most so many, and nothing else
pub record AreDigits (most : ℕ) (text : List ℕ) : Type 0 where
  pub some : 0 < length text
  pub fit : length text ≤ most
  pub digits : list_all is_ascii_digit text ≡ true

AreDigits-from_test : (most : ℕ) (text : List ℕ) → are_digits most text ≡ true → AreDigits most text
AreDigits-from_test most text h =
    let first = and_parts (nat_le 1 (length text) && nat_le (length text) most) (list_all is_ascii_digit text) h in
    let lengths = and_parts (nat_le 1 (length text)) (nat_le (length text) most) first.0 in
    record { some = grind (arith, nat_tests, lengths.0); fit = grind (arith, nat_tests, lengths.1); digits = first.1 }

-- what `parse` gives of digits
pub parsed : {E : Type 0} (most : ℕ) (text : List ℕ) (r : Result ℕ E) → ParsesUnsigned 128 10 text r
    → are_digits most text ≡ true → most ≤ 24
    → (result_ok r ≡ number_in most text) × IfSome (result_ok r) (λ n. n < 10 ^ length text)
parsed most text r given digits short =
    let are = AreDigits-from_test most text digits in
    let below = digits_value_short own text (length text) are.digits (omega arith) in
    let wide = digits_value_short own text 24 are.digits (omega (arith, are.fit)) in
    let is = parse_gives own 128 text r given are.digits are.some (omega arith) in
    (rw (digits, is), rw is below)

-- at most sixteen digits after a point are less than a nanosecond
scaled : (n k : ℕ) → k ≤ 16 → n < 10 ^ k → n * 10 ^ (17 - k) < 10 ^ 17
scaled n k short below =
    let all : k + (17 - k) ≡ 17 = omega arith in
    let power : 10 ^ k * 10 ^ (17 - k) ≡ 10 ^ 17 = sym (pow-add 10 k (17 - k)) ∙ ap (λ e. 10 ^ e) all in
    rw power at (mul-lt-mul_of_pos_right {k = 10 ^ (17 - k)} below (one-le-pow (17 - k) 10 (omega arith)))

-- the digits that a number is of
some_if : {X : Type 0} (test : Bool) (x y : X) → (if test then Some x else None) ≡ Some y → test ≡ true
some_if true x y h = refl
some_if false x y h = absurd cc

pub digits_of : (most : ℕ) (text : List ℕ) (n : ℕ) → number_in most text ≡ Some n → AreDigits most text
digits_of most text n h = AreDigits-from_test most text (some_if (are_digits most text) (digits_value 10 text) n h)

pub below_nanosecond : (text : List ℕ) (n : ℕ) → Some n ≡ number_in 16 text → n < 10 ^ length text
    → n * 10 ^ (17 - length text) < 10 ^ 17
below_nanosecond text n is below = scaled n (length text) (digits_of 16 text n (sym is)).fit below

-- at most 24 digits are less than 10^24
pub below_whole : (text : List ℕ) (r : Option ℕ) → r ≡ number_in 24 text → IfSome r (λ n. n < 10 ^ length text)
    → IfSome r (λ n. n < 10 ^ 24)
below_whole text None is below = below
below_whole text (Some n) is below =
    let fit = (digits_of 24 text n (sym is)).fit in
    let power : 10 ^ length text ≤ 10 ^ 24 = pow-le-pow_right (omega arith) fit in
    omega arith

differs : (x : ℕ) → x ≢ 45 → (x == 45) ≡ false
differs x other = grind (arith, nat_tests)

-- no minus stands in front
pub no_minus : (text : List ℕ) → ((rest : List ℕ) → text ≢ 45 ∷ rest) → exact_in text ≡ option_map pos (size_in text)
no_minus [] none = refl
no_minus (x ∷ rest) none =
    let other : (x == 45) ≡ false = differs x (λ same. none rest (ap (λ it. it ∷ rest) same)) in
    rw other
