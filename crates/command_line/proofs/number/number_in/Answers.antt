use Rattle.std.proofs.Common.{◌≡◌, ◌∙◌, ◌≤◌, ◌<◌, ◌+◌, ◌*◌, ◌^◌, ◌&&◌, ℕ, true, List, arith, ap, ap₂, sym, subst}
use Rattle.std.proofs.Common.{length, get_or, take, nat_lt, lt-ltb, suc, add-one}
use Rattle.std.specs.Char.{digit_value}
use Rattle.std.specs.Str.Parse.{digits_value}
use Rattle.std.proofs.Math.Nat.{pow-le-pow_right}
use Rattle.std.proofs.lemmas.Int.Digits.{digits_value_more}
use Rattle.std.proofs.lemmas.List.Folds.{list_all_more}
use Rattle.command_line.specs.Number.{are_digits}
use Rattle.command_line.proofs.number.number_in.Goals as goal

-- a number of fewer than nine digits
below_nine : (number i : ℕ) → number < 10 ^ i → i < 9 → number < 100000000
below_nine number i below few =
    let at_most_eight : i ≤ 8 = omega arith in
    let most : 10 ^ i ≤ 10 ^ 8 = pow-le-pow_right {n = 10} (omega arith) at_most_eight in
    omega (arith, most, below)

-- the number, with one more digit
one_more : (digits : List ℕ) (i number digit : ℕ) → number ≡ digits_value 10 (take i digits)
    → are_digits (take i digits) ≡ true → number < 10 ^ i
    → i < length digits → digit_value (get_or digits i 0) < 10 → digit ≡ digit_value (get_or digits i 0)
    → (10 * number + digit ≡ digits_value 10 (take (i + 1) digits)) × (are_digits (take (i + 1) digits) ≡ true)
    × (10 * number + digit < 10 ^ (i + 1))
one_more digits i number digit is all below within small digit_is =
    let value = digits_value_more 10 digits i within in
    let bound : 10 * number + digit < 10 ^ suc i = omega (arith, below, small, digit_is) in
    let more = list_all_more (λ d. nat_lt (digit_value d) 10) digits i 0 within in (
      omega (arith, value, is, digit_is),
      more ∙ ap₂ (λ a b. a && b) all (lt-ltb _ _ small),
      subst (λ k. 10 * number + digit < 10 ^ k) (sym (add-one i)) bound,
    )

pub overflow_mul-number : goal.overflow_mul-number
overflow_mul-number c =
    omega (
      arith,
      below_nine c.loop-digit.number c.loop-digit.digit-index c.loop-digit.invariant.2
          (omega (arith, c.requires.few)),
    )

pub overflow_add-number : goal.overflow_add-number
overflow_add-number c =
    omega (
      arith,
      below_nine c.loop-digit.number c.loop-digit.digit-index c.loop-digit.invariant.2
          (omega (arith, c.requires.few)),
      c.in_ok-number.ensures.value.0,
      c.in_ok-number.ensures.value.1,
    )

pub loop-digit-preserved : goal.loop-digit-preserved
loop-digit-preserved c =
    let i = c.loop-digit.digit-index in
    let char_is : c.from.result ≡ get_or c.args.digits.now i 0 = c.from.ensures in
    let value = c.in_ok-number.ensures.value in
    one_more c.args.digits.now i c.loop-digit.number c.in_ok-number.field-0
    c.loop-digit.invariant.0 c.loop-digit.invariant.1 c.loop-digit.invariant.2 c.loop-digit-test.true
    (subst (λ char. digit_value char < 10) char_is value.0) (value.1 ∙ ap digit_value char_is)
