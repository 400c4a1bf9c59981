use Rattle.std.proofs.Common.{◌≡◌, ◌+◌, ◌*◌, ◌/◌, ◌^◌, ap, ◌∙◌, arith}
use Rattle.statistics.specs.Wide.{wide}
use Rattle.statistics.proofs.Rounding.{divided}
use Rattle.statistics.proofs.rounded.divide.Goals as goal

-- src/rounded.rt:193:1
pub returns : goal.returns
returns c =
    let high = c.digits-first.result in
    let low = c.digits-third.result in
    let dividend : (low.0 * 2 ^ 64 + low.1 + (high.0 * 2 ^ 64 + high.1) * 2 ^ 128 ≡ wide c.args.dividend) =
    omega (arith, c.digits-first.ensures, c.digits-third.ensures) in
    let quotient = divided high.0 high.1 low.0 low.1 c.divide_digit-one.result.0 c.divide_digit-two.result.0
    c.divide_digit-three.result.0 c.divide_digit-four.result.0 c.divide_digit-one.result.1 c.divide_digit-two.result.1
    c.divide_digit-three.result.1 c.divide_digit-four.result.1 c.args.divisor c.divide_digit-one.ensures.quotient
    c.divide_digit-two.ensures.quotient c.divide_digit-three.ensures.quotient c.divide_digit-four.ensures.quotient
    c.divide_digit-four.ensures.left in
    omega (arith, quotient ∙ ap (λ n. n / c.args.divisor) dividend, c.from.ensures, c.from-2.ensures, c.from-3.ensures, c.from-4.ensures)
