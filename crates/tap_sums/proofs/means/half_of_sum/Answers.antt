use mir.Val.{to_z, of_z}
use Rattle.std.proofs.Common.{◌∙◌, sym, arith, rules, FitsSigned}
use Rattle.std.specs.Prelude.{◌+◌, ◌-◌, ◌*◌, pos, ◌-ℤ◌, ◌+ℤ◌}
use Rattle.std.specs.Int.{w128}
use Rattle.std.proofs.lemmas.Int.{to_z-of_z, ints}
use Rattle.std.specs.Prelude.{◌/◌, ◌%◌}
use Rattle.tap_sums.proofs.Divisions.{half_up, half_down, next_is}
use Rattle.tap_sums.proofs.means.half_of_sum.Goals as goal

pub returns-then-rest-divisor-clause-value : goal.returns-then-rest-divisor-clause-value
returns-then-rest-divisor-clause-value c = λ n m one other.
    let fits : FitsSigned w128 c.next_to.result = search rules in
    let a = c.args.one in
    let b = c.args.other in
    to_z-of_z w128 c.next_to.result fits
    ∙ next_is c.next_to.result (to_z w128 (of_z w128 (to_z w128 ((a.whole + b.whole) / 2) -ℤ pos 158456325028528675187087900672))) (pos ((a.whole + b.whole) / 2) -ℤ pos 158456325028528675187087900672) ((a.whole + b.whole) % 2 * (c.args.count * c.args.others) + (a.rest * c.args.others + b.rest * c.args.count)) (2 * (c.args.count * c.args.others)) c.next_to.ensures.value
    (omega (arith, ints, c.requires.one.whole, c.requires.other.whole))
    ∙ sym (half_down n m 158456325028528675187087900672 a.whole b.whole c.args.count c.args.others a.rest b.rest ((a.whole + b.whole) / 2)
    ((a.whole + b.whole) % 2) one other (omega arith) c.if-rest-divisor.true)

pub returns-else-rest-divisor-clause-value : goal.returns-else-rest-divisor-clause-value
returns-else-rest-divisor-clause-value c = λ n m one other.
    let fits : FitsSigned w128 c.next_to-else-rest-divisor.result = search rules in
    let a = c.args.one in
    let b = c.args.other in
    to_z-of_z w128 c.next_to-else-rest-divisor.result fits
    ∙ next_is c.next_to-else-rest-divisor.result (to_z w128 (of_z w128 (to_z w128 (of_z w128 (to_z w128 ((a.whole + b.whole) / 2) -ℤ pos 158456325028528675187087900672)) +ℤ pos 1))) ((pos ((a.whole + b.whole) / 2) -ℤ pos 158456325028528675187087900672) +ℤ pos 1) (((a.whole + b.whole) % 2 * (c.args.count * c.args.others) + (a.rest * c.args.others + b.rest * c.args.count)) - 2 * (c.args.count * c.args.others)) (2 * (c.args.count * c.args.others))
    c.next_to-else-rest-divisor.ensures.value (omega (arith, ints, c.requires.one.whole, c.requires.other.whole))
    ∙ sym (half_up n m 158456325028528675187087900672 a.whole b.whole c.args.count c.args.others a.rest b.rest ((a.whole + b.whole) / 2)
    ((a.whole + b.whole) % 2) one other (omega arith) (omega arith) c.requires.one.rest c.requires.other.rest
    c.if-rest-divisor.false)
