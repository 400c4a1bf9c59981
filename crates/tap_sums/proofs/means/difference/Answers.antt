use mir.Val.{to_z, of_z}
use Rattle.std.proofs.Common.{◌∙◌, sym, arith, rules, FitsSigned}
use Rattle.std.specs.Prelude.{◌-◌, ◌*◌, pos, ◌-ℤ◌}
use Rattle.std.specs.Int.{w128}
use Rattle.std.proofs.lemmas.Int.{to_z-of_z, ints}
use Rattle.tap_sums.proofs.Divisions.{difference_up, difference_down, next_is}
use Rattle.tap_sums.proofs.means.difference.Goals as goal

pub returns-then-more-less-clause-value : goal.returns-then-more-less-clause-value
returns-then-more-less-clause-value c = λ n m one other.
    let fits : FitsSigned w128 c.next_to.result = search rules in
    let a = c.args.one in
    let b = c.args.other in
    to_z-of_z w128 c.next_to.result fits
    ∙ next_is c.next_to.result (to_z w128 (of_z w128 (to_z w128 (of_z w128 (to_z w128 a.whole -ℤ to_z w128 b.whole)) -ℤ pos 1))) ((pos a.whole -ℤ pos b.whole) -ℤ pos 1) (c.args.count * c.args.others - (b.rest * c.args.count - a.rest * c.args.others)) (c.args.count * c.args.others) c.next_to.ensures.value
    (omega (arith, ints, c.requires.one.whole, c.requires.other.whole))
    ∙ sym (difference_down n m 158456325028528675187087900672 a.whole b.whole c.args.count c.args.others a.rest b.rest one other
    c.requires.one.rest c.requires.other.rest c.if-more-less.true)

pub returns-else-more-less-clause-value : goal.returns-else-more-less-clause-value
returns-else-more-less-clause-value c = λ n m one other.
    let fits : FitsSigned w128 c.next_to-else-more-less.result = search rules in
    let a = c.args.one in
    let b = c.args.other in
    to_z-of_z w128 c.next_to-else-more-less.result fits
    ∙ next_is c.next_to-else-more-less.result (to_z w128 (of_z w128 (to_z w128 a.whole -ℤ to_z w128 b.whole))) (pos a.whole -ℤ pos b.whole) (a.rest * c.args.others - b.rest * c.args.count) (c.args.count * c.args.others) c.next_to-else-more-less.ensures.value
    (omega (arith, ints, c.requires.one.whole, c.requires.other.whole))
    ∙ sym (difference_up n m 158456325028528675187087900672 a.whole b.whole c.args.count c.args.others a.rest b.rest one other
    c.requires.one.rest c.requires.other.rest c.if-more-less.false)
