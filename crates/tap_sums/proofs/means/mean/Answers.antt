use mir.Val.{to_z, of_z}
use Rattle.std.proofs.Common.{◌∙◌, sym, ap, arith, rules, FitsSigned, ℕ}
use Rattle.std.specs.Prelude.{◌*◌, pos, ◌-ℤ◌, ◌+ℤ◌}
use Rattle.std.specs.Int.{w128}
use Rattle.std.proofs.lemmas.Int.{to_z-of_z, ints}
use Rattle.tap_sums.specs.Sums.{total}
use Rattle.tap_sums.proofs.Divisions.{rounds_by}
use Rattle.tap_sums.proofs.means.mean.Goals as goal

pub returns-clause-value : goal.returns-clause-value
returns-clause-value c = λ of all is count.
    let fits : FitsSigned w128 c.next_to.result = search rules in
    let q = c.divided-whole.result in
    let within = c.divided-whole.ensures.within in
    to_z-of_z w128 c.next_to.result fits
    ∙ rounds_by (total of all) c.next_to.result (to_z w128 (of_z w128 (to_z w128 q.whole -ℤ pos 158456325028528675187087900672))) 158456325028528675187087900672 q.whole q.rest c.args.count c.next_to.ensures.value
    (omega (arith, ints, within.whole)) within.rest
    (ap pos (sym c.divided-whole.ensures.exact) ∙ is.sum ∙ ap (λ (k : ℕ). total of all +ℤ pos (158456325028528675187087900672 * k)) (sym count))
    ∙ ap (λ (k : ℕ). Rattle.tap_sums.specs.Rounded.rounded (total of all) k) count
