use Rattle.std.proofs.Common.{◌≡◌, ◌∙◌, ℕ, ◌+◌, ◌*◌, length, Some, sym, ap, arith, rules, FitsSigned}
use Rattle.std.specs.Int.{w128}
use Rattle.std.proofs.lemmas.Int.{to_z-of_z}
use Rattle.tap_crossing.specs.declared.sighting.Kind.TheVariants as kinds
use Rattle.tap_sums.specs.declared.spread.Quantity.TheVariants as quantities
use Rattle.tap_sums.specs.Sums.{counted_of, value_of, total}
use Rattle.tap_sums.proofs.Pairs.{sum_of, asymmetric}
use Rattle.tap_sums.proofs.sums.Sums.asymmetry.Goals as goal

pub returns-clause-value : goal.returns-clause-value
returns-clause-value c = λ all are.
    let fits : FitsSigned w128 c.difference.result = search rules in
    let syncs = counted_of kinds.Sync all in
    let requests = counted_of kinds.DelayReq all in
    let n = c.from-syncs.result in
    let m = c.from-requests.result in
    let count : n ≡ length syncs = c.from-syncs.ensures ∙ c.count.ensures.value ∙ are.syncs.count in
    let others : m ≡ length requests = c.from-requests.ensures ∙ c.count-2.ensures.value ∙ are.requests.count in
    let one = c.rests-one.result in
    let other = c.rests-other.result in
    let self = c.args.self.now in
    let v = c.difference.ensures.value (total (value_of quantities.Rest) syncs) (total (value_of quantities.Rest) requests)
    (sum_of (value_of quantities.Rest) syncs self.syncs.rest one.whole one.rest n are.syncs.rest (c.rests-one.ensures.exact ∙ ap (λ (k : ℕ). one.whole * k + one.rest) (sym (c.from-syncs.ensures ∙ c.count.ensures.value))) count)
    (sum_of (value_of quantities.Rest) requests self.requests.rest other.whole other.rest m are.requests.rest
    (c.rests-other.ensures.exact ∙ ap (λ (k : ℕ). other.whole * k + other.rest) (sym (c.from-requests.ensures ∙ c.count-2.ensures.value)))
    others) in
    ap Some (to_z-of_z w128 c.difference.result fits)
    ∙ asymmetric syncs requests c.difference.result n m count others (omega arith) (omega arith) v
