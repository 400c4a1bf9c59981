use Rattle.std.proofs.Common.{◌≡◌, ℕ, ◌<◌, Bool, true, List, ◌∷◌, length, Some, sym, ap, subst, arith, rules, FitsSigned}
use Rattle.std.specs.Prelude.{nat_lt, if◌then◌else◌}
use Rattle.std.specs.Int.{w128}
use Rattle.std.proofs.lemmas.Bool.Decides.{nat_tests}
use Rattle.std.proofs.lemmas.Int.{to_z-of_z}
use Rattle.tap_crossing.specs.declared.crossing.Crossing.{Crossing}
use Rattle.tap_sums.specs.declared.spread.Quantity.TheVariants as quantities
use Rattle.tap_sums.specs.Inner.Bounded.{HeldSums}
use Rattle.tap_sums.specs.Sums.{most, value_of}
use Rattle.tap_sums.specs.KindHeld.{AreKindSums}
use Rattle.tap_sums.proofs.kind_sums.KindSums.take.Goals as goal

counts : (n m : ℕ) → n < m → nat_lt n m ≡ true
counts n m less = grind (arith, nat_tests)

with_one : (x : Crossing) (earlier : List Crossing) (s : HeldSums) → length earlier < most → AreKindSums (x ∷ earlier) s
    → AreKindSums (if nat_lt (length earlier) most then x ∷ earlier else earlier) s
with_one x earlier s few are =
    subst (λ (b : Bool). AreKindSums (if b then x ∷ earlier else earlier) s) (sym (counts (length earlier) most few)) are

pub invariant_of-self : goal.invariant_of-self
invariant_of-self c = let bounded = c.self.invariant in record {
  few = omega arith;
  taken = c.take.ensures.bounded c.self.inside.count bounded.taken;
  corrected = c.take-2.ensures.bounded c.self.inside.count bounded.corrected;
  rest = c.take-3.ensures.bounded c.self.inside.count bounded.rest;
  newest = search rules;
  step = c.longest-self-inside.ensures.within;
}

pub returns : goal.returns
returns c = λ earlier stands.
    let are = subst (λ (s : HeldSums). AreKindSums earlier s) (sym c.self.view_is) stands in
    let x = c.args.crossing.now in
    let taken : FitsSigned w128 x.taken = search rules in
    let corrected : FitsSigned w128 x.corrected = search rules in
    let rest : FitsSigned w128 x.rest = search rules in
    let t = to_z-of_z w128 x.taken taken in
    let k = to_z-of_z w128 x.corrected corrected in
    let r = to_z-of_z w128 x.rest rest in
    let few : length earlier < most = omega (arith, are.count) in
    with_one x earlier _ few (record {
      count = omega (arith, are.count);
      taken = c.take.ensures.total (value_of quantities.Taken) x earlier t are.taken;
      corrected = c.take-2.ensures.total (value_of quantities.Corrected) x earlier k are.corrected;
      rest = c.take-3.ensures.total (value_of quantities.Rest) x earlier r are.rest;
      newest = ap Some r;
      step = cc (c.longest-self-inside.ensures.value, are.newest, are.step, r);
    })
