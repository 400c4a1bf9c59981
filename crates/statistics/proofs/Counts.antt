-- Counts, once there is one more.
use Rattle.std.proofs.Common.{◌≡◌, ◌∙◌, ℕ, ◌+◌, Bool, true, false, List, ◌∷◌, sym, ap, arith}
use Rattle.std.specs.Prelude.{cond, count_by}
use Rattle.std.proofs.lemmas.List.Sums.{sum_by-cons}
use Rattle.statistics.specs.Counting.{with_one_if}
use Rattle.statistics.specs.Wide.{at_most}

module _ {A : Type 0} (p : A → Bool) where
  pub count_none : (a : A) (all : List A) → p a ≡ false → count_by p (a ∷ all) ≡ count_by p all
  count_none a all not_so =
      let more = sum_by-cons (λ x. cond (p x) 1 0) a all in
      let none = ap {B = ℕ} (λ (b : Bool). cond b 1 0) not_so in
      omega (arith, more, none)

  pub same_head : (a b : A) (all : List A) → p a ≡ p b → count_by p (a ∷ all) ≡ count_by p (b ∷ all)
  same_head a b all same =
      sum_by-cons (λ x. cond (p x) 1 0) a all ∙ ap (λ (c : Bool). cond c 1 0 + count_by p all) same
      ∙ sym (sum_by-cons (λ x. cond (p x) 1 0) b all)

  pub count_more : (a : A) (all : List A) (before : ℕ) (is_so : Bool) → is_so ≡ p a → before ≡ at_most (count_by p all)
      → with_one_if is_so before ≡ at_most (count_by p (a ∷ all))
  count_more a all before true same so =
      let more = sum_by-cons (λ x. cond (p x) 1 0) a all in
      let one = ap {B = ℕ} (λ (b : Bool). cond b 1 0) same in
      omega (arith, more, one, so)
  count_more a all before false same so = so ∙ ap at_most (sym (count_none a all (sym same)))
