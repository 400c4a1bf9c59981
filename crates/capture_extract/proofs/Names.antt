-- At which index an interface stands by its name.
use Rattle.std.proofs.Common.{◌≡◌, ◌∙◌, ℕ, Bool, true, false, cond, List, Some, refl, sym, ap}
use Rattle.std.proofs.Common.{Less, Equal, Greater}
use Rattle.std.proofs.lemmas.Map.Lookups.{exact_bytes}
use Rattle.std.proofs.lemmas.Slice.Eq.{bytes_eq-Decides}
use Rattle.std.specs.BTreeMap.{is_at}
use Rattle.std.specs.Cmp.Lexicographic.{slice_cmp}
use Rattle.std.specs.Map.{KeepsOthers, lookup}
use Rattle.std.specs.Ordering.{eq_by_cmp, is_eq, nat_cmp}
use Rattle.std.specs.Str.{bytes_eq}
use Rattle.std.specs.declared.cmp.Ordering.{Ordering}

equal_if : (o : Ordering) → is_eq o ≡ true → o ≡ Equal
equal_if Less h = cc
equal_if Equal h = refl
equal_if Greater h = cc

same_if : (a b : List ℕ) → is_eq (slice_cmp nat_cmp a b) ≡ true → a ≡ b
same_if a b h = exact_bytes a b (equal_if (slice_cmp nat_cmp a b) h)

apart_at : (name key own : List ℕ) (is_own : Bool) → is_eq (slice_cmp nat_cmp name own) ≡ is_own → key ≡ own
    → bytes_eq name key ≡ false → is_own ≡ false
apart_at name key own false e same apart = refl
apart_at name key own true e same apart =
    let equal : bytes_eq name key ≡ true = (bytes_eq-Decides name key).1 (same_if name own e ∙ sym same) in
    let both : true ≡ false = sym equal ∙ apart in
    absurd cc

-- a map whose keys are told apart by what they hold, with one more key
module _ {V : Type 0} (items : V → List ℕ) (old new : List (V × ℕ)) (key : V) (index : ℕ) where
  abbrev order : V → V → Ordering
  order x y = slice_cmp nat_cmp (items x) (items y)

  abbrev finds : List ℕ → V → Bool
  finds name = is_at (λ k. slice_cmp nat_cmp name (items k))

  others : KeepsOthers (eq_by_cmp order) (is_at (order key)) old new → (name : List ℕ) → bytes_eq name (items key) ≡ false
      → lookup (finds name) new ≡ lookup (finds name) old
  unfolding KeepsOthers
  others keeps name apart = keeps (finds name)
      (λ x y h. ap (λ (n : List ℕ). is_eq (slice_cmp nat_cmp n (items y))) (same_if name (items x) h))
      (λ k h. apart_at name (items key) (items k) (finds name k) refl (same_if (items key) (items k) h) apart)

  named_at : KeepsOthers (eq_by_cmp order) (is_at (order key)) old new → lookup (is_at (order key)) new ≡ Some index
      → (name : List ℕ) (is_own : Bool) → bytes_eq name (items key) ≡ is_own
      → lookup (finds name) new ≡ cond is_own (Some index) (lookup (finds name) old)
  named_at keeps found name true own =
      let same : name ≡ items key = (bytes_eq-Decides name (items key)).0 own in
      ap (λ (n : List ℕ). lookup (is_at (λ k. slice_cmp nat_cmp n (items k))) new) same ∙ found
  named_at keeps found name false own = others keeps name own

  pub named_more : KeepsOthers (eq_by_cmp order) (is_at (order key)) old new → lookup (is_at (order key)) new ≡ Some index
      → (name : List ℕ) → lookup (finds name) new ≡ cond (bytes_eq name (items key)) (Some index) (lookup (finds name) old)
  named_more keeps found name = named_at keeps found name (bytes_eq name (items key)) refl
