-- The first verdict that holds, and what a greater tolerance changes.
use Rattle.std.proofs.Common.{◌≡◌, ◌≢◌, Bool, true, false, ◌&&◌, ℤ, pos, ◌+ℤ◌, ◌-ℤ◌, ◌*ℤ◌, ◌≤ℤ◌, ◌<ℤ◌, unsigned_abs, List, [], ◌∷◌}
use Rattle.std.proofs.Common.{◌⊎◌, inl, inr, refl, sym, arith, ◌∙◌, ℕ, ◌+◌, ◌≤◌, nat_lt, not, cond, is_some, option_map, Some, None, length}
use Rattle.std.specs.Int.RustNames.{int_le}
use Rattle.std.specs.List.{position, position_or_len}
use Rattle.std.proofs.lemmas.Int.{ints}
use Rattle.std.proofs.lemmas.Bool.{and_parts}
use Rattle.std.proofs.lemmas.Bool.Decides.{nat_tests}
use Rattle.std.proofs.Math.IntN.{+ℤ_invr}
use Rattle.result_verdict.specs.declared.known.Known.{Known}
use Rattle.result_verdict.specs.declared.verdict.Verdict.TheVariants.{Exact, Within, Filtered, Wrong}
use Rattle.result_verdict.specs.Delays.{is_within}
use Rattle.result_verdict.specs.Verdict.{offset_error, path_error, sum_error, beyond_known, is_nothing, is_exact, is_near, is_filtered}
use Rattle.result_verdict.specs.Verdict.{is_older, first_verdict, verdict_of}
use Rattle.result_verdict.proofs.Times.{twice}

-- ---- what the first verdict tells
first_exact : (a b c d : Bool) → first_verdict a b c d ≡ Exact → a ≡ true
first_exact true b c d h = refl
first_exact false true c d h = absurd cc
first_exact false false true d h = absurd cc
first_exact false false false true h = absurd cc
first_exact false false false false h = absurd cc

first_within : (a b c d : Bool) → first_verdict a b c d ≡ Within → (a ≡ false) × (b ≡ true)
first_within true b c d h = absurd cc
first_within false true c d h = (refl, refl)
first_within false false true d h = absurd cc
first_within false false false true h = absurd cc
first_within false false false false h = absurd cc

first_filtered : (a b c d : Bool) → first_verdict a b c d ≡ Filtered → c ≡ true
first_filtered true b c d h = absurd cc
first_filtered false true c d h = absurd cc
first_filtered false false true d h = refl
first_filtered false false false true h = absurd cc
first_filtered false false false false h = absurd cc

-- none of the four passes
record Neither (a b c d : Bool) : Type 0 where
  exact : a ≡ false
  near : b ≡ false
  filtered : c ≡ false
  older : d ≡ false

first_wrong : (a b c d : Bool) → first_verdict a b c d ≡ Wrong → Neither a b c d
first_wrong true b c d h = absurd cc
first_wrong false true c d h = absurd cc
first_wrong false false true d h = absurd cc
first_wrong false false false true h = absurd cc
first_wrong false false false false h = record { exact = refl; near = refl; filtered = refl; older = refl }

wrong_at_none : (a b c d : Bool) → Neither a b c d → first_verdict a b c d ≡ Wrong
wrong_at_none a b c d none = rw (none.exact, none.near, none.filtered, none.older) refl

-- ---- the latest
nothing : (z : ℤ) → is_nothing (z -ℤ z) ≡ true
nothing z = rw (+ℤ_invr z) refl

pub latest_exact : (known : Known) (tolerance : ℤ) → verdict_of known (known.bracket -ℤ known.latest) known.latest tolerance ≡ Exact
latest_exact known tolerance = rw (nothing (known.bracket -ℤ known.latest), nothing known.latest) refl

-- ---- what is filtered is not wrong
pub filtered_right : (known : Known) (offset path tolerance : ℤ) → is_filtered known offset path tolerance ≡ true
    → verdict_of known offset path tolerance ≢ Wrong
filtered_right known offset path tolerance filtered wrong =
    let none = first_wrong (is_exact known offset path) (is_near known offset path tolerance) (is_filtered known offset path tolerance)
    (is_older known offset path tolerance) wrong in
    let none_filtered = none.filtered in
    absurd (cc)

-- ---- one number is changed
left_by : (sum change new tolerance : ℤ) → (is_within tolerance sum ≡ true) ⊎ (sum ≡ pos 0) → new ≡ sum +ℤ change
    → (tolerance +ℤ tolerance) <ℤ pos (unsigned_abs change) → is_within tolerance new ≡ true → ⊥
left_by sum change new tolerance (inl near) is much within = grind (arith, ints, near, is, much, within)
left_by sum change new tolerance (inr none) is much within = grind (arith, ints, none, is, much, within)

left : (sum change new tolerance : ℤ) → (is_within tolerance sum ≡ true) ⊎ (sum ≡ pos 0) → new ≡ sum +ℤ change
    → (pos 2 *ℤ tolerance) <ℤ pos (unsigned_abs change) → is_within tolerance new ≡ true → ⊥
left sum change new tolerance before is more within =
    let much : (tolerance +ℤ tolerance) <ℤ pos (unsigned_abs change) = rw (twice tolerance) at more in
    left_by sum change new tolerance before is much within

pub sum_within : (known : Known) (offset path tolerance : ℤ) → verdict_of known offset path tolerance ≡ Filtered
    → is_within tolerance (sum_error known offset path) ≡ true
sum_within known offset path tolerance filtered =
    (and_parts (is_within tolerance (sum_error known offset path)) (int_le (beyond_known known path) tolerance)
    (first_filtered (is_exact known offset path) (is_near known offset path tolerance) (is_filtered known offset path tolerance)
    (is_older known offset path tolerance) filtered)).0

before_change : (known : Known) (offset path tolerance : ℤ)
    → (verdict_of known offset path tolerance ≡ Filtered) ⊎ (sum_error known offset path ≡ pos 0)
    → (is_within tolerance (sum_error known offset path) ≡ true) ⊎ (sum_error known offset path ≡ pos 0)
before_change known offset path tolerance (inl filtered) = inl (sum_within known offset path tolerance filtered)
before_change known offset path tolerance (inr none) = inr none

by_offset : (offset other path bracket : ℤ) → (other +ℤ path) -ℤ bracket ≡ ((offset +ℤ path) -ℤ bracket) +ℤ (other -ℤ offset)
by_offset offset other path bracket = omega (arith, ints)

by_path : (offset path other bracket : ℤ) → (offset +ℤ other) -ℤ bracket ≡ ((offset +ℤ path) -ℤ bracket) +ℤ (other -ℤ path)
by_path offset path other bracket = omega (arith, ints)

pub offset_changed : (known : Known) (offset other path tolerance : ℤ)
    → (verdict_of known offset path tolerance ≡ Filtered) ⊎ (sum_error known offset path ≡ pos 0)
    → (pos 2 *ℤ tolerance) <ℤ pos (unsigned_abs (other -ℤ offset)) → verdict_of known other path tolerance ≢ Filtered
offset_changed known offset other path tolerance before more filtered =
    left (sum_error known offset path) (other -ℤ offset) (sum_error known other path) tolerance
    (before_change known offset path tolerance before) (by_offset offset other path known.bracket) more
    (sum_within known other path tolerance filtered)

pub path_changed : (known : Known) (offset path other tolerance : ℤ)
    → (verdict_of known offset path tolerance ≡ Filtered) ⊎ (sum_error known offset path ≡ pos 0)
    → (pos 2 *ℤ tolerance) <ℤ pos (unsigned_abs (other -ℤ path)) → verdict_of known offset other tolerance ≢ Filtered
path_changed known offset path other tolerance before more filtered =
    left (sum_error known offset path) (other -ℤ path) (sum_error known offset other) tolerance
    (before_change known offset path tolerance before) (by_path offset path other known.bracket) more
    (sum_within known offset other tolerance filtered)

-- what follows part by part
and_more : (a b c d : Bool) → (a ≡ true → b ≡ true) → (c ≡ true → d ≡ true) → (a && c) ≡ true → (b && d) ≡ true
and_more a b c d one other h = let parts = and_parts a c h in rw (one parts.0, other parts.1) refl

-- what doesn't pass now didn't pass before
neither : (a b : Bool) → (a ≡ true → b ≡ true) → b ≡ false → a ≡ false
neither true b more none = absurd (let passes = more refl in cc)
neither false b more none = refl

no_later_by : (p q : Bool) → (p ≡ true → q ≡ true) → (a b : ℕ) → b ≤ a → cond (not q) (1 + b) 0 ≤ cond (not p) (1 + a) 0
no_later_by p true more a b rest = omega arith
no_later_by true false more a b rest = absurd (let passes = more refl in cc)
no_later_by false false more a b rest = omega arith

-- what passes more has its first place no later
no_later : (p q : ℤ → Bool) → ((z : ℤ) → p z ≡ true → q z ≡ true) → (xs : List ℤ) → position_or_len q xs ≤ position_or_len p xs
no_later p q more [] = omega arith
no_later p q more (x ∷ xs) = no_later_by (p x) (q x) (more x) (position_or_len p xs) (position_or_len q xs) (no_later p q more xs)

-- a place is there where it is before the end
there : (place most : ℕ) (test : Bool) → nat_lt place most ≡ test
    → is_some (option_map (λ index. index + 1) (cond test (Some place) None)) ≡ test
there place most true is = refl
there place most false is = refl

found_more : (p q : ℤ → Bool) → ((z : ℤ) → p z ≡ true → q z ≡ true) → (xs : List ℤ)
    → is_some (option_map (λ index. index + 1) (position p xs)) ≡ true
    → is_some (option_map (λ index. index + 1) (position q xs)) ≡ true
found_more p q more xs found =
    let before : nat_lt (position_or_len p xs) (length xs) ≡ true =
    sym (there (position_or_len p xs) (length xs) (nat_lt (position_or_len p xs) (length xs)) refl) ∙ found in
    let after : nat_lt (position_or_len q xs) (length xs) ≡ true = grind (arith, nat_tests, before, no_later p q more xs) in
    there (position_or_len q xs) (length xs) (nat_lt (position_or_len q xs) (length xs)) refl ∙ after

-- ---- a greater tolerance
module _ (tolerance greater : ℤ) (more : tolerance ≤ℤ greater) where
  pub within_more : (z : ℤ) → is_within tolerance z ≡ true → is_within greater z ≡ true
  within_more z near = grind (arith, ints, near, more)

  below_more : (z : ℤ) → int_le z tolerance ≡ true → int_le z greater ≡ true
  below_more z near = grind (arith, ints, near, more)

module _ (known : Known) (offset path tolerance greater : ℤ) (more : tolerance ≤ℤ greater) where
  near_more : is_near known offset path tolerance ≡ true → is_near known offset path greater ≡ true
  near_more = and_more _ _ _ _ (within_more tolerance greater more (offset_error known offset))
      (within_more tolerance greater more (path_error known path))

  filtered_more : is_filtered known offset path tolerance ≡ true → is_filtered known offset path greater ≡ true
  filtered_more = and_more _ _ _ _ (within_more tolerance greater more (sum_error known offset path))
      (below_more tolerance greater more (beyond_known known path))

  older_more : is_older known offset path tolerance ≡ true → is_older known offset path greater ≡ true
  older_more = and_more _ _ _ _ (within_more tolerance greater more (offset_error known offset))
      (found_more (λ delay. is_within tolerance (path -ℤ delay)) (λ delay. is_within greater (path -ℤ delay))
      (λ delay. within_more tolerance greater more (path -ℤ delay)) known.responses.items)

  pub still_within : verdict_of known offset path tolerance ≡ Within → verdict_of known offset path greater ≡ Within
  still_within within =
      let tests = first_within (is_exact known offset path) (is_near known offset path tolerance) (is_filtered known offset path tolerance)
      (is_older known offset path tolerance) within in
      rw (tests.0, near_more tests.1) refl

  pub still_right : verdict_of known offset path tolerance ≢ Wrong → verdict_of known offset path greater ≢ Wrong
  still_right right wrong =
      let none = first_wrong (is_exact known offset path) (is_near known offset path greater) (is_filtered known offset path greater)
      (is_older known offset path greater) wrong in
      right (wrong_at_none (is_exact known offset path) (is_near known offset path tolerance)
      (is_filtered known offset path tolerance) (is_older known offset path tolerance) (record {
        exact = none.exact;
        near = neither _ _ near_more none.near;
        filtered = neither _ _ filtered_more none.filtered;
        older = neither _ _ older_more none.older;
      }))

pub still_exact : (known : Known) (offset path tolerance other : ℤ) → verdict_of known offset path tolerance ≡ Exact
    → verdict_of known offset path other ≡ Exact
still_exact known offset path tolerance other exact =
    let is = first_exact (is_exact known offset path) (is_near known offset path tolerance) (is_filtered known offset path tolerance)
    (is_older known offset path tolerance) exact in
    rw is refl
