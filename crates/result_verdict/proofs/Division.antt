-- The steps of the long division that gives decimals.
use Rattle.std.proofs.Common.{◌≡◌, ℕ, zero, suc, ◌+◌, ◌-◌, ◌*◌, ◌/◌, ◌%◌, ◌<◌, eqb, false, List}
use Rattle.std.proofs.Common.{[], ◌∷◌, ◌++◌, append-nil, append_assoc, refl, sym, arith, ◌≤◌, ◌∙◌}
use Rattle.std.proofs.lemmas.Bool.Decides.{nat_tests}
use Rattle.result_verdict.specs.Exact.{nanosecond, decimals}

pub decimals-nothing : (places : ℕ) → decimals places 0 ≡ []
unfolding decimals
decimals-nothing zero = refl
decimals-nothing (suc places) = refl

pub decimals-no_places : (parts : ℕ) → decimals 0 parts ≡ []
unfolding decimals
decimals-no_places parts = refl

pub decimals-step : (places parts : ℕ) → 0 < parts
    → decimals (suc places) parts ≡ (48 + parts * 10 / nanosecond) ∷ decimals places (parts * 10 % nanosecond)
unfolding decimals
decimals-step places parts some = let test : eqb parts 0 ≡ false = grind (arith, nat_tests) in rw test

-- one more digit was written
pub moved : (front all : List ℕ) (place parts : ℕ) → place < 17 → 0 < parts → front ++ decimals (17 - place) parts ≡ all
    → (front ++ (48 + parts * 10 / nanosecond) ∷ []) ++ decimals (17 - (place + 1)) (parts * 10 % nanosecond) ≡ all
moved front all place parts within some so_far =
    let fewer : 17 - place ≡ suc (17 - (place + 1)) = omega arith in
    let step = decimals-step (17 - (place + 1)) parts some in
    append_assoc front _ _ ∙ (rw (fewer, step) at so_far)

-- the last digit was written
pub ended : (front all : List ℕ) (places parts : ℕ) → parts ≡ 0 → front ++ decimals places parts ≡ all → front ≡ all
ended front all places parts none so_far =
    sym (append-nil front) ∙ (rw (none, decimals-nothing places) at so_far)

pub out_of_places : (front all : List ℕ) (place parts : ℕ) → 17 ≤ place → front ++ decimals (17 - place) parts ≡ all
    → front ≡ all
out_of_places front all place parts past so_far =
    let no_place : 17 - place ≡ 0 = omega arith in
    sym (append-nil front) ∙ (rw (no_place, decimals-no_places parts) at so_far)
