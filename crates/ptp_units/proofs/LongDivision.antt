-- The steps of the long division that gives decimals.
use Rattle.std.proofs.Common.{◌≡◌, ◌≢◌, ℕ, zero, suc, ◌+◌, ◌-◌, ◌*◌, ◌/◌, ◌%◌, ◌<◌, eqb, true, false, inl, inr, List}
use Rattle.std.proofs.Common.{[], ◌∷◌, ◌++◌, append-nil, append_assoc, refl, sym, arith, ◌≤◌, ◌∙◌}
use Rattle.std.proofs.lemmas.Bool.Decides.{nat_tests}
use Rattle.std.specs.Prelude.{ℤ, pos, negsuc, codes, ◌⊎◌}
use Rattle.std.specs.Fmt.{decimal}
use Rattle.std.specs.Int.RustNames.{unsigned_abs}
use lib.Signed.{lt_z}
use borrow.Author.Differences.{ints}
use Rattle.ptp_units.specs.Nanoseconds.{decimals, pointed, nanoseconds_text}

pub decimals-nothing : (places : ℕ) → decimals places 0 ≡ []
unfolding decimals
decimals-nothing zero = refl
decimals-nothing (suc places) = refl

pub decimals-no_places : (rest : ℕ) → decimals 0 rest ≡ []
unfolding decimals
decimals-no_places rest = refl

pub decimals-step : (places rest : ℕ) → 0 < rest
    → decimals (suc places) rest ≡ (48 + rest * 10 / 131072) ∷ decimals places (rest * 10 % 131072)
unfolding decimals
decimals-step places rest some = let test : eqb rest 0 ≡ false = grind (arith, nat_tests) in rw test

-- one more digit was written
pub moved : (front all : List ℕ) (place rest : ℕ) → place < 17 → 0 < rest → front ++ decimals (17 - place) rest ≡ all
    → (front ++ (48 + rest * 10 / 131072) ∷ []) ++ decimals (17 - (place + 1)) (rest * 10 % 131072) ≡ all
moved front all place rest within some so_far =
    let fewer : 17 - place ≡ suc (17 - (place + 1)) = omega arith in
    let step = decimals-step (17 - (place + 1)) rest some in
    append_assoc front _ _ ∙ (rw (fewer, step) at so_far)

-- the last digit was written
pub ended : (front all : List ℕ) (places rest : ℕ) → rest ≡ 0 → front ++ decimals places rest ≡ all → front ≡ all
ended front all places rest none so_far =
    sym (append-nil front) ∙ (rw (none, decimals-nothing places) at so_far)

pub out_of_places : (front all : List ℕ) (place rest : ℕ) → 17 ≤ place → front ++ decimals (17 - place) rest ≡ all
    → front ≡ all
out_of_places front all place rest past so_far =
    let no_place : 17 - place ≡ 0 = omega arith in
    sym (append-nil front) ∙ (rw (no_place, decimals-no_places rest) at so_far)

-- a point stands before decimals alone
fraction : (rest : ℕ) (point : List ℕ) → ((rest ≡ 0) × (point ≡ [])) ⊎ ((rest ≢ 0) × (point ≡ codes "."))
    → point ++ decimals 17 rest ≡ pointed (decimals 17 rest)
fraction rest point (inl none) = rw (none.0, none.1, decimals-nothing 17)
fraction rest point (inr some) = rw (some.1, decimals-step 16 rest (omega (arith, some.0)))

-- what is written of a number: its sign, whole nanoseconds, a point, and decimals
pub shown : (z : ℤ) (size : ℕ) (sign point : List ℕ) → size ≡ unsigned_abs z
    → ((lt_z z (pos 0) ≡ true) × (sign ≡ codes "-")) ⊎ ((lt_z z (pos 0) ≡ false) × (sign ≡ []))
    → ((size % 131072 ≡ 0) × (point ≡ [])) ⊎ ((size % 131072 ≢ 0) × (point ≡ codes "."))
    → sign ++ (decimal (size / 131072) ++ (point ++ decimals 17 (size % 131072))) ≡ nanoseconds_text z
shown (pos n) size sign point is (inr plain) parts = rw (fraction (size % 131072) point parts, plain.1, is)
shown (negsuc n) size sign point is (inl below) parts = rw (fraction (size % 131072) point parts, below.1, is)
shown (pos n) size sign point is (inl below) parts = absurd (grind (arith, ints, below.0))
shown (negsuc n) size sign point is (inr plain) parts = absurd (grind (arith, ints, plain.0))
