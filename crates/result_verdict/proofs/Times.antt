-- So many times a number, and the first count that fits.
use Rattle.std.proofs.Common.{◌≡◌, ◌∙◌, ℕ, zero, suc, ◌+◌, ◌-◌, ◌<◌, ◌≤◌, Bool, true, false, ℤ, pos, ◌+ℤ◌, ◌*ℤ◌, Some, None, refl}
use Rattle.std.proofs.Common.{ap, arith}
use Rattle.std.proofs.Math.IntN.{suc_ℤ-*ℤ, zero-*ℤ, +ℤ_idl}
use Rattle.std.proofs.Math.Numerals.{add-one}
use Rattle.result_verdict.specs.Delays.{first_from}

pub times_none : (k : ℤ) → pos 0 *ℤ k ≡ pos 0
times_none k = zero-*ℤ k

pub times_more : (n : ℕ) (k : ℤ) → pos (n + 1) *ℤ k ≡ (pos n *ℤ k) +ℤ k
times_more n k = rw add-one (suc_ℤ-*ℤ (pos n) k)

pub twice : (k : ℤ) → pos 2 *ℤ k ≡ k +ℤ k
twice k = times_more 1 k ∙ ap (λ one. one +ℤ k) (times_more 0 k ∙ ap (λ none. none +ℤ k) (zero-*ℤ k) ∙ +ℤ_idl k)

-- what is left to try, once so many of all were tried
pub record Tried (holds : ℕ → Bool) (tried all : ℕ) : Type 0 where
  pub left : 1 ≤ tried → first_from holds 2 (all - 1) ≡ first_from holds (tried + 1) (all - tried)

module _ (holds : ℕ → Bool) (tried all : ℕ) (within : tried < all) where
  left : Tried holds tried all → 1 ≤ tried
      → first_from holds 2 (all - 1) ≡ first_from holds (tried + 1) (suc (all - (tried + 1)))
  left before some =
      let fewer : all - tried ≡ suc (all - (tried + 1)) = omega arith in
      rw fewer at (before.left some)

  pub tried_found : Tried holds tried all → 1 ≤ tried → holds (tried + 1) ≡ true
      → first_from holds 2 (all - 1) ≡ Some (tried + 1)
  tried_found before some fits = rw fits at (left before some)

  pub tried_not : Tried holds tried all → 1 ≤ tried → holds (tried + 1) ≡ false → Tried holds (tried + 1) all
  tried_not before some other = record { left = λ _. rw other at (left before some) }

  pub tried_first : tried ≡ 0 → Tried holds (tried + 1) all
  tried_first first = rw first (record { left = λ _. refl })

pub tried_none : (holds : ℕ → Bool) (all : ℕ) → Tried holds 0 all
tried_none holds all = record { left = λ some. absurd (omega arith) }

pub tried_all : (holds : ℕ → Bool) (all : ℕ) → Tried holds all all → first_from holds 2 (all - 1) ≡ None
tried_all holds zero tried = refl
tried_all holds (suc all) tried =
    let none : suc all - suc all ≡ 0 = omega arith in
    rw none at (tried.left (omega arith))
