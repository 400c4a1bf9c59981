-- Delays that are known.
use Rattle.std.proofs.Common.{arith, ◌≡◌, ◌∙◌, ◌<◌, ◌≤◌, ◌+◌, ◌++◌, ℕ, zero, suc, ℤ, List, [], ◌∷◌, length, take, get_or, Option, Some, None, refl, sym, ap}
use Rattle.std.specs.Prelude.{option_to_list}
use Rattle.std.proofs.Math.Seq.{take-suc}
use Rattle.result_audit.specs.Course.{known_of}

-- one more at the end
pub known_of-snoc : (delays : List (Option ℤ)) (delay : Option ℤ) → known_of (delays ++ delay ∷ []) ≡ known_of delays ++ option_to_list delay
known_of-snoc [] None = refl
known_of-snoc [] (Some x) = refl
known_of-snoc (None ∷ delays) delay = known_of-snoc delays delay
known_of-snoc (Some x ∷ delays) delay = ap (λ (xs : List ℤ). x ∷ xs) (known_of-snoc delays delay)

-- of so many there are no more
pub known_of-take : (count : ℕ) (delays : List (Option ℤ)) → length (known_of (take count delays)) ≤ count
known_of-take zero delays = omega arith
known_of-take (suc count) [] = omega arith
known_of-take (suc count) (None ∷ delays) = let fewer = known_of-take count delays in omega arith
known_of-take (suc count) (Some x ∷ delays) = let fewer = known_of-take count delays in omega arith

-- one more of so many
pub known_of-next : (count : ℕ) (delays : List (Option ℤ)) (delay : Option ℤ) → count < length delays → delay ≡ get_or delays count delay
    → known_of (take (count + 1) delays) ≡ known_of (take count delays) ++ option_to_list delay
known_of-next count delays delay within is =
    let next : count + 1 ≡ suc count = omega arith in
    ap (λ (n : ℕ). known_of (take n delays)) next ∙ ap known_of (take-suc delays count delay within) ∙ known_of-snoc (take count delays) (get_or delays count delay)
    ∙ ap (λ (it : Option ℤ). known_of (take count delays) ++ option_to_list it) (sym is)
