-- A Sync's way, with its two corrections together; and texts of three parts.
use Rattle.std.proofs.Common.{◌≡◌, ◌∙◌, ◌++◌, ℕ, ℤ, List, ap, append_assoc, arith}
use Rattle.std.specs.Prelude.{◌+ℤ◌, ◌-ℤ◌}
use borrow.Author.Differences.{ints}

pub same_way : (t1 t2 follow sync : ℤ) → ((t2 -ℤ (t1 +ℤ follow)) -ℤ sync) ≡ ((t2 -ℤ t1) -ℤ (sync +ℤ follow))
same_way t1 t2 follow sync = omega (arith, ints)

-- a text that grew by two parts, and grows by a third
pub three_parts : (old a b c one two : List ℕ) → one ≡ old ++ a → two ≡ one ++ b → two ++ c ≡ old ++ (a ++ (b ++ c))
three_parts old a b c one two first second =
    ap (λ (t : List ℕ). t ++ c) (second ∙ ap (λ (t : List ℕ). t ++ b) first)
    ∙ append_assoc (old ++ a) b c ∙ append_assoc old a (b ++ c)
