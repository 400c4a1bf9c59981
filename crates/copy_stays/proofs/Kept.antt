-- What is kept of stays, and what it is kept for.
use Rattle.std.proofs.Common.{◌≡◌, ◌∙◌, ℕ, zero, suc, ◌+◌, ◌<◌, Bool, true, ◌&&◌, Option, Some, None, refl, ap, arith}
use Rattle.std.specs.Option.{option_or, option_map_or}
use Rattle.copy_stays.specs.declared.stays.Stays.{Stays}
use Rattle.copy_stays.specs.Leaves.{LastStays, with_stay, Leaves, is_once, once_by, once_of}
use Rattle.copy_stays.specs.Stays.{state_in, is_whole, first_leaves, AreStays, once_in}
use Rattle.copy_stays.proofs.CopyStates.{one_more}

-- what is kept of each copy is what its stays say
pub once_kept : (kept : Stays) (stays : LastStays) (leaves : Leaves) (number : ℕ) → AreStays kept stays leaves number
    → once_in kept ≡ once_of stays leaves
once_kept kept stays leaves number h = λ i copy. at copy i
  where
    by : (count copy : ℕ) → copy < count → once_in kept copy ≡ once_by stays leaves count copy
    by zero copy within = absurd (omega (arith, within))
    by (suc count) copy within =
        h.once copy ∙ stay (stays copy) refl (λ c low. by count c (omega (arith, low, within)))
      where
        stay : (o : Option (ℕ × ℕ)) → stays copy ≡ o
            → ((c : ℕ) → c < copy → once_in kept c ≡ once_by stays leaves count c)
            → is_whole (state_in kept.states.items) leaves o
            ≡ option_map_or (λ s. is_once (leaves s.0) && once_by stays leaves count s.1) o true
        stay None e rest = refl
        stay (Some s) e rest = ap (λ (b : Bool). is_once (leaves s.0) && b)
            (rest s.1 (h.ordered.within copy s.0 s.1 e).0)

    at : (copy : ℕ) → once_in kept copy ≡ once_of stays leaves copy
    at copy = by (suc copy) copy (omega arith)

-- a line that leaves no stay changes nothing
pub passes : (kept : Stays) (stays : LastStays) (leaves : Leaves) (number : ℕ) → AreStays kept stays leaves number
    → AreStays kept (with_stay number None stays) leaves (number + 1)
passes kept stays leaves number h = one_more (state_in kept.states.items) (first_leaves kept) stays leaves number h

-- where a stay has a first Leave line, nothing is added
pub or_nothing : (o : Option ℕ) → option_or o None ≡ o
or_nothing None = refl
or_nothing (Some n) = refl
