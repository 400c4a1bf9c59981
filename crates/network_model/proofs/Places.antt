-- Events by their tags.
use Rattle.std.proofs.Common.{◌≡◌, ℕ, ◌<◌, Bool, true, false, [], ◌∷◌, length, Some, IsOk, sym, subst, refl, arith, if◌then◌else◌}
use Rattle.std.specs.Prelude.{◌==◌}
use Rattle.std.proofs.lemmas.Bool.Decides.{nat_tests}
use Rattle.network_model.specs.declared.event.Event.{Event}
use Rattle.network_model.specs.Network.{Network}
use Rattle.network_model.specs.Run.{Run, Place, place, place_at, tag_of, IsIn}
use Rattle.network_model.specs.Outcome.{outcome_of, IsRun}

-- the event of a tag has this tag
pub tag_of-place_at : (run : Run) (tag : ℕ) (p : Place) → place_at run tag ≡ Some p → tag_of p ≡ tag
tag_of-place_at [] tag p there = grind arith
tag_of-place_at (event ∷ earlier) tag p there = grind (arith, nat_tests, tag_of-place_at earlier tag p)

-- each tag is less than the number of events
pub place_at-bound : (run : Run) (tag : ℕ) (p : Place) → place_at run tag ≡ Some p → tag < length run
place_at-bound [] tag p there = grind arith
place_at-bound (event ∷ earlier) tag p there = grind (arith, nat_tests, place_at-bound earlier tag p)

-- what comes later doesn't change the event of a tag
pub place_at-later : (event : Event) (run : Run) (tag : ℕ) (p : Place) → place_at run tag ≡ Some p → place_at (event ∷ run) tag ≡ Some p
place_at-later event run tag p there = grind (arith, nat_tests, place_at-bound run tag p there)

-- each event of a run was accepted after a run
pub accepted-place_at : (network : Network) (run : Run) (tag : ℕ) (p : Place) → IsRun network run → place_at run tag ≡ Some p → IsOk (outcome_of network p.earlier p.event)
accepted-place_at network [] tag p accepted there = grind arith
accepted-place_at network (event ∷ earlier) tag p accepted there = grind (arith, nat_tests, accepted.0, accepted-place_at network earlier tag p accepted.1)

pub IsRun-place_at : (network : Network) (run : Run) (tag : ℕ) (p : Place) → IsRun network run → place_at run tag ≡ Some p → IsRun network p.earlier
IsRun-place_at network [] tag p accepted there = grind arith
IsRun-place_at network (event ∷ earlier) tag p accepted there = grind (arith, nat_tests, accepted.1, IsRun-place_at network earlier tag p accepted.1)

-- the event of a tag is an event of the run
pub IsIn-place_at : (run : Run) (tag : ℕ) (p : Place) → place_at run tag ≡ Some p → IsIn run p
IsIn-place_at run tag p there = subst (λ t. place_at run t ≡ Some p) (sym (tag_of-place_at run tag p there)) there

-- an event of a run, and what came before it
pub place_at-within : (run : Run) (p : Place) (tag : ℕ) (q : Place) → IsIn run p → place_at p.earlier tag ≡ Some q → place_at run tag ≡ Some q
place_at-within run p tag q here there = from run (tag_of p) here
  where
    from : (run : Run) (t : ℕ) → place_at run t ≡ Some p → place_at run tag ≡ Some q
    from [] t here = cc
    from (event ∷ earlier) t here = at (length earlier == t) here (from earlier t)
      where
        at : (same : Bool) → (if same then Some (place event earlier) else place_at earlier t) ≡ Some p
            → (place_at earlier t ≡ Some p → place_at earlier tag ≡ Some q) → place_at (event ∷ earlier) tag ≡ Some q
        at true here rest = let same : place event earlier ≡ p = cc in
            place_at-later event earlier tag q (subst (λ (o : Place). place_at o.earlier tag ≡ Some q) (sym same) there)
        at false here rest = place_at-later event earlier tag q (rest here)

pub IsIn-within : (run : Run) (p q : Place) → IsIn run p → IsIn p.earlier q → IsIn run q
IsIn-within run p q here there = place_at-within run p (tag_of q) q here there

-- of two events of a run, the one with the lower tag came before the other
pub IsIn-before : (run : Run) (p q : Place) → IsIn run p → IsIn run q → tag_of q < tag_of p → IsIn p.earlier q
IsIn-before [] p q here there lower = cc
IsIn-before (event ∷ earlier) p q here there lower =
    at (length earlier == tag_of p) (length earlier == tag_of q) refl refl here there (IsIn-before earlier p q)
  where
    at : (same same_too : Bool) → (length earlier == tag_of p) ≡ same → (length earlier == tag_of q) ≡ same_too
        → (if same then Some (place event earlier) else place_at earlier (tag_of p)) ≡ Some p
        → (if same_too then Some (place event earlier) else place_at earlier (tag_of q)) ≡ Some q
        → (IsIn earlier p → IsIn earlier q → tag_of q < tag_of p → IsIn p.earlier q)
        → IsIn p.earlier q
    at true true e f here there rest = absurd (grind (arith, nat_tests))
    at true false e f here there rest = let same : place event earlier ≡ p = cc in subst (λ (o : Place). place_at o.earlier (tag_of q) ≡ Some q) same there
    at false true e f here there rest = absurd (grind (arith, nat_tests, place_at-bound earlier (tag_of p) p here))
    at false false e f here there rest = rest here there lower

-- an event of a run is told by its tag
pub same_place : (run : Run) (p q : Place) → IsIn run p → IsIn run q → tag_of p ≡ tag_of q → p ≡ q
same_place run p q here there same = let both : place_at run (tag_of p) ≡ Some q = subst (λ t. place_at run t ≡ Some q) (sym same) there in cc
