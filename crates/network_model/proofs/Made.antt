-- A copy, its journey and its origin are those that the event of its tag made.
-- So each fact on copies is a fact on one event, by its kind.
use Rattle.std.proofs.Common.{◌≡◌, ℕ, Bool, true, false, [], ◌∷◌, length, Option, Some, None, option_and_then, refl, if◌then◌else◌}
use Rattle.std.specs.Prelude.{◌==◌}
use Rattle.network_model.specs.Network.{Network}
use Rattle.network_model.specs.Run.{Run, Place, place, place_at}
use Rattle.network_model.specs.Journey.{journey_made, journey_of}
use Rattle.network_model.specs.Truth.{copy_made, copy_of, origin_made, origin_of}

-- what a function of a run by tags gives, where it is given event by event
by_place : {X : Type 0} (made : Place → Option X) (of : Run → ℕ → Option X) → ((tag : ℕ) → of [] tag ≡ None)
    → ((p : Place) (tag : ℕ) → of (p.event ∷ p.earlier) tag ≡ (if length p.earlier == tag then made p else of p.earlier tag))
    → (run : Run) (tag : ℕ) → of run tag ≡ option_and_then made (place_at run tag)
by_place made of start step [] tag = start tag
by_place made of start step (event ∷ earlier) tag = at (length earlier == tag) (step (place event earlier) tag) (by_place made of start step earlier tag)
  where
    at : (same : Bool) → of (event ∷ earlier) tag ≡ (if same then made (place event earlier) else of earlier tag)
        → of earlier tag ≡ option_and_then made (place_at earlier tag)
        → of (event ∷ earlier) tag ≡ option_and_then made (if same then Some (place event earlier) else place_at earlier tag)
    at true e rest = e
    at false e rest = cc

pub copy_of-place_at : (network : Network) (run : Run) (tag : ℕ)
    → copy_of network run tag ≡ option_and_then (λ (p : Place). copy_made network p.event p.earlier (copy_of network p.earlier)) (place_at run tag)
copy_of-place_at network run tag =
    by_place (λ (p : Place). copy_made network p.event p.earlier (copy_of network p.earlier)) (copy_of network) (λ tag. refl) (λ p tag. refl) run tag

pub journey_of-place_at : (run : Run) (tag : ℕ)
    → journey_of run tag ≡ option_and_then (λ (p : Place). journey_made p.event p.earlier (journey_of p.earlier)) (place_at run tag)
journey_of-place_at run tag = by_place (λ (p : Place). journey_made p.event p.earlier (journey_of p.earlier)) journey_of (λ tag. refl) (λ p tag. refl) run tag

pub origin_of-place_at : (run : Run) (tag : ℕ)
    → origin_of run tag ≡ option_and_then (λ (p : Place). origin_made p.event p.earlier (origin_of p.earlier)) (place_at run tag)
origin_of-place_at run tag = by_place (λ (p : Place). origin_made p.event p.earlier (origin_of p.earlier)) origin_of (λ tag. refl) (λ p tag. refl) run tag
