-- Numbers of one sequence: the events that draw them are counted, so each count is drawn once.
-- Used where two messages turn out to have one number: then one event drew both.
use Rattle.std.proofs.Common.{◌≡◌, ◌∙◌, ℕ, ◌+◌, ◌<◌, ◌≤◌, Bool, true, false, [], ◌∷◌, length, Some, subst, refl, ap, arith, if◌then◌else◌}
use Rattle.std.specs.Prelude.{◌==◌, count_by, ◌⊎◌}
use Rattle.std.proofs.Common.{inl, inr}
use Rattle.std.proofs.lemmas.Bool.{cases_order}
use Rattle.std.proofs.lemmas.List.Sums.{sum_by-cons}
use Rattle.network_model.specs.declared.event.Event.{Event}
use Rattle.network_model.specs.Run.{Run, Place, place, place_at, tag_of, IsIn}
use Rattle.network_model.proofs.Places.{same_place, IsIn-before}

-- one event more
pub count-yes : (kind : Event → Bool) (event : Event) (earlier : Run) → kind event ≡ true → count_by kind (event ∷ earlier) ≡ count_by kind earlier + 1
count-yes kind event earlier is = omega (arith, sum_by-cons (λ e. if kind e then 1 else 0) event earlier, ap {B = ℕ} (λ b. if b then 1 else 0) is)

pub count-no : (kind : Event → Bool) (event : Event) (earlier : Run) → kind event ≡ false → count_by kind (event ∷ earlier) ≡ count_by kind earlier
count-no kind event earlier is = omega (arith, sum_by-cons (λ e. if kind e then 1 else 0) event earlier, ap {B = ℕ} (λ b. if b then 1 else 0) is)

pub count-more : (kind : Event → Bool) (event : Event) (earlier : Run) → count_by kind earlier ≤ count_by kind (event ∷ earlier)
count-more kind event earlier = omega (arith, sum_by-cons (λ e. if kind e then 1 else 0) event earlier)

-- an event of a kind counts beside those before it
pub count-place_at : (kind : Event → Bool) (run : Run) (tag : ℕ) (p : Place) → place_at run tag ≡ Some p → kind p.event ≡ true
    → count_by kind p.earlier + 1 ≤ count_by kind run
count-place_at kind [] tag p there drawn = cc
count-place_at kind (event ∷ earlier) tag p there drawn = at (length earlier == tag) there (count-place_at kind earlier tag p)
  where
    at : (same : Bool) → (if same then Some (place event earlier) else place_at earlier tag) ≡ Some p
        → (place_at earlier tag ≡ Some p → kind p.event ≡ true → count_by kind p.earlier + 1 ≤ count_by kind earlier)
        → count_by kind p.earlier + 1 ≤ count_by kind (event ∷ earlier)
    at true there rest = let same : place event earlier ≡ p = cc in
        subst (λ (o : Place). kind o.event ≡ true → count_by kind o.earlier + 1 ≤ count_by kind (event ∷ earlier)) same
        (λ is. omega (arith, count-yes kind event earlier is)) drawn
    at false there rest = let behind : count_by kind p.earlier + 1 ≤ count_by kind earlier = rest there drawn in omega (arith, count-more kind event earlier)

-- two events of a kind that have as many of it before them are one
pub same_count : (kind : Event → Bool) (run : Run) (p q : Place) → IsIn run p → IsIn run q → kind p.event ≡ true → kind q.event ≡ true
    → count_by kind p.earlier ≡ count_by kind q.earlier → p ≡ q
same_count kind run p q here there drawn drawn_too same = at (cases_order (tag_of p) (tag_of q))
  where
    at : ((tag_of p ≡ tag_of q) ⊎ ((tag_of p < tag_of q) ⊎ (tag_of q < tag_of p))) → p ≡ q
    at (inl e) = same_place run p q here there e
    at (inr (inl lower)) = absurd (omega (arith, count-place_at kind q.earlier (tag_of p) p (IsIn-before run q p there here lower) drawn))
    at (inr (inr lower)) = absurd (omega (arith, count-place_at kind p.earlier (tag_of q) q (IsIn-before run p q here there lower) drawn_too))

-- no more before an event of a run than in the run
pub count-within : (kind : Event → Bool) (run : Run) (tag : ℕ) (p : Place) → place_at run tag ≡ Some p → count_by kind p.earlier ≤ count_by kind run
count-within kind [] tag p there = cc
count-within kind (event ∷ earlier) tag p there = at (length earlier == tag) there (count-within kind earlier tag p)
  where
    at : (same : Bool) → (if same then Some (place event earlier) else place_at earlier tag) ≡ Some p
        → (place_at earlier tag ≡ Some p → count_by kind p.earlier ≤ count_by kind earlier) → count_by kind p.earlier ≤ count_by kind (event ∷ earlier)
    at true there rest = let same : place event earlier ≡ p = cc in
        subst (λ (o : Place). count_by kind o.earlier ≤ count_by kind (event ∷ earlier)) same (count-more kind event earlier)
    at false there rest = let behind : count_by kind p.earlier ≤ count_by kind earlier = rest there in omega (arith, count-more kind event earlier)

-- nothing is of no kind
pub count-none : (run : Run) → count_by (λ (event : Event). false) run ≡ 0
count-none [] = refl
count-none (event ∷ earlier) = count-no (λ (event : Event). false) event earlier refl ∙ count-none earlier
