-- Entries once a stay was left.
use Rattle.std.proofs.Common.{◌≡◌, ℕ, zero, suc, List, [], ◌∷◌, None, refl, ap}
use Rattle.world_model.specs.Inner.Stands.{Entry}
use Rattle.world_model.specs.declared.entry.Left.{Left}
use Rattle.world_model.specs.declared.entry.Left.TheVariants.{Stay}
use Rattle.world_model.specs.Inner.Stands.{stay_in, stay_at, ended, left_stay}

unchanged : (left : Left) → stay_in left ≡ None → ended left ≡ left
unchanged (Stay transit) none = absurd (cc)
unchanged _ none = refl

-- where there is no stay nothing ends
pub left_stay-none : (entries : List Entry) (i : ℕ) → stay_at entries i ≡ None → left_stay i entries ≡ entries
left_stay-none [] i none = refl
left_stay-none (entry ∷ entries) zero none = λ j. record { event = entry.event; left = unchanged entry.left none j } ∷ entries
left_stay-none (entry ∷ entries) (suc i) none = ap (λ rest. entry ∷ rest) (left_stay-none entries i none)
