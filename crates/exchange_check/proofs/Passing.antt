-- Lines that leave no stay.
use Rattle.std.proofs.Common.{◌≡◌, ◌∙◌, ℕ, ◌+◌, Bool, true, false, cond, Option, None, refl, sym}
use Rattle.std.proofs.Math.Path.{transport}
use Rattle.std.specs.Option.{option_map_or}
use Rattle.std.specs.Prelude.{option_and_then, is_some}
use Rattle.network_model.specs.declared.event.Event.{Event}
use Rattle.network_model.specs.declared.event.Event.TheVariants.{Leave}
use Rattle.network_model.specs.Kinds.{named_transit}
use Rattle.exchange_check.specs.declared.facts.Fact.{Fact}
use Rattle.copy_stays.specs.declared.stays.Stays.{Stays}
use Rattle.exchange_check.specs.Inner.Kept.{Facts, leaves_after}
use Rattle.copy_stays.specs.Leaves.{Leaves, left_again, LastStays, with_stay}
use Rattle.exchange_check.specs.Inner.Stays.{stay_below, stay_of}
use Rattle.copy_stays.specs.Stays.{AreStays}
use Rattle.copy_stays.proofs.Kept.{passes}

-- an event that is no Leave event leaves no stay
pub others_pass : (event : Event) → ((node : _) (transit : ℕ) (at : _) → event ≡ Leave node transit at → ⊥)
    → named_transit event ≡ None
others_pass (Leave node transit at) h = absurd (h node transit at refl)
others_pass _ h = refl

-- a copy of a line that leaves no stay has none
pub none_made : (facts : Facts) (number : ℕ) (fact : Fact) → named_transit fact.event ≡ None
    → stay_of facts number fact ≡ None
none_made facts number fact h =
    (λ i. cond (is_some fact.journey) (option_and_then (stay_below facts number) (h i)) None)
    ∙ either (is_some fact.journey)
  where
    either : (b : Bool) → cond {A = Option (ℕ × ℕ)} b None None ≡ None
    either true = refl
    either false = refl

-- what is kept of stays is the same after a line that leaves none
pub stays_pass : (kept : Stays) (facts : Facts) (number : ℕ) (fact : Fact) (stays : LastStays) (leaves : Leaves)
    → named_transit fact.event ≡ None → AreStays kept stays leaves number
    → AreStays kept (with_stay number (stay_of facts number fact) stays) (leaves_after fact.event leaves) (number + 1)
stays_pass kept facts number fact stays leaves p h =
    transport (λ i. AreStays kept (with_stay number (sym (none_made facts number fact p) i) stays)
    (option_map_or (λ transit. left_again transit leaves) (sym p i) leaves) (number + 1))
    (passes kept stays leaves number h)
