-- The last of what crossings have, once there is one more.
use Rattle.std.proofs.Common.{◌≡◌, ◌∷◌, List, ℤ, map, subst}
use Rattle.tap_crossing.specs.declared.crossing.Crossing.{Crossing}
use Rattle.statistics.specs.declared.recent.Recent.{Recent}
use Rattle.statistics.specs.Median.{IsRecent}

pub had : (of : Crossing → ℤ) (x : Crossing) (earlier : List Crossing) (value : ℤ) (new : Recent) → value ≡ of x
    → IsRecent (value ∷ map of earlier) new → IsRecent (map of (x ∷ earlier)) new
had of x earlier value new same is = subst (λ (it : ℤ). IsRecent (it ∷ map of earlier) new) same is
