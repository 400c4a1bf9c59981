-- A step, as the run before and after it. The world's own functions cite this.
use Rattle.std.specs.Prelude.{◌≡◌, ◌∷◌, Result, MatchResult}
use Rattle.network_model.specs.declared.event.Event.{Event}
use Rattle.network_model.specs.declared.refusal.WorldRefusal.{WorldRefusal}
use Rattle.network_model.specs.declared.stepped.Stepped.{Stepped}
use Rattle.network_model.specs.Network.{Network}
use Rattle.network_model.specs.Run.{Run}
use Rattle.network_model.specs.Outcome.{IsStepped}
use Rattle.world_model.specs.Inner.Acts.{Refuses}

-- the event comes in front of the run, or it is refused, for memory only where there is no room, and the run stays
abbrev pub Steps : Network → Run → Event → (HasRoom : Type 0) → Result Stepped WorldRefusal → Run → Type 0
Steps network run event HasRoom result new = MatchResult result
    (λ stepped. IsStepped network run event stepped × (new ≡ event ∷ run))
    (λ why. Refuses network run event HasRoom why × (new ≡ run))
