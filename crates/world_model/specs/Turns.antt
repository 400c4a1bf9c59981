-- Events that are handed to a world one after the other.
use Rattle.std.specs.Prelude.{◌≡◌, ◌⊎◌, List, [], ◌∷◌, take, slice_get, Some}
use Rattle.network_model.specs.declared.event.Event.{Event}
use Rattle.network_model.specs.declared.refusal.RunStop.{RunStop}
use Rattle.network_model.specs.declared.refusal.WorldRefusal.TheVariants.{Memory}
use Rattle.network_model.specs.declared.stepped.Stepped.{Stepped}
use Rattle.network_model.specs.Outcome.{IsStepped}
use Rattle.world_model.specs.State.{State, after, after_all, IsRefused}

-- each event has its answer, in turn
abbrev pub AnswersInTurn : State → List Event → List Stepped → Type 0
AnswersInTurn world [] [] = Unit {0}
AnswersInTurn world (event ∷ later) (stepped ∷ others) =
    IsStepped world.network world.run event stepped × AnswersInTurn (after event world) later others
AnswersInTurn world [] (stepped ∷ others) = ⊥
AnswersInTurn world (event ∷ later) [] = ⊥

-- the event after those that happened was refused
pub record IsNextRefused (events : List Event) (stop : RunStop) (new : State) : Type 0 where
  pub event : Event
  pub next : slice_get events stop.done ≡ Some event
  pub refused : IsRefused new event stop.why

-- the first `done` events happened, and the next one was refused; or memory for the answers was refused, and nothing
-- happened
pub record IsStopped (old : State) (events : List Event) (stop : RunStop) (new : State) : Type 0 where
  pub happened : new ≡ after_all (take stop.done events) old
  pub why : IsNextRefused events stop new ⊎ ((stop.done ≡ 0) × (stop.why ≡ Memory))
