-- Events that are answered in turn.
use Rattle.std.proofs.Common.{◌≡◌, List, [], ◌∷◌, ◌++◌, refl}
use Rattle.network_model.specs.declared.event.Event.{Event}
use Rattle.network_model.specs.declared.stepped.Stepped.{Stepped}
use Rattle.network_model.specs.Outcome.{IsStepped}
use Rattle.world_model.specs.State.{State, after, after_all}
use Rattle.world_model.specs.Turns.{AnswersInTurn}

-- one more event happens last
pub after_all-more : (events : List Event) (event : Event) (world : State) → after_all (events ++ event ∷ []) world ≡ after event (after_all events world)
after_all-more [] event world = refl
after_all-more (first ∷ later) event world = after_all-more later event (after first world)

pub AnswersInTurn-more : (events : List Event) (event : Event) (answers : List Stepped) (stepped : Stepped) (world : State)
    → AnswersInTurn world events answers → IsStepped (after_all events world).network (after_all events world).run event stepped
    → AnswersInTurn world (events ++ event ∷ []) (answers ++ stepped ∷ [])
AnswersInTurn-more [] event [] stepped world answered one = (one, tt)
AnswersInTurn-more [] event (a ∷ others) stepped world answered one = absurd answered
AnswersInTurn-more (first ∷ later) event [] stepped world answered one = absurd answered
AnswersInTurn-more (first ∷ later) event (a ∷ others) stepped world answered one =
    (answered.0, AnswersInTurn-more later event others stepped (after first world) answered.1 one)
