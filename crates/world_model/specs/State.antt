-- A world, as its callers see it: its network, and the events that happened in it.
use Rattle.std.specs.Prelude.{◌≡◌, ◌⊎◌, List, [], ◌∷◌, IsOk, Err}
use Rattle.network_model.specs.declared.event.Event.{Event}
use Rattle.network_model.specs.declared.refusal.WorldRefusal.{WorldRefusal}
use Rattle.network_model.specs.declared.refusal.WorldRefusal.TheVariants.{Memory}
use Rattle.network_model.specs.Network.{Network}
use Rattle.network_model.specs.Run.{Run}
use Rattle.network_model.specs.Outcome.{outcome_of}

-- the nodes, and the events that were accepted, newest first
pub record State : Type 0 where
  pub network : Network
  pub run : Run

-- nothing happened yet
abbrev pub new_state : Network → State
new_state network = record { network = network; run = [] }

-- one more event happened
abbrev pub after : Event → State → State
after event world = record { network = world.network; run = event ∷ world.run }

-- these events happened in turn
abbrev pub after_all : List Event → State → State
after_all [] world = world
after_all (event ∷ later) world = after_all later (after event world)

-- why an event isn't accepted: the first refusal that applies, or memory was refused to one that would be accepted
abbrev pub IsRefused : State → Event → WorldRefusal → Type 0
IsRefused world event why =
    (outcome_of world.network world.run event ≡ Err why)
    ⊎ ((why ≡ Memory) × IsOk (outcome_of world.network world.run event))
