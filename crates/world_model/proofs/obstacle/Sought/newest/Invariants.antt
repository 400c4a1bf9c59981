use Rattle.std.proofs.Common.{◌≡◌, take, reverse, option_map}
use Rattle.world_model.specs.Obstacle.{newest}
use Rattle.world_model.specs.Inner.Sought.{numbered, sought}
use Rattle.world_model.proofs.obstacle.Sought.newest.Given as goal

abbrev pub invariant-loop-number : goal.invariant-loop-number
invariant-loop-number l = l.found ≡ option_map numbered (newest (sought l.self) (reverse (take l.number l.events)))
