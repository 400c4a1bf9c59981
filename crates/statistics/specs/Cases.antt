-- How many are so, and which one was first. Lists have the newest in front.
use Rattle.std.specs.Prelude.{◌≡◌, List, [], ◌∷◌, length, Option, Some, None}
use Rattle.std.specs.Option.{option_or}
use Rattle.statistics.specs.declared.cases.Cases.{Cases}
use Rattle.statistics.specs.declared.series.Point.{Point}
use Rattle.statistics.specs.Wide.{at_most}

abbrev pub first_of : {A : Type 0} → List A → Option A
first_of [] = None
first_of (a ∷ earlier) = option_or (first_of earlier) (Some a)

-- these are so
pub record AreCases (points : List Point) (c : Cases) : Type 0 where
  pub count : c.count ≡ at_most (length points)
  pub first : c.first ≡ first_of points
