-- The asymmetry of two crossings is that of their ways.
use Rattle.tap_laws.proofs.Asymmetry.{shows_asymmetry}
use Rattle.tap_laws.proofs.laws.asymmetry_is_of_the_ways.Goals as goal

pub returns : goal.returns
returns c = shows_asymmetry
