-- The journey of each copy is a way.
use Rattle.tap_laws.proofs.Journeys.{each_journey}
use Rattle.tap_laws.proofs.laws.each_journey_is_a_way.Goals as goal

pub returns : goal.returns
returns c = each_journey
