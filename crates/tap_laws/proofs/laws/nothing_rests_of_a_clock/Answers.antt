-- A clock tells what it did.
use Rattle.tap_laws.proofs.Lines.{a_clock_tells}
use Rattle.tap_laws.proofs.Resting.{nothing_rests}
use Rattle.tap_laws.proofs.laws.nothing_rests_of_a_clock.Goals as goal

pub returns-clause-one : goal.returns-clause-one
returns-clause-one c = nothing_rests

pub returns-clause-lines : goal.returns-clause-lines
returns-clause-lines c = a_clock_tells
