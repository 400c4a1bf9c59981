use Rattle.ptp_units.proofs.ExactDecimals.{shows_exactly}
use Rattle.ptp_units.proofs.laws.nanoseconds_are_exact.Goals as goal

pub returns : goal.returns
returns c = shows_exactly
