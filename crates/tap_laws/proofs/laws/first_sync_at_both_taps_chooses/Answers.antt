-- The first Sync that was met at both taps tells `from`.
use Rattle.tap_laws.proofs.Choices.{tells_whom, chooses_first, chooses_once}
use Rattle.tap_laws.proofs.laws.first_sync_at_both_taps_chooses.Goals as goal

pub returns-clause-whom : goal.returns-clause-whom
returns-clause-whom c = tells_whom

pub returns-clause-from : goal.returns-clause-from
returns-clause-from c = chooses_first

pub returns-clause-some : goal.returns-clause-some
returns-clause-some c = chooses_once
