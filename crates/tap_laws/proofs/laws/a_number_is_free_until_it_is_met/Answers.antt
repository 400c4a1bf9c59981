-- When a number has no open record.
use Rattle.tap_laws.proofs.Free.{begins_free, stays_free, told_free}
use Rattle.tap_laws.proofs.laws.a_number_is_free_until_it_is_met.Goals as goal

pub returns-clause-begins : goal.returns-clause-begins
returns-clause-begins c = begins_free

pub returns-clause-stays : goal.returns-clause-stays
returns-clause-stays c = stays_free

pub returns-clause-told : goal.returns-clause-told
returns-clause-told c = told_free
