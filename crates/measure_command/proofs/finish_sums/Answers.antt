use Rattle.std.proofs.Common.{Ok, Err, refl}
use Rattle.measure_command.proofs.finish_sums.Goals as goal

pub returns-in-Ok : goal.returns-in-Ok
returns-in-Ok g c = (Ok tt, refl, c.in-Ok.ensures.failures, c.in-Ok.ensures.written)

pub returns-in-Err : goal.returns-in-Err
returns-in-Err g c = (Err c.in-Err.fault, refl, c.in-Err.ensures.failures, c.in-Err.ensures.written)
