use Rattle.measure_command.proofs.end_with_sums.Goals as goal

pub returns-then-is_asked : goal.returns-then-is_asked
returns-then-is_asked g c = rw c.if-is_asked.true c.finish_sums.ensures
