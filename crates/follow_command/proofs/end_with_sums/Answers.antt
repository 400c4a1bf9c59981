use Rattle.follow_command.proofs.end_with_sums.Goals as goal

pub returns-then-are_asked : goal.returns-then-are_asked
returns-then-are_asked g c = rw c.if-are_asked.true c.finish_sums.ensures
