use Rattle.std.proofs.Common.{append_assoc}
use Rattle.std.proofs.Output.{has_written_of_eq}
use Rattle.audit_command.specs.Words.{worst_text}
use Rattle.audit_command.proofs.ending.WorstTextDisplay.fmt.Goals as goal

pub returns-in-Some-clause-writes : goal.returns-in-Some-clause-writes
unfolding worst_text
returns-in-Some-clause-writes g c = λ plain ok.
    has_written_of_eq _ _ _ _ _ (rw c.in-Some.is (simp append_assoc)) (c.write.ensures.writes plain ok)
