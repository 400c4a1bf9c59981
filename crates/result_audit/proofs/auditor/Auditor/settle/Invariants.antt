use Rattle.std.proofs.Common.{◌≡◌, length}
use Rattle.result_audit.specs.Auditor.{auditing_of, settled}
use Rattle.result_audit.proofs.auditor.Auditor.settle.Given as goal

-- what is left comes to the same
abbrev pub invariant-loop-told : goal.invariant-loop-told
invariant-loop-told l = settled (auditing_of l.self) ≡ settled (auditing_of l.fn.self)

abbrev pub decreases-loop-told : goal.decreases-loop-told
decreases-loop-told l = length l.self.awaiting.items
