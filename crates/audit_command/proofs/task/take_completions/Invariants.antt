use Rattle.std.proofs.Common.{reverse, take}
use Rattle.result_audit.specs.Auditor.{auditing_of}
use Rattle.audit_command.specs.Audit.{TakesAll}
use Rattle.audit_command.proofs.task.take_completions.Given as goal

-- those so far are taken
abbrev pub invariant-loop-completion : goal.invariant-loop-completion
invariant-loop-completion l = TakesAll (reverse (take l.completion-index l.fn.completions)) (auditing_of l.fn.auditor) (auditing_of l.auditor)
