use Rattle.std.proofs.Common.{length}
use Rattle.text_lines.specs.Counted.{device_of, HasNotFailed}
use Rattle.result_audit.specs.Auditor.{auditing_of}
use Rattle.audit_command.specs.Inner.Task.{Goes, SaidSoFar}
use Rattle.audit_command.proofs.task.AuditTask.write_answers.Given as goal

-- some of what may be said went out
abbrev pub invariant-loop-answer : goal.invariant-loop-answer
invariant-loop-answer g l = record {
  said : Goes SaidSoFar l.fn.self l.self (g.W.Write.contents (device_of l.fn.output)) (g.W.Write.contents (device_of l.output));
  writer : HasNotFailed l.fn.output l.output;
}

abbrev pub decreases-loop-answer : goal.decreases-loop-answer
decreases-loop-answer g l = length (auditing_of l.self.auditor).held
