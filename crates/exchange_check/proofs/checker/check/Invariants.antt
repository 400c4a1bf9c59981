use Rattle.std.proofs.Common.{reverse, take}
use Rattle.exchange_check.specs.Inner.Machine.{IsKept, machine}
use Rattle.exchange_check.proofs.checker.check.Given as goal

abbrev pub invariant-loop-line : goal.invariant-loop-line
invariant-loop-line l = IsKept l.nodes l.kept l.line-index (machine l.nodes (reverse (take l.line-index l.lines)))
