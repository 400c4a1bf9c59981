use Rattle.std.proofs.Common.{◌≡◌, ◌++◌, take}
use Rattle.result_audit.proofs.course.without_newest.Given as goal

-- the mark, if there is one, and the delays so far
abbrev pub invariant-loop-delay : goal.invariant-loop-delay
invariant-loop-delay l = record { left : l.left.items ≡ l.initial.left.items ++ take l.delay-index l.delay-items }
