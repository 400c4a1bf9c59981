use Rattle.std.proofs.Common.{◌≡◌, take}
use Rattle.result_audit.specs.Course.{known_of}
use Rattle.result_audit.proofs.course.known_of.Given as goal

-- those of the delays so far
abbrev pub invariant-loop-delay : goal.invariant-loop-delay
invariant-loop-delay l = record { known : l.known.items ≡ known_of (take l.delay-index l.fn.delays) }
