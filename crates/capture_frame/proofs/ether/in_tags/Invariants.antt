use Rattle.std.proofs.Common.{length}
use Rattle.capture_frame.specs.Tags.{IsTagged}
use Rattle.capture_frame.proofs.Only.{IsSame}
use Rattle.capture_frame.proofs.ether.in_tags.Given as goal

-- what the rest carries, the whole does
abbrev pub invariant-loop-size : goal.invariant-loop-size
invariant-loop-size l = IsSame (IsTagged l.kind l.rest) (IsTagged l.first l.octets)

abbrev pub decreases-loop-size : goal.decreases-loop-size
decreases-loop-size l = length l.rest
