use Rattle.std.proofs.Common.{◌≡◌, drop}
use Rattle.line_object.specs.Inner.Apart.{is_free}
use Rattle.line_object.proofs.object.is_free.Given as goal

abbrev pub invariant-loop-member : goal.invariant-loop-member
invariant-loop-member l = is_free l.key l.members ≡ is_free l.key (drop l.member-index l.members)
