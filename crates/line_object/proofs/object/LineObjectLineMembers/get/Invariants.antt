use Rattle.std.proofs.Common.{◌≡◌, drop}
use Rattle.line_object.specs.Inner.Found.{value_of}
use Rattle.line_object.proofs.object.LineObjectLineMembers.get.Given as goal

abbrev pub invariant-loop-member : goal.invariant-loop-member
invariant-loop-member l = value_of l.key l.member-items ≡ value_of l.key (drop l.member-index l.member-items)
