use Rattle.std.proofs.Common.{◌≡◌, drop}
use Rattle.explain_story.specs.Counts.{stands}
use Rattle.explain_story.proofs.tally.stands.Given as goal

-- the reason is among all where it is among those that are left
abbrev pub invariant-loop-why : goal.invariant-loop-why
invariant-loop-why l = stands l.reason (drop l.why-index l.whys) ≡ stands l.reason l.whys
