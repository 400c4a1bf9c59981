use Rattle.std.proofs.Common.{arith}
use Rattle.explain_story.specs.Counts.{told_reasons}
use Rattle.explain_story.specs.Inner.Tally.{failing_in}
use Rattle.explain_story.proofs.Counted.{lines_done, lines_left}
use Rattle.explain_story.proofs.tally.Tally.push_failing.Goals as goal

pub loop-why-preserved : goal.loop-why-preserved
loop-why-preserved c =
    lines_left (failing_in c.args.self.now.failing) told_reasons c.loop-why.why-index _ _ _ _ (omega arith)
    (rw c.of.ensures at c.in_ok-push_reason.ensures) c.loop-why.invariant

pub returns : goal.returns
returns c =
    lines_done (failing_in c.args.self.now.failing) told_reasons c.loop-why.why-index _ _ (omega arith) c.loop-why.invariant
