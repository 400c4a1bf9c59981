use Rattle.std.proofs.Common.{reverse}
use Rattle.exchange_check.proofs.Reversed.{IsKept-more, verdict-kept-all, TellsSoundness-of}
use Rattle.exchange_check.proofs.Reversed.{AcceptsTruth-of, AcceptsTruth-within_one_turn}
use Rattle.exchange_check.proofs.checker.check.Goals as goal

pub loop-line-init : goal.loop-line-init
loop-line-init c = c.new-kept.ensures c.args.nodes.now

pub loop-line-preserved : goal.loop-line-preserved
loop-line-preserved c =
    IsKept-more c.args.nodes.now c.args.lines.now c.line-item.result c.step.new.self c.loop-line.line-index
    c.loop-line-test.true c.line-item.is
    (c.in_ok-step.ensures.kept c.loop-line.line-index _ c.loop-line.invariant).0

pub returns : goal.returns
returns c =
    let kept = verdict-kept-all c.args.nodes.now c.args.lines.now c.loop-line.kept _ c.loop-line.line-index
    c.loop-line-test.false c.loop-line.invariant in
    record {
      verdict = kept;
      sound = TellsSoundness-of c.args.nodes.now (reverse c.args.lines.now) _ kept;
      complete = AcceptsTruth-of c.args.nodes.now (reverse c.args.lines.now) _ kept;
      complete_within_one_turn = AcceptsTruth-within_one_turn c.args.nodes.now (reverse c.args.lines.now) _ kept;
    }
