use Rattle.std.proofs.Common.{map, arith}
use Rattle.capture_extract.specs.Inner.Lines.{texts}
use Rattle.capture_extract.proofs.Laying.{more_lines}
use Rattle.capture_extract.proofs.cells.push_lines.Goals as goal

pub loop-line-preserved : goal.loop-line-preserved
loop-line-preserved c =
    let rows = map texts c.args.lines.now in
    more_lines rows c.args.lines.now c.loop-line.line-index c.line-item.result _ _ _ (omega arith) c.line-item.is
    c.loop-line.invariant (c.in_ok-push_to.ensures rows c.widths-widths.ensures)
