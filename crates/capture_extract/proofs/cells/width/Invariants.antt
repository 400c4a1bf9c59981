use Rattle.std.proofs.Common.{◌≡◌, drop, map}
use Rattle.std.specs.Prelude.{max}
use Rattle.capture_extract.specs.Layout.{width_of}
use Rattle.capture_extract.specs.Inner.Lines.{texts}
use Rattle.capture_extract.proofs.cells.width.Given as goal

-- that of the lines so far, and that of the others
abbrev pub invariant-loop-line : goal.invariant-loop-line
invariant-loop-line l =
    max l.width (width_of l.column (map texts (drop l.line-index l.lines))) ≡ width_of l.column (map texts l.lines)
