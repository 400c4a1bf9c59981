use Rattle.std.proofs.Common.{◌≡◌, ◌++◌, ℕ, List}
use Rattle.std.specs.String.{string_bytes}
use Rattle.capture_extract.specs.Layout.{cells_text}
use Rattle.capture_extract.specs.Inner.Lines.{AreWidths, texts}
use Rattle.capture_extract.proofs.cells.Line.push_to.Given as goal

-- the cells so far stand there
abbrev pub invariant-loop-column : goal.invariant-loop-column
invariant-loop-column l = (rows : List (List (List ℕ))) → AreWidths rows l.widths
    → string_bytes l.text ≡ string_bytes l.initial.text ++ cells_text l.column rows (texts l.self)
