use Rattle.std.proofs.Common.{◌≡◌, ◌++◌, ◌∷◌, ℕ, List, map}
use Rattle.capture_extract.specs.Layout.{heads}
use Rattle.capture_extract.specs.Table.{TableOf}
use Rattle.capture_extract.specs.Inner.Lines.{AreCellsOf, texts}
use Rattle.capture_extract.specs.Inner.Rows.{IsTable}
use Rattle.capture_extract.proofs.table.Table.lines.Given as goal

-- the head and the rows so far stand there: with the lines of the others they are those of all
abbrev pub invariant-loop-key : goal.invariant-loop-key
invariant-loop-key l = (t : TableOf) → IsTable t l.self → (lines : List (List (List ℕ))) × (map texts l.lines.items ≡ heads ∷ lines)
    × ((others : List (List (List ℕ))) → AreCellsOf t.interfaces l.key-iterator others
    → AreCellsOf t.interfaces l.self.rows.entries (lines ++ others))
