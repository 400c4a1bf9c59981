use Rattle.std.proofs.Common.{◌≡◌, ◌<◌, ℕ, length, map, slice_index}
use Rattle.capture_extract.specs.Layout.{width_of}
use Rattle.capture_extract.specs.Inner.Lines.{texts}
use Rattle.capture_extract.proofs.cells.widths.Given as goal

-- those of the columns so far are there
abbrev pub invariant-loop-column : goal.invariant-loop-column
invariant-loop-column l =
    (length l.widths ≡ 16) × ((k : ℕ) → k < l.column → slice_index l.widths k ≡ width_of k (map texts l.lines))
