-- The lines of a table in memory.
use Rattle.std.specs.Prelude.{◌≡◌, ⊤, ℕ, ◌<◌, List, [], ◌∷◌, ◌++◌, map, slice_index, codes, Option, Some, None, option_map, MatchOption}
use Rattle.std.specs.String.{string_bytes}
use Rattle.capture_file.specs.Packet.{InterfaceOf}
use Rattle.statistics.specs.declared.rounded.Signed.{Signed}
use Rattle.statistics.specs.Mean.{HasNoMean, IsMean}
use Rattle.capture_extract.specs.declared.calls.Call.{Call}
use Rattle.capture_extract.specs.declared.cells.Line.{Line}
use Rattle.capture_extract.specs.declared.row.Row.{Row}
use Rattle.capture_extract.specs.declared.row.RowKey.{RowKey}
use Rattle.capture_extract.specs.Calls.{call_text}
use Rattle.capture_extract.specs.Cells.{row_cells}
use Rattle.capture_extract.specs.Labels.{interface_at}
use Rattle.capture_extract.specs.Layout.{columns_count, width_of}
use Rattle.capture_extract.specs.Inner.Rows.{label_of}

-- ---- rows
-- the texts of the cells of a line
abbrev pub texts : Line → List (List ℕ)
texts line = map string_bytes line.0

-- the columns of these rows are so wide
abbrev pub AreWidths : (rows : List (List (List ℕ))) → (widths : List ℕ) → Type 0
AreWidths rows widths = (column : ℕ) → column < columns_count → slice_index widths column ≡ width_of column rows

-- what a cell shows, or a dash where there is no value
abbrev pub output_or_dash : {A : Type 0} → (A → Option (List ℕ)) → Option A → Option (List ℕ)
output_or_dash output (Some value) = output value
output_or_dash output None = Some (codes "-")

-- the cells of a row at an interface
pub record AreCells (interface : Option InterfaceOf) (key : RowKey) (row : Row) (cells : List (List ℕ)) : Type 0 where
  pub mean : Option Signed
  pub is_mean : MatchOption mean (HasNoMean row.flow.intervals) (IsMean row.flow.intervals)
  pub are : cells ≡ row_cells interface mean key row

-- those of each row
abbrev pub AreCellsOf : List InterfaceOf → List (RowKey × Row) → List (List (List ℕ)) → Type 0
AreCellsOf interfaces [] [] = ⊤
AreCellsOf interfaces (row ∷ rows) (cells ∷ lines) =
    AreCells (interface_at interfaces (row.0).interface) row.0 row.1 cells × AreCellsOf interfaces rows lines
AreCellsOf interfaces _ _ = ⊥

-- ---- calls
abbrev pub shown_call : Call → List ℕ
shown_call call = call_text (option_map (λ label. label_of label.now) call.interface) call.measured call.stream

abbrev pub line_of_call : Call → List ℕ
line_of_call call = shown_call call ++ codes "\n"
