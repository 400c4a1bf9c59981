-- The lines of a table are those of its rows.
use Rattle.std.proofs.Common.{◌≡◌, ◌∙◌, ℕ, List, [], ◌∷◌, ◌++◌, map, refl, sym, ap, subst, append_assoc, append-nil}
use Rattle.capture_file.specs.Packet.{InterfaceOf}
use Rattle.capture_extract.specs.declared.header.Listed.{Listed}
use Rattle.capture_extract.specs.declared.row.Row.{Row}
use Rattle.capture_extract.specs.declared.row.RowKey.{RowKey}
use Rattle.capture_extract.specs.Cells.{row_cells}
use Rattle.capture_extract.specs.Labels.{interface_at}
use Rattle.capture_extract.specs.Row.{IsRow}
use Rattle.capture_extract.specs.Text.{AreLines, IsLine}
use Rattle.capture_extract.specs.Inner.Lines.{AreCells, AreCellsOf}
use Rattle.capture_extract.specs.Inner.Rows.{AreRows}

-- ---- rows in memory, and those of messages
one_line : (interfaces : List InterfaceOf) (g : RowKey × List Listed) (e : RowKey × Row) (cells : List (List ℕ)) → g.0 ≡ e.0
    → IsRow g.1 e.1 → AreCells (interface_at interfaces (e.0).interface) e.0 e.1 cells → IsLine interfaces g cells
one_line interfaces g e cells same is cell = record {
  row = e.1;
  is_row = is;
  mean = cell.mean;
  is_mean = cell.is_mean;
  are = cell.are ∙ ap (λ (k : RowKey). row_cells (interface_at interfaces k.interface) cell.mean k e.1) (sym same);
}

pub all_lines : (interfaces : List InterfaceOf) (groups : List (RowKey × List Listed)) (rows : List (RowKey × Row))
    (lines : List (List (List ℕ))) → AreRows groups rows → AreCellsOf interfaces rows lines → AreLines interfaces groups lines
all_lines interfaces [] [] [] are cells = tt
all_lines interfaces [] [] (l ∷ lines) are cells = absurd cells
all_lines interfaces [] (e ∷ rows) lines are cells = absurd are
all_lines interfaces (g ∷ groups) [] lines are cells = absurd are
all_lines interfaces (g ∷ groups) (e ∷ rows) [] are cells = absurd cells
all_lines interfaces (g ∷ groups) (e ∷ rows) (l ∷ lines) (same, is, rest) (cell, others) =
    (one_line interfaces g e l same is cell, all_lines interfaces groups rows lines rest others)

pub same_keys : (groups : List (RowKey × List Listed)) (rows : List (RowKey × Row)) → AreRows groups rows
    → map (λ (e : RowKey × Row). e.0) rows ≡ map (λ (g : RowKey × List Listed). g.0) groups
same_keys [] [] are = refl
same_keys [] (e ∷ rows) are = absurd are
same_keys (g ∷ groups) [] are = absurd are
same_keys (g ∷ groups) (e ∷ rows) (same, is, rest) =
    ap (λ (k : RowKey). k ∷ map (λ (o : RowKey × Row). o.0) rows) (sym same)
    ∙ ap (λ (ks : List RowKey). g.0 ∷ ks) (same_keys groups rows rest)

-- ---- lines so far
pub at_end : (interfaces : List InterfaceOf) (rows left : List (RowKey × Row)) (lines : List (List (List ℕ))) → left ≡ []
    → ((others : List (List (List ℕ))) → AreCellsOf interfaces left others → AreCellsOf interfaces rows (lines ++ others))
    → AreCellsOf interfaces rows lines
at_end interfaces rows left lines none so_far =
    subst (λ (all : List (List (List ℕ))). AreCellsOf interfaces rows all) (append-nil lines)
    (so_far [] (subst (λ (others : List (RowKey × Row)). AreCellsOf interfaces others []) (sym none) tt))

pub one_more : (interfaces : List InterfaceOf) (rows left behind : List (RowKey × Row)) (lines : List (List (List ℕ))) (e : RowKey × Row)
    (cells : List (List ℕ)) → left ≡ e ∷ behind → AreCells (interface_at interfaces (e.0).interface) e.0 e.1 cells
    → ((others : List (List (List ℕ))) → AreCellsOf interfaces left others → AreCellsOf interfaces rows (lines ++ others))
    → (others : List (List (List ℕ))) → AreCellsOf interfaces behind others
    → AreCellsOf interfaces rows ((lines ++ cells ∷ []) ++ others)
one_more interfaces rows left behind lines e cells is cell so_far others are =
    subst (λ (all : List (List (List ℕ))). AreCellsOf interfaces rows all) (sym (append_assoc lines (cells ∷ []) others))
    (so_far (cells ∷ others)
    (subst (λ (all : List (RowKey × Row)). AreCellsOf interfaces all (cells ∷ others)) (sym is) (cell, are)))
