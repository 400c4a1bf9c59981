use Rattle.std.proofs.Common.{◌≡◌, ◌∙◌, ◌++◌, List, ℕ, [], sym, ap, append-nil, arith}
use Rattle.std.specs.String.{string_bytes}
use Rattle.capture_extract.specs.Layout.{cell_in, cells_text, padded, side_of, width_of}
use Rattle.capture_extract.specs.Inner.Lines.{texts}
use Rattle.capture_extract.proofs.Laying.{more_cells, read}
use Rattle.capture_extract.proofs.cells.Line.push_to.Goals as goal

pub loop-column-init : goal.loop-column-init
unfolding cells_text
loop-column-init c = λ rows are. sym (append-nil _)

pub loop-column-preserved : goal.loop-column-preserved
loop-column-preserved c = λ rows are.
    let column = c.loop-column.column in
    let now : List ℕ = string_bytes c.loop-column.text in
    let cell : cell_in column (texts c.args.self.now) ≡ string_bytes c.index-self-column.result =
    read string_bytes (c.args.self.now.0) column c.index-self-column.result [] (omega arith) c.index-self-column.is in
    let shown : c.as_str.result.now ≡ cell_in column (texts c.args.self.now) = c.as_str.ensures.value ∙ sym (ap string_bytes c.index-self-column.is) ∙ sym cell in
    more_cells rows (texts c.args.self.now) column (string_bytes c.args.text.now) now (string_bytes c.push_cell.new.text) _
    (c.loop-column.invariant rows are)
    (c.in_ok-push_cell.ensures
    ∙ ap (λ (n : ℕ). now ++ padded (side_of column) n c.as_str.result.now) (are column (omega arith))
    ∙ ap (λ (t : List ℕ). now ++ padded (side_of column) (width_of column rows) t) shown)
    (c.in_ok-push_str.ensures.bytes ∙ ap (λ (t : List ℕ). string_bytes c.push_cell.new.text ++ t) c.behind.ensures)
