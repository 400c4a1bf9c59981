-- One more cell, and one more line.
use Rattle.std.proofs.Common.{◌≡◌, ◌∙◌, ℕ, ◌+◌, ◌<◌, List, [], ◌∷◌, ◌++◌, map, length, get_or, take, sym, ap, append_assoc, add-one, arith}
use Rattle.std.specs.Prelude.{flat_map}
use Rattle.std.proofs.lemmas.List.{flat_map_more, get_or-map, length-map, take_more}
use Rattle.capture_extract.specs.declared.cells.Line.{Line}
use Rattle.capture_extract.specs.Layout.{behind, cell_in, cells_text, line_text, padded, side_of, width_of}
use Rattle.capture_extract.specs.Inner.Lines.{texts}

-- what is read of a list, seen through a function
pub read : {A B : Type 0} (f : A → B) (xs : List A) (i : ℕ) (x : A) (d : B) → i < length xs → x ≡ get_or xs i x → get_or (map f xs) i d ≡ f x
read f xs i x d within is = get_or-map f xs i x d within ∙ ap f (sym is)

-- ---- cells of a line
one_cell : (rows : List (List (List ℕ))) (row : List (List ℕ)) (column : ℕ) → cells_text (column + 1) rows row
    ≡ cells_text column rows row ++ (padded (side_of column) (width_of column rows) (cell_in column row) ++ behind column)
unfolding cells_text
one_cell rows row column = ap (λ (n : ℕ). cells_text n rows row) (add-one column)

pub more_cells : (rows : List (List (List ℕ))) (row : List (List ℕ)) (column : ℕ) (before now between later : List ℕ)
    → now ≡ before ++ cells_text column rows row
    → between ≡ now ++ padded (side_of column) (width_of column rows) (cell_in column row)
    → later ≡ between ++ behind column → later ≡ before ++ cells_text (column + 1) rows row
more_cells rows row column before now between later so_far cell more =
    let shown = padded (side_of column) (width_of column rows) (cell_in column row) in
    let cells = cells_text column rows row in
    more ∙ ap (λ (t : List ℕ). t ++ behind column) (cell ∙ ap (λ (t : List ℕ). t ++ shown) so_far)
    ∙ append_assoc (before ++ cells) shown (behind column)
    ∙ append_assoc before cells (shown ++ behind column)
    ∙ ap (λ (t : List ℕ). before ++ t) (sym (one_cell rows row column))

-- ---- lines
pub more_lines : (rows : List (List (List ℕ))) (lines : List Line) (i : ℕ) (line : Line) (before now later : List ℕ) → i < length lines
    → line ≡ get_or lines i line → now ≡ before ++ flat_map (line_text rows) (take i (map texts lines))
    → later ≡ now ++ line_text rows (texts line) → later ≡ before ++ flat_map (line_text rows) (take (i + 1) (map texts lines))
more_lines rows lines i line before now later within is so_far more =
    let all : List (List (List ℕ)) = map texts lines in
    let at : take (i + 1) all ≡ take i all ++ texts line ∷ [] =
    take_more all i (texts line) (omega (arith, length-map lines texts))
    ∙ ap (λ (x : List (List ℕ)). take i all ++ x ∷ []) (read texts lines i line (texts line) within is) in
    more ∙ ap (λ (t : List ℕ). t ++ line_text rows (texts line)) so_far
    ∙ flat_map_more (line_text rows) before (take i all) (texts line)
    ∙ ap (λ (ls : List (List (List ℕ))). before ++ flat_map (line_text rows) ls) (sym at)
