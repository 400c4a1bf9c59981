-- How the cells of a table stand: in columns, a line for each row.
use Rattle.std.specs.Prelude.{ℕ, zero, suc, ◌+◌, ◌-◌, ◌==◌, max, if◌then◌else◌}
use Rattle.std.specs.Prelude.{List, [], ◌∷◌, ◌++◌, length, replicate, flat_map, slice_index_or, codes}
use Rattle.capture_extract.specs.declared.cells.Side.{Side}
use Rattle.capture_extract.specs.declared.cells.Side.TheVariants.{Left, Right}

-- the head of each column
abbrev pub heads : List (List ℕ)
heads =
    codes "interface" ∷ codes "stream" ∷ codes "domain" ∷ codes "source" ∷ codes "requesting" ∷ codes "message" ∷ codes "count"
    ∷ codes "lost" ∷ codes "interval" ∷ codes "one-step" ∷ codes "two-step" ∷ codes "version" ∷ codes "first" ∷ codes "last"
    ∷ codes "correction ns" ∷ codes "up to ns" ∷ []

abbrev pub columns_count : ℕ
columns_count = 16

-- at which side of each column its cells stand: numbers at the right
abbrev pub sides : List Side
sides =
    Left ∷ Left ∷ Right ∷ Left ∷ Left ∷ Left ∷ Right ∷ Right ∷ Right ∷ Right ∷ Right ∷ Left ∷ Right ∷ Right ∷ Right ∷ Right ∷ []

abbrev pub side_of : (column : ℕ) → Side
side_of column = slice_index_or sides column Left

-- so many blanks
abbrev pub blanks : (count : ℕ) → List ℕ
blanks count = replicate count 32

-- a cell at a side of a column of this width
abbrev pub padded : Side → (width : ℕ) → (cell : List ℕ) → List ℕ
padded Left width cell = cell ++ blanks (width - length cell)
padded Right width cell = blanks (width - length cell) ++ cell

-- the cell of a row in a column
abbrev pub cell_in : (column : ℕ) → (row : List (List ℕ)) → List ℕ
cell_in column row = slice_index_or row column []

-- a column is as wide as the longest of its cells
abbrev pub width_of : (column : ℕ) → (rows : List (List (List ℕ))) → ℕ
width_of column [] = 0
width_of column (row ∷ rows) = max (length (cell_in column row)) (width_of column rows)

-- two blanks stand behind a cell, and LF behind the last of a line
abbrev pub behind : (column : ℕ) → List ℕ
behind column = if column + 1 == columns_count then codes "\n" else codes "  "

-- so many cells of a row, from the left, in columns that have the cells of these rows
unfoldable pub cells_text : (count : ℕ) → (rows : List (List (List ℕ))) → (row : List (List ℕ)) → List ℕ
cells_text zero rows row = []
cells_text (suc column) rows row =
    cells_text column rows row ++ (padded (side_of column) (width_of column rows) (cell_in column row) ++ behind column)

abbrev pub line_text : (rows : List (List (List ℕ))) → (row : List (List ℕ)) → List ℕ
line_text rows row = cells_text columns_count rows row

-- the rows, a line each
abbrev pub layout_text : (rows : List (List (List ℕ))) → List ℕ
layout_text rows = flat_map (line_text rows) rows
