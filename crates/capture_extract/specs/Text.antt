-- The text of a table.
use Rattle.std.specs.Prelude.{◌≡◌, ⊤, ℕ, ◌==◌, if◌then◌else◌, List, [], ◌∷◌, ◌++◌, map, codes, Option, MatchOption}
use Rattle.std.specs.Fmt.{decimal}
use Rattle.capture_file.specs.Packet.{InterfaceOf}
use Rattle.statistics.specs.declared.rounded.Signed.{Signed}
use Rattle.statistics.specs.Mean.{HasNoMean, IsMean}
use Rattle.statistics.specs.Wide.{at_most}
use Rattle.capture_extract.specs.declared.header.Listed.{Listed}
use Rattle.capture_extract.specs.declared.row.RowKey.{RowKey}
use Rattle.capture_extract.specs.declared.row.Row.{Row}
use Rattle.capture_extract.specs.Calls.{calls_of, calls_text}
use Rattle.capture_extract.specs.Cells.{row_cells}
use Rattle.capture_extract.specs.Labels.{interface_at}
use Rattle.capture_extract.specs.Layout.{heads, layout_text}
use Rattle.capture_extract.specs.Row.{IsRow}
use Rattle.capture_extract.specs.Table.{TableOf, rows_limit}

-- so many of something, by its names for one and for others
abbrev pub quantity_text : (count : ℕ) → (one others : List ℕ) → List ℕ
quantity_text count one others = decimal count ++ codes " " ++ (if count == 1 then one else others)

-- a sentence that says so, where there are any
abbrev pub any_text : (count : ℕ) → (one others what : List ℕ) → List ℕ
any_text count one others what = if count == 0 then [] else quantity_text count one others ++ what ++ codes "\n"

-- messages of further rows than there is room for
abbrev pub further_text : (count : ℕ) → List ℕ
further_text count =
    any_text count (codes "message") (codes "messages")
    (codes " of further rows: the table has " ++ (decimal rows_limit ++ codes " at most"))

abbrev pub datagrams_text : (count : ℕ) → (what : List ℕ) → List ℕ
datagrams_text count what = any_text (at_most count) (codes "datagram") (codes "datagrams") what

-- what isn't in the table
abbrev pub others_text : TableOf → List ℕ
others_text t =
    further_text (at_most t.further)
    ++ datagrams_text t.other_version (codes " of another version than 2")
    ++ datagrams_text t.too_short (codes " too short for a message")

-- the cells of a row: `row` is that of its messages, and their intervals have this mean, or none
pub record IsLine (interfaces : List InterfaceOf) (group : RowKey × List Listed) (cells : List (List ℕ)) : Type 0 where
  pub row : Row
  pub is_row : IsRow group.1 row
  pub mean : Option Signed
  pub is_mean : MatchOption mean (HasNoMean row.flow.intervals) (IsMean row.flow.intervals)
  pub are : cells ≡ row_cells (interface_at interfaces (group.0).interface) mean group.0 row

-- those of each row, in the order of the rows
abbrev pub AreLines : List InterfaceOf → List (RowKey × List Listed) → List (List (List ℕ)) → Type 0
AreLines interfaces [] [] = ⊤
AreLines interfaces (group ∷ groups) (cells ∷ lines) = IsLine interfaces group cells × AreLines interfaces groups lines
AreLines interfaces _ _ = ⊥

-- the head and the rows, and the calls below them
pub record ShowsLines (t : TableOf) (shown : List ℕ) : Type 0 where
  pub lines : List (List (List ℕ))
  pub are : AreLines t.interfaces t.groups lines
  pub is : shown ≡ layout_text (heads ∷ lines) ++ calls_text (calls_of t.interfaces (map (λ group. group.0) t.groups))

-- where there is no row a sentence says so
abbrev pub ShowsRows : List (RowKey × List Listed) → TableOf → List ℕ → Type 0
ShowsRows [] t shown = shown ≡ codes "there is no message of PTP version 2\n"
ShowsRows (group ∷ groups) t shown = ShowsLines t shown

-- the text of a table: its rows, and what isn't in it
pub record IsTableText (t : TableOf) (text : List ℕ) : Type 0 where
  pub shown : List ℕ
  pub rows : ShowsRows t.groups t shown
  pub is : text ≡ shown ++ others_text t
