-- What a table holds in memory.
use Rattle.std.specs.Prelude.{◌≡◌, ℕ, ⊤, List, [], ◌∷◌, reverse, map, Some, None, option_map}
use Rattle.std.specs.BTreeMap.{get, get_by}
use Rattle.std.specs.Cmp.Lexicographic.{slice_cmp}
use Rattle.std.specs.Ordering.{nat_cmp}
use Rattle.capture_file.specs.Packet.{InterfaceOf}
use Rattle.statistics.specs.Wide.{at_most}
use Rattle.capture_extract.specs.declared.header.Listed.{Listed}
use Rattle.capture_extract.specs.declared.interfaces.Label.{Label}
use Rattle.capture_extract.specs.declared.interfaces.Interfaces.{Interfaces}
use Rattle.capture_extract.specs.declared.row.Row.{Row}
use Rattle.capture_extract.specs.declared.row.RowKey.{RowKey}
use Rattle.capture_extract.specs.declared.table.Table.{Table}
use Rattle.capture_extract.specs.Row.{IsRow}
use Rattle.capture_extract.specs.Table.{TableOf, index_of}

-- the interface that is called so
abbrev pub label_of : Label → InterfaceOf
label_of label = record { place = label.number; name = option_map (λ name. name.items) label.name }

-- at which index each interface stands that has a name of its own, and each that has none
abbrev pub AreNamed : List InterfaceOf → Interfaces → Type 0
AreNamed met i = (place : ℕ) (name : List ℕ) → get_by (λ k. slice_cmp nat_cmp name k.items) i.named
    ≡ index_of (record { place = place; name = Some name }) met

abbrev pub AreNameless : List InterfaceOf → Interfaces → Type 0
AreNameless met i = (place : ℕ) → get nat_cmp i.nameless place ≡ index_of (record { place = place; name = None }) met

-- these interfaces were met
pub record AreInterfaces (met : List InterfaceOf) (i : Interfaces) : Type 0 where
  pub labels : map label_of i.met.items ≡ reverse met
  pub named : AreNamed met i
  pub nameless : AreNameless met i

-- these rows are of these messages, row by row
abbrev pub AreRows : List (RowKey × List Listed) → List (RowKey × Row) → Type 0
AreRows [] [] = ⊤
AreRows (g ∷ groups) (row ∷ rows) = (g.0 ≡ row.0) × IsRow g.1 row.1 × AreRows groups rows
AreRows _ _ = ⊥

-- this table is held
pub record IsTable (t : TableOf) (table : Table) : Type 0 where
  pub interfaces : AreInterfaces t.interfaces table.interfaces
  pub rows : AreRows t.groups table.rows.entries
  pub further : table.further ≡ at_most t.further
  pub other_version : table.other_version ≡ at_most t.other_version
  pub too_short : table.too_short ≡ at_most t.too_short
