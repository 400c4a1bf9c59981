-- A table after one more message.
use Rattle.std.proofs.Common.{◌≡◌, ◌∙◌, ℕ, ◌<◌, ◌≤◌, length, Bool, true, false, cond, List, [], ◌∷◌, Option, Some, None, sym, ap, subst, arith}
use Rattle.std.specs.BTreeMap.{insert_entry, is_at}
use Rattle.std.specs.Map.{set_value}
use Rattle.std.proofs.lemmas.Bool.Decides.{nat_tests}
use Rattle.capture_file.specs.Packet.{InterfaceOf}
use Rattle.capture_extract.specs.declared.header.Listed.{Listed}
use Rattle.capture_extract.specs.declared.row.Row.{Row}
use Rattle.capture_extract.specs.declared.row.RowKey.{RowKey}
use Rattle.capture_extract.specs.declared.table.Table.{Table}
use Rattle.capture_extract.specs.Row.{IsRow}
use Rattle.capture_extract.specs.Table.{TableOf, counted, counted_by, group_of, has_room, index_for, index_of, index_or_next, key_order, met, met_by, passed}
use Rattle.capture_extract.specs.Inner.Rows.{AreInterfaces, AreRows, IsTable}
use Rattle.capture_extract.proofs.Rows.{inserted, set}

-- what a message leaves of a table beside its rows
pub record Keeps (table later : Table) : Type 0 where
  pub interfaces : later.interfaces ≡ table.interfaces
  pub further : later.further ≡ table.further
  pub other_version : later.other_version ≡ table.other_version
  pub too_short : later.too_short ≡ table.too_short

with_groups : (t : TableOf) (table later : Table) (groups : List (RowKey × List Listed)) → IsTable t table → Keeps table later
    → AreRows groups later.rows.entries → IsTable (record t { groups = groups }) later
with_groups t table later groups h keeps rows = record {
  interfaces = subst (AreInterfaces t.interfaces) (sym keeps.interfaces) h.interfaces;
  rows = rows;
  further = keeps.further ∙ h.further;
  other_version = keeps.other_version ∙ h.other_version;
  too_short = keeps.too_short ∙ h.too_short;
}

-- one more of its row
pub one_more : (t : TableOf) (table later : Table) (key : RowKey) (m : Listed) (ms : List Listed) (row : Row)
    → group_of key t ≡ Some ms → IsTable t table → Keeps table later
    → later.rows.entries ≡ set_value (is_at (key_order key)) table.rows.entries row → IsRow (m ∷ ms) row
    → IsTable (counted key m t) later
one_more t table later key m ms row of h keeps entries is =
    let groups : List (RowKey × List Listed) = set_value (is_at (key_order key)) t.groups (m ∷ ms) in
    let rows : AreRows groups later.rows.entries =
    subst (AreRows groups) (sym entries) (set (is_at (key_order key)) t.groups table.rows.entries h.rows (m ∷ ms) row is) in
    subst (λ (o : Option (List Listed)). IsTable (counted_by o key m t) later) (sym of) (with_groups t table later groups h keeps rows)

-- one that makes its row
pub first_one : (t : TableOf) (table later : Table) (key : RowKey) (m : Listed) (row : Row)
    → group_of key t ≡ None → has_room t ≡ true → IsTable t table → Keeps table later
    → later.rows.entries ≡ insert_entry key_order table.rows.entries key row → IsRow (m ∷ []) row
    → IsTable (counted key m t) later
first_one t table later key m row none room h keeps entries is =
    let groups : List (RowKey × List Listed) = insert_entry key_order t.groups key (m ∷ []) in
    let rows : AreRows groups later.rows.entries =
    subst (AreRows groups) (sym entries) (inserted key_order t.groups table.rows.entries h.rows key (m ∷ []) row is) in
    let made : IsTable (record t { groups = groups }) later = with_groups t table later groups h keeps rows in
    let chosen : IsTable (cond (has_room t) (record t { groups = groups }) (passed t)) later =
    subst (λ (b : Bool). IsTable (cond b (record t { groups = groups }) (passed t)) later) (sym room) made in
    subst (λ (o : Option (List Listed)). IsTable (counted_by o key m t) later) (sym none) chosen

-- one of a further row
pub one_passed : (t : TableOf) (later : Table) (key : RowKey) (m : Listed) → group_of key t ≡ None → has_room t ≡ false
    → IsTable (passed t) later → IsTable (counted key m t) later
one_passed t later key m none room h =
    let groups : List (RowKey × List Listed) = insert_entry key_order t.groups key (m ∷ []) in
    let chosen : IsTable (cond (has_room t) (record t { groups = groups }) (passed t)) later =
    subst (λ (b : Bool). IsTable (cond b (record t { groups = groups }) (passed t)) later) (sym room) h in
    subst (λ (o : Option (List Listed)). IsTable (counted_by o key m t) later) (sym none) chosen

-- the interface of a message is a new one, and there is room for its row
pub new_interface : (t : TableOf) (later : Table) (i : InterfaceOf) (index : ℕ) → index_of i t.interfaces ≡ None → has_room t ≡ true
    → index ≡ length t.interfaces → IsTable (record t { interfaces = i ∷ t.interfaces }) later
    → (Some index ≡ index_for i t) × IsTable (met i t) later
new_interface t later i index none room is h =
    let next : Option ℕ = Some (length t.interfaces) in
    let index_is : next ≡ index_for i t =
    ap (λ (b : Bool). cond b next None) (sym room) ∙ ap (λ (o : Option ℕ). index_or_next o t) (sym none) in
    let added : TableOf = record t { interfaces = i ∷ t.interfaces } in
    let chosen : IsTable (cond (has_room t) added t) later = subst (λ (b : Bool). IsTable (cond b added t) later) (sym room) h in
    (ap Some is ∙ index_is, subst (λ (o : Option ℕ). IsTable (met_by o i t) later) (sym none) chosen)

-- or there is none
pub no_interface : (t : TableOf) (later : Table) (i : InterfaceOf) → index_of i t.interfaces ≡ None → has_room t ≡ false
    → IsTable t later → (None ≡ index_for i t) × IsTable (met i t) later
no_interface t later i none room h =
    let index_is : None ≡ index_for i t =
    ap (λ (b : Bool). cond b (Some (length t.interfaces)) None) (sym room) ∙ ap (λ (o : Option ℕ). index_or_next o t) (sym none) in
    let added : TableOf = record t { interfaces = i ∷ t.interfaces } in
    let chosen : IsTable (cond (has_room t) added t) later = subst (λ (b : Bool). IsTable (cond b added t) later) (sym room) h in
    (index_is, subst (λ (o : Option ℕ). IsTable (met_by o i t) later) (sym none) chosen)

pub full : (t : TableOf) (count : ℕ) → count ≡ length t.groups → 1024 ≤ count → has_room t ≡ false
full t count is above = grind (arith, nat_tests)

pub not_full : (t : TableOf) (count : ℕ) → count ≡ length t.groups → count < 1024 → has_room t ≡ true
not_full t count is below = grind (arith, nat_tests)
