-- The rows in memory are those of the messages, key by key.
use Rattle.std.proofs.Common.{◌≡◌, ◌∙◌, suc, Bool, true, false, cond, List, [], ◌∷◌, length, Option, Some, None, refl, sym, ap, subst}
use Rattle.std.proofs.Common.{Less, Equal, Greater}
use Rattle.std.specs.BTreeMap.{insert_entry}
use Rattle.std.specs.Map.{lookup, set_value}
use Rattle.std.specs.Ordering.{match_ordering}
use Rattle.std.specs.declared.cmp.Ordering.{Ordering}
use Rattle.capture_extract.specs.declared.header.Listed.{Listed}
use Rattle.capture_extract.specs.declared.row.Row.{Row}
use Rattle.capture_extract.specs.declared.row.RowKey.{RowKey}
use Rattle.capture_extract.specs.Row.{IsRow}
use Rattle.capture_extract.specs.Inner.Rows.{AreRows}

-- a row is of these messages
abbrev pub IsOf : Row → Option (List Listed) → Type 0
IsOf row group = (ms : List Listed) × (group ≡ Some ms) × IsRow ms row

pub same_count : (groups : List (RowKey × List Listed)) (rows : List (RowKey × Row)) → AreRows groups rows
    → length rows ≡ length groups
same_count [] [] are = refl
same_count [] (e ∷ rows) are = absurd are
same_count (g ∷ groups) [] are = absurd are
same_count (g ∷ groups) (e ∷ rows) (same, is, rest) = ap suc (same_count groups rows rest)

found_at : (here : Bool) (ms : List Listed) (one row : Row) (others : Option Row) (group : Option (List Listed)) → IsRow ms one
    → (others ≡ Some row → IsOf row group) → cond here (Some one) others ≡ Some row → IsOf row (cond here (Some ms) group)
found_at true ms one row others group is rest h =
    let same : one ≡ row = cc in
    (ms, refl, subst (λ (r : Row). IsRow ms r) same is)
found_at false ms one row others group is rest h = rest h

pub found : (test : RowKey → Bool) (groups : List (RowKey × List Listed)) (rows : List (RowKey × Row)) → AreRows groups rows
    → (row : Row) → lookup test rows ≡ Some row → IsOf row (lookup test groups)
found test [] [] are row h = absurd (let e : None ≡ Some row = h in cc)
found test [] (e ∷ rows) are row h = absurd are
found test (g ∷ groups) [] are row h = absurd are
found test (g ∷ groups) (e ∷ rows) (same, is, rest) row h =
    subst (λ (k : RowKey). IsOf row (cond (test k) (Some g.1) (lookup test groups))) (sym same)
    (found_at (test e.0) g.1 e.1 row (lookup test rows) (lookup test groups) is (found test groups rows rest row) h)

missing_at : (here : Bool) (ms : List Listed) (one : Row) (others : Option Row) (group : Option (List Listed))
    → (others ≡ None → group ≡ None) → cond here (Some one) others ≡ None → cond here (Some ms) group ≡ None
missing_at true ms one others group rest h = cc
missing_at false ms one others group rest h = rest h

pub missing : (test : RowKey → Bool) (groups : List (RowKey × List Listed)) (rows : List (RowKey × Row)) → AreRows groups rows
    → lookup test rows ≡ None → lookup test groups ≡ None
missing test [] [] are h = refl
missing test [] (e ∷ rows) are h = absurd are
missing test (g ∷ groups) [] are h = absurd are
missing test (g ∷ groups) (e ∷ rows) (same, is, rest) h =
    ap (λ (k : RowKey). cond (test k) (Some g.1) (lookup test groups)) same
    ∙ missing_at (test e.0) g.1 e.1 (lookup test rows) (lookup test groups) (missing test groups rows rest) h

set_at : (here : Bool) (g : RowKey × List Listed) (e : RowKey × Row) (groups later : List (RowKey × List Listed))
    (rows after : List (RowKey × Row)) (ms : List Listed) (row : Row) → g.0 ≡ e.0 → IsRow g.1 e.1 → AreRows groups rows
    → AreRows later after → IsRow ms row
    → AreRows (cond here ((g.0, ms) ∷ groups) (g ∷ later)) (cond here ((e.0, row) ∷ rows) (e ∷ after))
set_at true g e groups later rows after ms row same is are rest now = (same, now, are)
set_at false g e groups later rows after ms row same is are rest now = (same, is, rest)

pub set : (test : RowKey → Bool) (groups : List (RowKey × List Listed)) (rows : List (RowKey × Row)) → AreRows groups rows
    → (ms : List Listed) (row : Row) → IsRow ms row → AreRows (set_value test groups ms) (set_value test rows row)
set test [] [] are ms row is = tt
set test [] (e ∷ rows) are ms row is = absurd are
set test (g ∷ groups) [] are ms row is = absurd are
set test (g ∷ groups) (e ∷ rows) (same, was, rest) ms row is =
    subst (λ (k : RowKey). AreRows (cond (test k) ((g.0, ms) ∷ groups) (g ∷ set_value test groups ms))
    (cond (test e.0) ((e.0, row) ∷ rows) (e ∷ set_value test rows row))) (sym same)
    (set_at (test e.0) g e groups (set_value test groups ms) rows (set_value test rows row) ms row same was rest
    (set test groups rows rest ms row is) is)

inserted_at : (o : Ordering) (key : RowKey) (g : RowKey × List Listed) (e : RowKey × Row)
    (groups later : List (RowKey × List Listed)) (rows after : List (RowKey × Row)) (ms : List Listed) (row : Row)
    → g.0 ≡ e.0 → IsRow g.1 e.1 → AreRows groups rows → AreRows later after → IsRow ms row
    → AreRows (match_ordering o ((key, ms) ∷ g ∷ groups) ((g.0, ms) ∷ groups) (g ∷ later))
    (match_ordering o ((key, row) ∷ e ∷ rows) ((e.0, row) ∷ rows) (e ∷ after))
inserted_at Less key g e groups later rows after ms row same is are rest now = (refl, now, (same, is, are))
inserted_at Equal key g e groups later rows after ms row same is are rest now = (same, now, are)
inserted_at Greater key g e groups later rows after ms row same is are rest now = (same, is, rest)

pub inserted : (order : RowKey → RowKey → Ordering) (groups : List (RowKey × List Listed)) (rows : List (RowKey × Row))
    → AreRows groups rows → (key : RowKey) (ms : List Listed) (row : Row) → IsRow ms row
    → AreRows (insert_entry order groups key ms) (insert_entry order rows key row)
inserted order [] [] are key ms row is = (refl, is, tt)
inserted order [] (e ∷ rows) are key ms row is = absurd are
inserted order (g ∷ groups) [] are key ms row is = absurd are
inserted order (g ∷ groups) (e ∷ rows) (same, was, rest) key ms row is =
    subst (λ (k : RowKey). AreRows
    (match_ordering (order key k) ((key, ms) ∷ g ∷ groups) ((g.0, ms) ∷ groups) (g ∷ insert_entry order groups key ms))
    (match_ordering (order key e.0) ((key, row) ∷ e ∷ rows) ((e.0, row) ∷ rows) (e ∷ insert_entry order rows key row))) (sym same)
    (inserted_at (order key e.0) key g e groups (insert_entry order groups key ms) rows (insert_entry order rows key row) ms row
    same was rest (inserted order groups rows rest key ms row is) is)
