use Rattle.std.proofs.Common.{◌≡◌, ◌∙◌, None, length, refl, sym, ap, subst}
use Rattle.std.specs.BTreeMap.{BTreeMap, insert_entry, is_at}
use Rattle.capture_extract.specs.declared.row.Row.{Row}
use Rattle.capture_extract.specs.declared.row.RowKey.{RowKey}
use Rattle.capture_extract.specs.Table.{group_of, key_order}
use Rattle.capture_extract.specs.Inner.Rows.{AreRows}
use Rattle.capture_extract.proofs.Rows.{IsOf, found, missing, same_count}
use Rattle.capture_extract.proofs.Tables.{first_one, full, not_full, one_more, one_passed}
use Rattle.capture_extract.proofs.table.Table.count_at.Goals as goal

pub returns-in-Some : goal.returns-in-Some
returns-in-Some c = λ t h.
    let key = c.args.key in
    let of : IsOf c.in-Some.row.now (group_of key t) =
    found (is_at (key_order key)) t.groups c.args.self.now.rows.entries h.rows c.in-Some.row.now (sym c.in-Some.ensures.value) in
    one_more t c.args.self.now _ key c.args.listed.now of.0 c.count.new.self of.1 h
    (record { interfaces = refl; further = refl; other_version = refl; too_short = refl })
    (c.get_mut.follows.holds c.count.new.self).0 (c.count.ensures of.0 of.2)

pub returns-then-len-ge-ROWS_MOST : goal.returns-then-len-ge-ROWS_MOST
returns-then-len-ge-ROWS_MOST c = λ t h.
    let key = c.args.key in
    let rows = c.args.self.now.rows.entries in
    let same : c.get_mut.follows.lender-at-none ≡ c.args.self.now.rows = c.get_mut.follows.holds-at-none in
    let none : group_of key t ≡ None = missing (is_at (key_order key)) t.groups rows h.rows (sym c.in_default.ensures.value) in
    let count : c.len.result ≡ length t.groups =
    c.len.ensures.len ∙ ap (λ (m : BTreeMap RowKey Row). length m.entries) same ∙ same_count t.groups rows h.rows in
    one_passed t _ key c.args.listed.now none (full t c.len.result count c.if-len-ge-ROWS_MOST.true) (c.pass.ensures t (record {
      interfaces = h.interfaces;
      rows = subst (λ (m : BTreeMap RowKey Row). AreRows t.groups m.entries) (sym same) h.rows;
      further = h.further;
      other_version = h.other_version;
      too_short = h.too_short;
    }))

pub returns : goal.returns
returns c = λ t h.
    let key = c.args.key in
    let rows = c.args.self.now.rows.entries in
    let same : c.get_mut.follows.lender-at-none ≡ c.args.self.now.rows = c.get_mut.follows.holds-at-none in
    let none : group_of key t ≡ None = missing (is_at (key_order key)) t.groups rows h.rows (sym c.in_default.ensures.value) in
    let count : c.len.result ≡ length t.groups =
    c.len.ensures.len ∙ ap (λ (m : BTreeMap RowKey Row). length m.entries) same ∙ same_count t.groups rows h.rows in
    first_one t c.args.self.now _ key c.args.listed.now c.new.result none (not_full t c.len.result count c.if-len-ge-ROWS_MOST.false) h
    (record { interfaces = refl; further = refl; other_version = refl; too_short = refl })
    (c.in_ok-insert.ensures.entries ∙ ap (λ (m : BTreeMap RowKey Row). insert_entry key_order m.entries key c.new.result) same)
    c.new.ensures
