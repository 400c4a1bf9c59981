use Rattle.std.proofs.Common.{◌≡◌, ◌∙◌, None, length, sym}
use Rattle.capture_file.specs.Packet.{interface_of}
use Rattle.capture_extract.specs.Table.{index_of}
use Rattle.capture_extract.proofs.Rows.{same_count}
use Rattle.capture_extract.proofs.Tables.{full, new_interface, no_interface, not_full}
use Rattle.capture_extract.proofs.table.Table.interface.Goals as goal

pub returns-in_ok-add-in-None : goal.returns-in_ok-add-in-None
returns-in_ok-add-in-None c = λ t h.
    let i = interface_of c.args.interface.now in
    let none : index_of i t.interfaces ≡ None = sym (c.in-None.ensures t.interfaces h.interfaces) in
    let added = c.in_ok-add-in-None.ensures t.interfaces h.interfaces none in
    let count : c.len.result ≡ length t.groups = c.len.ensures.len ∙ same_count t.groups c.args.self.now.rows.entries h.rows in
    new_interface t _ i c.in_ok-add-in-None.field-0 none (not_full t c.len.result count c.if-len-lt-ROWS_MOST.true) added.0 (record {
      interfaces = added.1;
      rows = h.rows;
      further = h.further;
      other_version = h.other_version;
      too_short = h.too_short;
    })

pub returns-in-None-2 : goal.returns-in-None-2
returns-in-None-2 c = λ t h.
    let i = interface_of c.args.interface.now in
    let none : index_of i t.interfaces ≡ None = sym (c.in-None-2.ensures t.interfaces h.interfaces) in
    let count : c.len.result ≡ length t.groups = c.len.ensures.len ∙ same_count t.groups c.args.self.now.rows.entries h.rows in
    no_interface t _ i none (full t c.len.result count c.if-len-lt-ROWS_MOST.false) (record {
      interfaces = h.interfaces;
      rows = h.rows;
      further = h.further;
      other_version = h.other_version;
      too_short = h.too_short;
    })
