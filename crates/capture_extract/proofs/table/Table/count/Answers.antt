use Rattle.std.proofs.Common.{◌≡◌, ◌∙◌, ℕ, Option, Some, OnOk, sym, subst}
use Rattle.capture_file.specs.Packet.{interface_of}
use Rattle.datagram_source.specs.declared.datagram.Place.{Place}
use Rattle.datagram_source.specs.Datagram.{place_of}
use Rattle.capture_extract.specs.declared.row.RowKey.{RowKey}
use Rattle.capture_extract.specs.Table.{counted, counted_at, index_for, met, with_message}
use Rattle.capture_extract.specs.Inner.Rows.{IsTable}
use Rattle.capture_extract.proofs.table.Table.count.Goals as goal

pub returns-in-Some : goal.returns-in-Some
returns-in-Some c = λ t h.
    let i = interface_of c.in-Interface.interface in
    let m = c.args.listed.now in
    let found = c.in_ok-index-in-Interface.ensures t h in
    let index : Some c.in-Some.index ≡ index_for i t = sym c.in-Some.is ∙ found.0 in
    subst (λ (place : Place). OnOk c.count_at.result (IsTable (with_message (place_of place) m t) c.count_at.new.self))
    (sym c.in-Interface.is)
    (subst (λ (o : Option ℕ). OnOk c.count_at.result (IsTable (counted_at o c.in-Interface.stream m (met i t)) c.count_at.new.self)) index
    (subst (λ (key : RowKey). OnOk c.count_at.result (IsTable (counted key m (met i t)) c.count_at.new.self)) c.key_of.ensures
    (c.count_at.ensures (met i t) found.1)))
