use Rattle.std.proofs.Common.{◌∙◌, Bool, sym, ap, subst}
use Rattle.std.specs.Prelude.{if◌then◌else◌}
use Rattle.text_lines.specs.Counted.{device_of}
use Rattle.datagram_source.specs.Datagram.{PlaceOf, datagram_of, place_of, place_to_all}
use Rattle.recording_measure.specs.Places.{placed}
use Rattle.recording_measure.specs.Inner.Measuring.{AddsRow}
use Rattle.recording_measure.proofs.measuring.Measuring.take_captured.Goals as goal

pub returns-then-is_to_all-clause-taken : goal.returns-then-is_to_all-clause-taken
returns-then-is_to_all-clause-taken g c = λ r at.
    let place = place_of c.args.datagram.now.place in
    let d = datagram_of c.args.datagram.now in
    let there = c.to_all-to_all.ensures ∙ ap (λ (b : Bool). if b then place_to_all place else place) (sym c.if-is_to_all.true)
    ∙ c.is_to_all.ensures r at in
    subst (λ (p : PlaceOf). AddsRow c.take_row.result r (placed p d) c.take_row.new.self (g.W.Write.contents (device_of c.args.output.now))
    (g.W.Write.contents (device_of c.take_row.new.output))) there (c.take_row.ensures.taken r at)

pub returns-else-is_to_all-clause-taken : goal.returns-else-is_to_all-clause-taken
returns-else-is_to_all-clause-taken g c = λ r at.
    let place = place_of c.args.datagram.now.place in
    let d = datagram_of c.args.datagram.now in
    let there = ap (λ (b : Bool). if b then place_to_all place else place) (sym c.if-is_to_all.false) ∙ c.is_to_all.ensures r at in
    let taken = c.take_row-else-is_to_all in
    subst (λ (p : PlaceOf). AddsRow taken.result r (placed p d) taken.new.self (g.W.Write.contents (device_of c.args.output.now))
    (g.W.Write.contents (device_of taken.new.output))) there (taken.ensures.taken r at)
