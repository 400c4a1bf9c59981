use Rattle.std.proofs.Common.{◌∙◌, List, ap, option_copied, arith, length, Some, get_or}
use Rattle.ptp_units.specs.declared.sequence.Seq.{Seq}
use Rattle.pairing.specs.Inner.Ringed.{members}
use Rattle.pairing.proofs.Found.{find-absent, find-found}
use Rattle.pairing.proofs.ring_table.RingTablePairTable.find.Goals as goal

pub returns-in_err-slot : goal.returns-in_err-slot
returns-in_err-slot g c =
    let s = c.args.self.now in
    ap option_copied c.from_residual.ensures
    ∙ find-absent c.args.number.0 s.marked (members s.oldest s.count s.slots.items) c.in_err-slot.ensures.newest

pub offset_bounds-deref-slot : goal.offset_bounds-deref-slot
offset_bounds-deref-slot g c =
    omega (arith, c.in_ok-slot.ensures.within.0, ap length c.deref.ensures.0, c.args.self.now.filled)

pub bounds-deref-slot : goal.bounds-deref-slot
bounds-deref-slot g c =
    omega (arith, c.in_ok-slot.ensures.within.0, ap length c.deref.ensures.0, c.args.self.now.filled)

pub returns : goal.returns
returns g c =
    let s = c.args.self.now in
    let within = c.in_ok-slot.ensures.within in
    ap (λ (slots : List (Seq × g.row.V.Denot)). Some (get_or slots c.in_ok-slot.slot c.index-deref-slot.result).1) c.deref.ensures.0
    ∙ find-found g.row.N s.oldest s.count s.slots.items c.args.number.0 c.in_ok-slot.slot s.filled s.begins s.fits
    within.0 within.1 c.in_ok-slot.ensures.newest s.marked c.index-deref-slot.result
