use Rattle.std.proofs.Common.{◌∙◌, sym, ap, refl, is_some, length}
use Rattle.std.proofs.lemmas.List.{length-set}
use Rattle.pairing.specs.Inner.Ringed.{members}
use Rattle.pairing.proofs.Pairs.{none_replaced}
use Rattle.pairing.proofs.Links.{IsLinked-set}
use Rattle.pairing.proofs.Found.{find-absent, find-found, set-found}
use Rattle.pairing.proofs.ring_table.RingTablePairTable.set.Goals as goal

pub returns-in_default-clause-held : goal.returns-in_default-clause-held
returns-in_default-clause-held g c =
    let s = c.args.self.now in
    ap is_some (find-absent c.args.number.0 s.marked (members s.oldest s.count s.slots.items) c.in_default.ensures.newest)

pub returns-in_default-clause-replaced : goal.returns-in_default-clause-replaced
returns-in_default-clause-replaced g c =
    let s = c.args.self.now in
    ap (λ es. record { entries = es; marked = s.marked })
    (none_replaced c.args.number.0 c.args.value (members s.oldest s.count s.slots.items) (sym c.in_default.ensures.newest))

pub invariant_of-self-clause-filled : goal.invariant_of-self-clause-filled
invariant_of-self-clause-filled g c = ap length c.write.ensures ∙ length-set _ _ _ ∙ c.args.self.now.filled

pub invariant_of-self-clause-linked : goal.invariant_of-self-clause-linked
invariant_of-self-clause-linked g c =
    let s = c.args.self.now in
    rw c.write.ensures
    (IsLinked-set g.row.N s.oldest s.count s.slots.items s.older s.newest c.in-Some.slot (c.args.number, c.args.value) c.in-Some.ensures.within.2 s.linked)

pub returns-clause-held : goal.returns-clause-held
returns-clause-held g c =
    let s = c.args.self.now in
    ap is_some (find-found g.row.N s.oldest s.count s.slots.items c.args.number.0 c.in-Some.slot s.filled s.begins s.fits
    c.in-Some.ensures.within.0 c.in-Some.ensures.within.1 c.in-Some.ensures.newest s.marked (c.args.number, c.args.value))

pub returns-clause-replaced : goal.returns-clause-replaced
returns-clause-replaced g c =
    let s = c.args.self.now in
    rw c.write.ensures
    (set-found g.row.N s.oldest s.count s.slots.items c.args.number.0 c.in-Some.slot s.filled s.begins s.fits
    c.in-Some.ensures.within.0 c.in-Some.ensures.within.1 c.in-Some.ensures.newest s.marked (c.args.number, c.args.value) refl c.in-Some.ensures.within.2)
