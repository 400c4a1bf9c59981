use Rattle.std.proofs.Common.{rules}
use Rattle.pairing.proofs.Rings.{members-push}
use Rattle.pairing.proofs.Links.{IsLinked-add}
use Rattle.pairing.proofs.ring_table.RingTable.add.Goals as goal

pub invariant_of-self-clause-linked : goal.invariant_of-self-clause-linked
invariant_of-self-clause-linked g c =
    let s = c.args.self.now in
    rw (c.write.ensures, c.slot_at-slot.ensures.at, c.from-bucket.ensures)
    (IsLinked-add g.row.N s.oldest s.count s.slots.items s.older s.newest (c.args.number, c.args.value) s.begins c.requires s.filled (search rules) (search rules) s.linked)

pub returns-clause-members : goal.returns-clause-members
returns-clause-members g c =
    let s = c.args.self.now in
    rw (c.write.ensures, c.slot_at-slot.ensures.at)
    (members-push g.row.N s.oldest s.count s.slots.items s.filled s.begins c.requires (c.args.number, c.args.value))
