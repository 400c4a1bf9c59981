use Rattle.std.proofs.Common.{sym}
use Rattle.pairing.specs.Inner.Ringed.{members}
use Rattle.pairing.proofs.Pairs.{ticked}
use Rattle.pairing.proofs.Rings.{length-members}
use Rattle.pairing.proofs.ring_table.RingTablePairTable.tick.Goals as goal

pub returns : goal.returns
returns g c =
    let s = c.args.self.now in
    let t = c.drop_oldest.new.self in
    ticked (members s.oldest s.count s.slots.items) (members t.oldest t.count t.slots.items) s.marked t.count
    c.drop_oldest.ensures.members (sym (length-members g.row.N t.oldest t.count t.slots.items t.filled t.begins t.fits))
