use Rattle.std.proofs.Common.{arith}
use Rattle.pairing.specs.Inner.Ringed.{numbers_of}
use Rattle.pairing.proofs.Rings.{members-later}
use Rattle.pairing.proofs.Links.{IsLinked-later}
use Rattle.pairing.proofs.ring_table.RingTable.drop_oldest.Goals as goal

pub invariant_of-self : goal.invariant_of-self
invariant_of-self g c =
    let s = c.args.self.now in
    record {
      some_fit = s.some_fit;
      few_fit = s.few_fit;
      filled = s.filled;
      begins = c.slot_at-self.ensures.within;
      fits = omega (arith, s.fits);
      marked_there = omega (arith, s.marked_there, c.saturating_sub-self.ensures);
      linked = rw c.slot_at-self.ensures.at (IsLinked-later g.row.N s.oldest s.begins s.count (numbers_of s.slots.items) s.older s.newest c.args.dropped s.fits c.requires s.linked);
    }

pub returns-clause-members : goal.returns-clause-members
returns-clause-members g c =
    let s = c.args.self.now in
    rw c.slot_at-self.ensures.at (members-later g.row.N s.oldest s.count s.slots.items s.filled s.begins s.fits c.args.dropped c.requires)
