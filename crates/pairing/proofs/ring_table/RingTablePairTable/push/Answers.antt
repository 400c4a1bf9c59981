use Rattle.std.proofs.Common.{◌∙◌, arith}
use Rattle.pairing.specs.Inner.Ringed.{members}
use Rattle.pairing.proofs.Pairs.{pushed, pushed_full}
use Rattle.pairing.proofs.Rings.{length-members}
use Rattle.pairing.proofs.ring_table.RingTablePairTable.push.Goals as goal
use Rattle.pairing.proofs.ring_table.RingTablePairTable.push.Goals.{then-self, else-self}

pub returns : goal.returns
returns g c =
    let s = c.args.self.now in
    let all = length-members g.row.N s.oldest s.count s.slots.items s.filled s.begins s.fits in
    rw (c.add.ensures.members, c.add.ensures.marked) (elim c.if-self.branch [
      | then-self w ↦ rw (w.self-is, w.drop_oldest.ensures.members, w.drop_oldest.ensures.marked)
          (pushed_full g.row.N (members s.oldest s.count s.slots.items) s.marked (c.args.number, c.args.value) s.some_fit (all ∙ w.if-self.true))
      | else-self w ↦ rw w.self-is
          (pushed g.row.N (members s.oldest s.count s.slots.items) s.marked (c.args.number, c.args.value) (omega (arith, all, s.fits, w.if-self.false)))
    ])
