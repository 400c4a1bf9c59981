use Rattle.std.proofs.Common.{◌≤◌, ◌<◌, ◌%◌}
use Rattle.pairing.specs.Inner.Ringed.{slot_of, LeadsBack, numbers_of}
use Rattle.pairing.proofs.Walks.{Passed}
use Rattle.pairing.proofs.ring_table.RingTable.newest_of.Given as goal

-- no member of the number is newer, and the link is to the newest of its bucket that is older
abbrev pub invariant-loop-link : goal.invariant-loop-link
invariant-loop-link g l = record {
  inside : slot_of l.link < g.row.N;
  within : l.newer ≤ l.self.count;
  leads : LeadsBack g.row.N l.self.oldest (numbers_of l.self.slots.items) l.link l.newer (l.number.0 % g.row.N);
  passed : Passed g.row.N l.self.oldest l.self.count (numbers_of l.self.slots.items) l.number.0 l.newer;
}

abbrev pub decreases-loop-link : goal.decreases-loop-link
decreases-loop-link g l = l.newer
