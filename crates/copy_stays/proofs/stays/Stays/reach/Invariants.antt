use Rattle.std.proofs.Common.{◌≡◌, ◌+◌, ◌-◌, length}
use Rattle.copy_stays.specs.Stays.{state_in}
use Rattle.copy_stays.proofs.stays.Stays.reach.Given as goal

abbrev pub invariant-loop-self : goal.invariant-loop-self
invariant-loop-self l = (state_in l.self.states.items ≡ state_in l.fn.self.states.items)
    × (l.self.firsts ≡ l.fn.self.firsts)

abbrev pub decreases-loop-self : goal.decreases-loop-self
decreases-loop-self l = l.number + 1 - length l.self.states.items
