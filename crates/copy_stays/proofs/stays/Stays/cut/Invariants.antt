use Rattle.std.proofs.Common.{◌≡◌, ℕ, ◌<◌, Some, length}
use Rattle.std.specs.BTreeMap.{get}
use Rattle.std.specs.Ordering.{nat_cmp}
use Rattle.copy_stays.specs.Leaves.{Leaves, left_again, LastStays}
use Rattle.copy_stays.specs.Stays.{state_in, AreStays}
use Rattle.copy_stays.proofs.Cutting.{IsCutting}
use Rattle.copy_stays.proofs.Links.{links}
use Rattle.copy_stays.proofs.stays.Stays.cut.Given as goal

abbrev pub invariant-loop-copy : goal.invariant-loop-copy
invariant-loop-copy l =
    ((stays : LastStays) (leaves : Leaves) (number transit : ℕ)
    → get nat_cmp l.fn.self.firsts transit ≡ Some l.fn.first → AreStays l.fn.self stays leaves number
    → IsCutting (state_in l.self.states.items) (get nat_cmp l.fn.self.firsts) stays
    (left_again transit leaves) number l.fn.first)
    × (l.self.firsts ≡ l.fn.self.firsts) × (length l.self.states.items ≡ length l.fn.self.states.items)
    × (l.depth ≡ (state_in l.self.states.items l.fn.first).depth) × (0 < l.depth)

abbrev pub decreases-loop-copy : goal.decreases-loop-copy
decreases-loop-copy l = links (state_in l.self.states.items) (length l.self.states.items)
