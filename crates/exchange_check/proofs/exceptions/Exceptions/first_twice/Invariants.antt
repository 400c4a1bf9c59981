use Rattle.std.specs.Prelude.{◌≡◌}
use Rattle.std.specs.BTreeMap.{get}
use Rattle.std.specs.Ordering.{nat_cmp}
use Rattle.exchange_check.specs.Inner.Machine.{facts_of}
use Rattle.exchange_check.specs.Inner.WayFinding.{earlier_twice, first_twice}
use Rattle.exchange_check.proofs.exceptions.Exceptions.first_twice.Given as goal

-- the first of those that were looked at, and of those before
abbrev pub invariant-loop-entered : goal.invariant-loop-entered
invariant-loop-entered l = earlier_twice l.first (first_twice (facts_of l.kept) (get nat_cmp l.self.seconds) l.at)
    ≡ first_twice (facts_of l.kept) (get nat_cmp l.self.seconds) l.copy

abbrev pub decreases-loop-entered : goal.decreases-loop-entered
decreases-loop-entered l = l.at
