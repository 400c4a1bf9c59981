-- The slave that the messages so far tell.
use Rattle.std.proofs.Common.{◌≡◌, reverse, take}
use Rattle.tap_follow.specs.Followed.{slave_in}
use Rattle.tap_follow.proofs.follower.Follower.slave_of.Given as goal

abbrev pub invariant-loop-met : goal.invariant-loop-met
invariant-loop-met l =
    l.slave ≡ slave_in l.fn.self.wanted.slave l.pair.domain l.pair.from (reverse (take l.met-index l.fn.self.kept))
