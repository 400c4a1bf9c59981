use Rattle.std.proofs.Common.{sym, subst}
use Rattle.sync_watch.specs.StandsFor.{KnownTimes, HoldsKnown}
use Rattle.sync_watch.proofs.Tables.{held-unicast, held-multicast}
use Rattle.sync_watch.proofs.known.Known.push.Goals as goal

pub returns-then-arrival : goal.returns-then-arrival
returns-then-arrival g c = λ entries holds.
    held-unicast c.args.arrival.now _
    (subst (λ (k : KnownTimes). HoldsKnown g.T.PairTable.CAPACITY entries k) (sym c.self.view_is) holds)
    c.if-arrival.true c.push.ensures

pub returns-else-arrival : goal.returns-else-arrival
returns-else-arrival g c = λ entries holds.
    held-multicast c.args.arrival.now _
    (subst (λ (k : KnownTimes). HoldsKnown g.T.PairTable.CAPACITY entries k) (sym c.self.view_is) holds)
    c.if-arrival.false c.push-else-arrival.ensures
