use Rattle.std.proofs.Common.{sym, subst}
use Rattle.sync_watch.specs.StandsFor.{Watch, StandsFor}
use Rattle.sync_watch.proofs.Tables.{stands-sync}
use Rattle.sync_watch.proofs.sync_watch.SyncWatch.know_sync.Goals as goal

pub returns : goal.returns
returns g c = λ capacity told stands.
    stands-sync c.args.arrival.now
    (subst (λ (v : Watch). StandsFor capacity v told) (sym c.self.view_is) stands) c.push.new.self c.take.new.self c.push.ensures c.take.ensures
