use Rattle.std.proofs.Common.{[]}
use Rattle.sync_watch.proofs.sync_watch.SyncWatch.begin_anew.Goals as goal

pub returns : goal.returns
returns g c = λ capacity told stands.
    c.know_sync.ensures capacity [] (c.forget.ensures capacity told stands)
