use Rattle.std.proofs.Common.{◌∙◌}
use Rattle.std.specs.BTreeMap.{get}
use Rattle.std.specs.Ordering.{nat_cmp}
use Rattle.exchange_check.specs.Evidence.{stop_told, stops_in}
use Rattle.exchange_check.specs.Inner.Noting.{mapped, with_entry}
use Rattle.exchange_check.proofs.Entries.{on_ok}
use Rattle.exchange_check.proofs.NotedTables.{entry-mapped}
use Rattle.exchange_check.proofs.exceptions.Exceptions.note_stop.Goals as goal

pub returns-clause-stops : goal.returns-clause-stops
returns-clause-stops c = on_ok c.put.result (λ h.
    (λ i. mapped stop_told (h i))
    ∙ entry-mapped stop_told c.args.fact.now.line c.stop_kept-stop.result (get nat_cmp c.args.self.now.stops)
    ∙ (λ i. with_entry c.args.fact.now.line (c.stop_kept-stop.ensures i) (stops_in (get nat_cmp c.args.self.now.stops))))
    c.put.ensures
