use Rattle.std.proofs.Common.{◌∙◌}
use Rattle.std.specs.BTreeMap.{get}
use Rattle.std.specs.Ordering.{nat_cmp}
use Rattle.exchange_check.specs.Evidence.{octets_told}
use Rattle.exchange_check.specs.Inner.Noting.{mapped, with_entry}
use Rattle.exchange_check.proofs.Entries.{on_ok, items_of}
use Rattle.exchange_check.proofs.NotedTables.{entry-mapped}
use Rattle.exchange_check.proofs.exceptions.Exceptions.note_octets.Goals as goal

pub returns-clause-octets : goal.returns-clause-octets
returns-clause-octets c = on_ok c.put.result (λ h.
    (λ i. mapped items_of (h i))
    ∙ entry-mapped items_of c.args.fact.now.line c.wrong_octets.result (get nat_cmp c.args.self.now.octets)
    ∙ (λ i. with_entry c.args.fact.now.line (c.wrong_octets.ensures i) (octets_told c.args.self.now))) c.put.ensures
