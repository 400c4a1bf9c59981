use Rattle.std.proofs.Common.{◌∙◌}
use Rattle.pairing.proofs.Pairs.{ticked}
use Rattle.pairing.proofs.list_table.ListTablePairTable.tick.Goals as goal

pub returns : goal.returns
returns g c =
    ticked c.args.self.now.entries.items c.drop-drain.new.self.0.items c.args.self.now.marked c.len-self.result
    (c.drop-drain.ensures c.drain.ensures.ready.2 ∙ c.drain.ensures.kept) c.len-self.ensures.value
