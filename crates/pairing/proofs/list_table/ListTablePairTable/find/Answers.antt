use Rattle.std.proofs.Common.{◌∙◌}
use Rattle.pairing.proofs.Pairs.{last_value}
use Rattle.pairing.proofs.list_table.ListTablePairTable.find.Goals as goal

pub returns : goal.returns
returns g c = rw (← c.as_slice.ensures.value) (c.last_value.ensures ∙ last_value c.args.number.0 c.as_slice.result.now)
