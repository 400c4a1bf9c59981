use Rattle.std.proofs.Common.{arith}
use Rattle.std.proofs.lemmas.Slice.{drop-put_mid}
use Rattle.event_codec.proofs.encoding.put.Goals as goal

pub returns-clause-after : goal.returns-clause-after
returns-clause-after g c = drop-put_mid c.args.at _ c.args.buffer.now c.copy_from_slice.new.self _ (omega arith) (omega arith) (omega (arith, c.copy_from_slice.ensures.len))
