use Rattle.network_model.proofs.Names.{IsKept-copied}
use Rattle.network_model.proofs.name.Name.new.Goals as goal

pub invariant_of-result : goal.invariant_of-result
invariant_of-result c =
    IsKept-copied c.as_bytes-bytes.result.now c.copy_from_slice.new.self c.copy_from_slice.ensures.after (c.is_name.ensures.0 c.if-not-is_name.false)
