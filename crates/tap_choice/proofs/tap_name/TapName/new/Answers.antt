use Rattle.tap_choice.proofs.Names.{IsKept-copied}
use Rattle.tap_choice.proofs.tap_name.TapName.new.Goals as goal

pub invariant_of-result : goal.invariant_of-result
invariant_of-result c =
    IsKept-copied c.args.octets.now c.copy_from_slice.new.self c.copy_from_slice.ensures.after (c.is_tap_name.ensures.0 c.if-not-is_tap_name.false)
