use Rattle.std.proofs.Common.{arith}
use Rattle.std.proofs.lemmas.Grind.{common_steps}
use Rattle.line_writing.proofs.Plain.{escape_signed, IsWide-from_fits}
use Rattle.line_writing.proofs.values.push_difference.Goals as goal

pub returns : goal.returns
returns c = rw (escape_signed c.args.units (IsWide-from_fits c.args.units c.ranges.units)) (grind (arith, common_steps))
