use Rattle.std.proofs.Common.{arith, slice_index}
use Rattle.std.proofs.lemmas.Bool.Decides.{nat_tests}
use Rattle.std.proofs.lemmas.Nat.Bits.{and_pow}
use Rattle.capture_extract.proofs.row.is_two_step.Goals as goal

pub returns : goal.returns
returns c = grind (arith, nat_tests, and_pow (slice_index c.args.listed.now.header.flags 0) 1)
