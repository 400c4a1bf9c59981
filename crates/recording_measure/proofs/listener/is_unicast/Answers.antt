use Rattle.std.proofs.Common.{arith, slice_index}
use Rattle.std.proofs.lemmas.Bool.Decides.{nat_tests}
use Rattle.std.proofs.lemmas.Nat.Bits.{and_pow}
use Rattle.recording_measure.proofs.listener.is_unicast.Goals as goal

pub returns : goal.returns
returns c = grind (arith, nat_tests, and_pow (slice_index c.args.header.now.flags 0) 2)
