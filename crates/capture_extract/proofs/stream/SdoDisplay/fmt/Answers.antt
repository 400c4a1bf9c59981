use Rattle.std.proofs.Common.{◌≡◌, ◌==◌, false, refl, arith}
use Rattle.std.proofs.Output.{has_written_of_eq}
use Rattle.std.proofs.lemmas.Bool.Decides.{nat_tests}
use Rattle.capture_extract.proofs.Printing.{three_digits}
use Rattle.capture_extract.proofs.stream.SdoDisplay.fmt.Goals as goal

pub returns-clause-writes : goal.returns-clause-writes
returns-clause-writes g c = λ plain ok.
    let some : (c.args.self.now.0 == 0) ≡ false = grind (arith, nat_tests) in
    let writes = rw (c.in_radix.ensures, c.laid_out.ensures) at c.write.ensures.writes in
    has_written_of_eq _ _ _ _ _ (rw (three_digits c.args.self.now.0, some) refl) (writes plain ok)
