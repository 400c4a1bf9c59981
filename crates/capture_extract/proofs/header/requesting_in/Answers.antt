use Rattle.std.proofs.Common.{arith}
use Rattle.std.proofs.lemmas.Bool.Decides.{nat_tests}
use Rattle.capture_extract.proofs.Messages.{identity_behind}
use Rattle.capture_extract.proofs.header.requesting_in.Goals as goal

pub returns-in-Some : goal.returns-in-Some
returns-in-Some c =
    let same = identity_behind c.args.octets.now in
    grind (arith, nat_tests)
