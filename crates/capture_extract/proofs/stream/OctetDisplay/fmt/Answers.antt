use Rattle.std.proofs.Common.{false, arith}
use Rattle.std.proofs.Output.{has_written_of_eq}
use Rattle.std.proofs.lemmas.Fmt.{hex_byte}
use Rattle.capture_extract.specs.Streams.{octet_text}
use Rattle.capture_extract.proofs.stream.OctetDisplay.fmt.Goals as goal

pub returns-clause-writes : goal.returns-clause-writes
unfolding octet_text
returns-clause-writes g c = λ plain ok.
    let writes = rw (c.in_radix.ensures, c.laid_out.ensures) at c.write.ensures.writes in
    has_written_of_eq _ _ _ _ _ (hex_byte false c.args.self.now.0 (omega arith)) (writes plain ok)
