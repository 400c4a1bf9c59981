use Rattle.std.proofs.Common.{append_assoc}
use Rattle.std.proofs.Output.{has_written_of_eq}
use Rattle.datagram_text.proofs.Printing.{styled_decimal-nine}
use Rattle.capture_extract.proofs.row.TimeDisplay.fmt.Goals as goal

pub returns-clause-writes : goal.returns-clause-writes
returns-clause-writes g c = λ plain ok.
    has_written_of_eq _ _ _ _ _ (rw (c.laid_out.ensures, styled_decimal-nine c.nanos.result, c.seconds.ensures.value, c.nanos.ensures.value) (simp append_assoc)) (c.write.ensures.writes plain ok)
