use Rattle.std.proofs.Common.{refl}
use Rattle.std.proofs.Output.{has_written_of_eq}
use Rattle.datagram_text.proofs.Printing.{styled_decimal-nine}
use Rattle.recording_words.proofs.sum_values.NineDigitsDisplay.fmt.Goals as goal

pub returns-clause-writes : goal.returns-clause-writes
returns-clause-writes g c = λ plain ok.
    has_written_of_eq _ _ _ _ _
    (rw (c.laid_out.ensures, styled_decimal-nine c.args.self.now.0) refl)
    (c.write.ensures.writes plain ok)
