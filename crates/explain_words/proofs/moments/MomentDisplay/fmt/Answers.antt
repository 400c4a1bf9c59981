use Rattle.std.proofs.Common.{◌∙◌, ◌++◌, ℕ, ap, append_assoc}
use Rattle.std.proofs.Output.{has_written_of_eq}
use Rattle.ptp_units.specs.Moment.{Stamp}
use Rattle.datagram_text.specs.Shown.{stamp_text}
use Rattle.datagram_text.proofs.Printing.{styled_decimal-nine}
use Rattle.explain_words.specs.Words.{fraction_text}
use Rattle.explain_words.proofs.moments.MomentDisplay.fmt.Goals as goal

pub returns-clause-writes : goal.returns-clause-writes
returns-clause-writes g c = λ plain ok.
    has_written_of_eq _ _ _ _ _
    (rw (c.laid_out.ensures, styled_decimal-nine c.nanos.result, c.seconds.ensures.value, c.nanos.ensures.value) (simp append_assoc)
    ∙ ap (λ (p : Stamp × ℕ). stamp_text p.0 ++ fraction_text p.1) c.split-timestamp.ensures.exact)
    (c.write.ensures.writes plain ok)
