use Rattle.std.proofs.Common.{◌∙◌, ℕ, ap, append_assoc}
use Rattle.std.proofs.Output.{has_written_of_eq}
use Rattle.ptp_units.specs.Moment.{Stamp}
use Rattle.datagram_text.specs.Shown.{stamp_text}
use Rattle.result_audit.specs.Lines.{time_text}
use Rattle.datagram_text.proofs.Printing.{styled_decimal-nine}
use Rattle.result_audit.proofs.lines.TimeDisplay.fmt.Goals as goal

pub returns-clause-writes : goal.returns-clause-writes
unfolding time_text
returns-clause-writes g c = λ plain ok.
    has_written_of_eq _ _ _ _ _
    (rw (c.laid_out.ensures, styled_decimal-nine c.nanos.result, c.seconds.ensures.value, c.nanos.ensures.value) (simp append_assoc)
    ∙ ap (λ (p : Stamp × ℕ). stamp_text p.0) c.split-stamp.ensures.exact)
    (c.write.ensures.writes plain ok)
