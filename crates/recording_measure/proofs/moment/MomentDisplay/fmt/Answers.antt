use Rattle.std.proofs.Common.{◌∙◌, ◌*◌, ◌++◌, ℕ, ap}
use Rattle.std.proofs.Output.{has_written_of_eq}
use Rattle.ptp_units.specs.Moment.{Stamp}
use Rattle.ptp_units.specs.Nanoseconds.{decimals}
use Rattle.datagram_text.specs.Shown.{stamp_text}
use Rattle.recording_measure.specs.Moment.{moment_text}
use Rattle.recording_measure.proofs.moment.MomentDisplay.fmt.Goals as goal

pub returns-clause-writes : goal.returns-clause-writes
unfolding moment_text
returns-clause-writes g c = λ plain ok.
    has_written_of_eq _ _ _ _ _
    (ap (λ (n : ℕ). stamp_text c.split-stamp.result.0 ++ decimals 17 (2 * n)) c.from-rest.ensures
    ∙ ap (λ (p : Stamp × ℕ). stamp_text p.0 ++ decimals 17 (2 * p.1)) c.split-stamp.ensures.exact)
    (c.write.ensures.writes plain ok)
