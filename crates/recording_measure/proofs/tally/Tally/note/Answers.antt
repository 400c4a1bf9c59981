use Rattle.std.proofs.Common.{◌∙◌, sym, ap}
use Rattle.std.specs.Prelude.{map}
use Rattle.std.specs.Result.{result_err}
use Rattle.recording_model.specs.Recorded.{Recorded}
use Rattle.recording_measure.specs.Counts.{noted_of}
use Rattle.recording_measure.proofs.Counting.{unreported_noted}
use Rattle.recording_measure.proofs.tally.Tally.note.Goals as goal

pub returns-clause-quality : goal.returns-clause-quality
returns-clause-quality c = λ fate all is unmeasured so.
    c.note.ensures (noted_of fate) (map noted_of all) (ap (λ (d : Recorded). d.time) is)
    (ap (λ (d : Recorded). result_err d.said) is ∙ sym c.refusal_in.ensures)
    (unreported_noted fate unmeasured) so
