use Rattle.std.proofs.Common.{refl}
use Rattle.std.proofs.Output.{has_written_of_eq}
use Rattle.recording_words.specs.Announces.{announced_text}
use Rattle.recording_words.proofs.announces.AllDisplay.fmt.Goals as goal

pub returns-clause-writes : goal.returns-clause-writes
unfolding announced_text
returns-clause-writes g c = λ plain ok.
    has_written_of_eq _ _ _ _ _
    (rw (
      c.grandmaster-grandmaster.ensures,
      c.clock_class-class.ensures,
      c.steps_removed-distance.ensures,
      c.utc_offset-offset.ensures,
      c.timescale-timescale.ensures,
    ) refl)
    (c.write.ensures.writes plain ok)
