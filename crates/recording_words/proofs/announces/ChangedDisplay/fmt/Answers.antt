use Rattle.std.proofs.Common.{append_assoc}
use Rattle.std.proofs.Output.{has_written_of_eq}
use Rattle.recording_words.specs.Announces.{changed_text}
use Rattle.recording_words.proofs.announces.ChangedDisplay.fmt.Goals as goal

pub returns-clause-writes : goal.returns-clause-writes
unfolding changed_text
returns-clause-writes g c = λ plain ok.
    has_written_of_eq _ _ _ _ _
    (rw (
      c.then-timescale.ensures,
      c.then-offset.ensures,
      c.then-distance.ensures,
      c.then-class.ensures,
      c.is_other_grandmaster.ensures,
      c.grandmaster.ensures,
      c.grandmaster-2.ensures,
      c.is_other_class.ensures,
      c.clock_class.ensures,
      c.clock_class-2.ensures,
      c.is_other_distance.ensures,
      c.steps_removed.ensures,
      c.steps_removed-2.ensures,
      c.is_other_offset.ensures,
      c.utc_offset.ensures,
      c.utc_offset-2.ensures,
      c.is_other_timescale.ensures,
      c.timescale.ensures,
      c.timescale-2.ensures,
    ) (simp append_assoc))
    (c.write.ensures.writes plain ok)
