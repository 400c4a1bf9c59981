use Rattle.std.proofs.Common.{append_assoc}
use Rattle.std.proofs.Output.{has_written_of_eq}
use Rattle.tap_follow.specs.Words.{fields_text}
use Rattle.tap_follow.proofs.changes.FieldsDisplay.fmt.Goals as goal

pub returns-clause-writes : goal.returns-clause-writes
unfolding fields_text
returns-clause-writes g c = λ plain ok.
    has_written_of_eq _ _ _ _ _
    (rw (
      c.then-timestamp.ensures,
      c.then-log.ensures,
      c.then-control.ensures,
      c.then-specific.ensures,
      c.then-flags.ensures,
      c.then-version.ensures,
    ) (simp append_assoc))
    (c.write.ensures.writes plain ok)
