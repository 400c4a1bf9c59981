-- What each verdict says of the report lines.
use Rattle.trace_model.proofs.Soundness.{verdicts_tell_soundness}
use Rattle.trace_model.proofs.laws.verdicts_tell_soundness.Goals as goal

pub returns : goal.returns
returns c = verdicts_tell_soundness
