use Rattle.std.proofs.Common.{ap, sym}
use Rattle.std.proofs.Output.{has_written_of_eq}
use Rattle.explain_findings.specs.Misplaced.{unstamped_text}
use Rattle.explain_findings.proofs.misplaced.UnstampedDisplay.fmt.Goals as goal

pub returns-in-Later-clause-writes : goal.returns-in-Later-clause-writes
returns-in-Later-clause-writes g c = λ plain ok.
    has_written_of_eq _ _ _ _ _ (ap unstamped_text (sym c.in-Later.is)) (c.write-in-Later.ensures.writes plain ok)
