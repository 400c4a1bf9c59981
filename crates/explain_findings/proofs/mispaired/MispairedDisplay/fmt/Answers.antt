use Rattle.std.proofs.Common.{ap, sym}
use Rattle.std.proofs.Output.{has_written_of_eq}
use Rattle.explain_findings.specs.Mispaired.{mispaired_text}
use Rattle.explain_findings.proofs.mispaired.MispairedDisplay.fmt.Goals as goal

pub returns-in-OtherSync-clause-writes : goal.returns-in-OtherSync-clause-writes
returns-in-OtherSync-clause-writes g c = λ plain ok.
    has_written_of_eq _ _ _ _ _ (ap mispaired_text (sym c.in-OtherSync.is)) (c.write.ensures.writes plain ok)

pub returns-in-OtherRequest-clause-writes : goal.returns-in-OtherRequest-clause-writes
returns-in-OtherRequest-clause-writes g c = λ plain ok.
    has_written_of_eq _ _ _ _ _ (ap mispaired_text (sym c.in-OtherRequest.is)) (c.write-in-OtherRequest.ensures.writes plain ok)
