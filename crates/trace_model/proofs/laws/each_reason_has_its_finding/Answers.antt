-- Each reason, by the parts of its condition.
use Rattle.trace_model.proofs.Findings.{each_reason_has_its_finding as found}
use Rattle.trace_model.proofs.laws.each_reason_has_its_finding.Goals as goal

pub returns : goal.returns
returns c = found
