use Rattle.trace_model.specs.declared.finding.Finding.TheVariants as findings
use Rattle.exchange_check.specs.Evidence.{stop_told}
use Rattle.exchange_check.proofs.Entries.{none-told, items_of}
use Rattle.exchange_check.proofs.evidence.Evidence.new.Goals as goal

pub returns : goal.returns
returns c network = λ i. record {
  octets = none-told items_of _ c.new.ensures.octets i;
  readings = c.new.ensures.readings i;
  uncounted = c.new.ensures.uncounted i;
  seconds = c.new.ensures.seconds i;
  first_otherwise = none-told findings.OtherOctets _ c.new.ensures.first_otherwise i;
  stops = none-told stop_told _ c.new.ensures.stops i;
}
