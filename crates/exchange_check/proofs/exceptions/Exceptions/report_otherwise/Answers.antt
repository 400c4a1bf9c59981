use Rattle.std.proofs.Common.{◌∙◌, sym}
use Rattle.std.specs.BTreeMap.{get}
use Rattle.std.specs.Ordering.{nat_cmp}
use Rattle.trace_model.specs.declared.finding.Finding.TheVariants as findings
use Rattle.exchange_check.specs.Inner.Found.{of_found}
use Rattle.exchange_check.specs.Inner.Machine.{facts_of, stamps_of}
use Rattle.exchange_check.specs.Inner.Noting.{mapped}
use Rattle.exchange_check.specs.Inner.Otherwise.{exchange_otherwise_by}
use Rattle.copy_stays.specs.Stays.{once_in}
use Rattle.exchange_check.proofs.OfExchange.{of_report-found}
use Rattle.exchange_check.proofs.exceptions.Exceptions.report_otherwise.Goals as goal

pub returns-in-Some : goal.returns-in-Some
returns-in-Some c =
    c.journeys_otherwise.ensures
    ∙ sym (of_report-found (facts_of c.args.kept.now) (stamps_of c.args.kept.now)
    (of_found (facts_of c.args.kept.now) (once_in c.args.kept.now.stays)
    (λ told sync request. exchange_otherwise_by
    (mapped findings.OtherOctets (get nat_cmp c.args.self.now.first_otherwise)) told))
    c.args.number c.args.report.now c.in-Some.found (sym c.found_at.ensures ∙ c.in-Some.is))
