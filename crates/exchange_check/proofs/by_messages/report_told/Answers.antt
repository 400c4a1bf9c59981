use Rattle.std.proofs.Common.{◌∙◌, sym}
use Rattle.exchange_check.specs.Inner.Found.{of_found}
use Rattle.exchange_check.specs.Inner.Machine.{facts_of, stamps_of}
use Rattle.exchange_check.specs.Inner.Messages.{results_told_by}
use Rattle.copy_stays.specs.Stays.{once_in}
use Rattle.exchange_check.proofs.OfExchange.{of_report-found}
use Rattle.exchange_check.proofs.by_messages.report_told.Goals as goal

pub returns-in-Some : goal.returns-in-Some
returns-in-Some c octets made =
    c.journeys_told.ensures octets made
    ∙ sym (of_report-found (facts_of c.args.kept.now) (stamps_of c.args.kept.now)
    (of_found (facts_of c.args.kept.now) (once_in c.args.kept.now.stays)
    (λ told sync request. results_told_by (facts_of c.args.kept.now) octets told))
    c.args.number c.args.report.now c.in-Some.found (sym c.found_at.ensures ∙ c.in-Some.is))
