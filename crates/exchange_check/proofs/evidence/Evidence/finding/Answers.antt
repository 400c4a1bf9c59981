use Rattle.std.proofs.Common.{◌∙◌, sym, ap}
use Rattle.std.specs.Prelude.{reverse}
use Rattle.exchange_check.specs.Evidence.{last_finding}
use Rattle.exchange_check.proofs.FindingTold.{finding-at, of_journeys}
use Rattle.exchange_check.proofs.PlaceFound.{place-told}
use Rattle.exchange_check.proofs.WaysFound.{ways-told}
use Rattle.exchange_check.proofs.evidence.Evidence.finding.Goals as goal

pub returns-in_default : goal.returns-in_default
returns-in_default c evidence =
    c.report_finding.ensures
    ∙ finding-at c.args.checker.now.network c.args.report.now c.args.why
    (of_journeys c.args.why c.in_default.not-NoSuchLine c.in_default.not-BrokenJourney)
    (reverse c.args.checker.now.lines) c.inside.result.1.now c.inside.ensures.kept c.args.self.now.exceptions evidence
    c.last_number-number.result c.last_number-number.ensures c.inside.result.0.now c.inside.ensures.network

pub returns-in-NoSuchLine : goal.returns-in-NoSuchLine
returns-in-NoSuchLine c evidence =
    c.place_finding.ensures
    ∙ place-told c.args.checker.now.network c.args.report.now (reverse c.args.checker.now.lines) c.inside.result.1.now
    c.inside.ensures.kept
    ∙ sym (ap (last_finding c.args.checker.now.network (reverse c.args.checker.now.lines) c.args.report.now)
    c.in-NoSuchLine.is)

pub returns-in-BrokenJourney : goal.returns-in-BrokenJourney
returns-in-BrokenJourney c evidence =
    c.broken_journey.ensures
    ∙ ways-told c.args.checker.now.network c.args.report.now (reverse c.args.checker.now.lines) c.inside.result.1.now
    c.inside.ensures.kept c.args.self.now.exceptions evidence c.last_number-number.result c.last_number-number.ensures
    ∙ sym (ap (last_finding c.args.checker.now.network (reverse c.args.checker.now.lines) c.args.report.now)
    c.in-BrokenJourney.is)
