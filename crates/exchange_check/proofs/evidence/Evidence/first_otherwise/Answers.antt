use Rattle.std.proofs.Common.{◌∙◌}
use Rattle.std.specs.Prelude.{reverse}
use Rattle.exchange_check.proofs.OtherwiseTold.{otherwise-told}
use Rattle.exchange_check.proofs.evidence.Evidence.first_otherwise.Goals as goal

pub returns : goal.returns
returns c evidence =
    c.report_otherwise.ensures
    ∙ otherwise-told c.args.checker.now.network c.args.report.now (reverse c.args.checker.now.lines)
    c.inside.result.1.now c.inside.ensures.kept c.args.self.now.exceptions evidence c.last_number.result
    c.last_number.ensures
