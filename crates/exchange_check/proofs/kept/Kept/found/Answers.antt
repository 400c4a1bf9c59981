use Rattle.std.proofs.Common.{◌∙◌, ap}
use Rattle.std.specs.Result.{result_ok}
use Rattle.exchange_check.proofs.Placed.{placed_found}
use Rattle.exchange_check.proofs.kept.Kept.found.Goals as goal

pub returns-clause-lines : goal.returns-clause-lines
returns-clause-lines c =
    ap result_ok c.placed.ensures ∙ placed_found c.args.self.now c.args.report.now c.args.fact.now
