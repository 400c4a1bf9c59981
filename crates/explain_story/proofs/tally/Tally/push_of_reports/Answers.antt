use Rattle.explain_story.specs.Inner.Tally.{counts_in}
use Rattle.explain_story.proofs.Counted.{of_reports_told}
use Rattle.explain_story.proofs.tally.Tally.push_of_reports.Goals as goal

pub returns : goal.returns
returns c =
    of_reports_told c.write.result (counts_in c.args.self.now) c.args.count c.noun.result.now _ _ c.noun.ensures c.write.ensures.bytes
