use Rattle.explain_story.specs.Inner.Tally.{counts_in}
use Rattle.explain_story.proofs.Counted.{right_told, right_untold}
use Rattle.explain_story.proofs.tally.Tally.push_right.Goals as goal

pub returns-then-self : goal.returns-then-self
returns-then-self c = right_untold (counts_in c.args.self.now) c.args.self.now.by_messages _ c.if-self.true

pub returns : goal.returns
returns c =
    right_told c.push_of_reports-2.result (counts_in c.args.self.now) c.args.self.now.by_messages _ _ _ _ _ c.if-self.false
    c.in_ok-push_str.ensures.bytes c.in_ok-push_of_reports.ensures c.in_ok-push_str-2.ensures.bytes c.push_of_reports-2.ensures
