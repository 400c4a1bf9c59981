use Rattle.explain_story.specs.Inner.Tally.{counts_in}
use Rattle.explain_story.proofs.Counted.{no_report_told, reports_told}
use Rattle.explain_story.proofs.tally.Tally.push.Goals as goal

pub returns-then-self-eq0 : goal.returns-then-self-eq0
returns-then-self-eq0 c =
    no_report_told c.push_str.result (counts_in c.args.self.now) c.args.self.now.by_messages c.args.messages _ _ c.if-self-eq0.true
    c.push_str.ensures.bytes

pub returns : goal.returns
returns c =
    reports_told c.push_aside.result (counts_in c.args.self.now) c.args.self.now.by_messages c.args.messages c.noun.result.now _ _ _ _ _
    c.if-self-eq0.false c.noun.ensures c.in_ok-write.ensures.bytes c.in_ok-push_failing.ensures c.in_ok-push_right.ensures c.push_aside.ensures
