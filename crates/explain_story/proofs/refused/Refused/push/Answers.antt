use Rattle.explain_story.proofs.Told.{case_told}
use Rattle.explain_story.proofs.refused.Refused.push.Goals as goal

pub returns : goal.returns
returns c =
    let (reasons, tells, reasoned) = c.in_ok-push_reasons.ensures in
    let (lines, below, placed) = c.in_ok-push_moments.ensures in
    case_told c.push_which.result c.args.self.now.case.reported.now c.args.self.now.by_messages _ _ _ _ _ _ reasons lines
    c.in_ok-push_begin.ensures reasoned placed c.in_ok-push_results.ensures tells below c.push_which.ensures
