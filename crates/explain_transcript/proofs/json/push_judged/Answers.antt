use Rattle.std.proofs.lemmas.Result.{IfOk-equal}
use Rattle.explain_transcript.proofs.Joined.{joined}
use Rattle.explain_transcript.proofs.json.push_judged.Goals as goal

pub returns : goal.returns
returns c =
    IfOk-equal c.push_reasons.result _ _ _ c.push_reasons.ensures
    (joined _ _ _ _ _ _ c.in_ok-push_owed.ensures c.in_ok-push_reported.ensures)
