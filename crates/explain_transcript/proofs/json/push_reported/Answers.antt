use Rattle.std.proofs.lemmas.Result.{IfOk-equal}
use Rattle.explain_transcript.proofs.Joined.{reported_joined}
use Rattle.explain_transcript.proofs.json.push_reported.Goals as goal

pub returns : goal.returns
returns c =
    IfOk-equal c.write-2.result _ _ _ c.write-2.ensures.bytes
    (reported_joined c.args.judged.now c.args.details.now _ _ _ c.text.ensures.value c.in_ok-write.ensures.bytes)
