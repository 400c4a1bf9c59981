use Rattle.std.proofs.Common.{◌≡◌}
use Rattle.std.proofs.lemmas.Result.{IfOk-equal}
use Rattle.explain_transcript.specs.Judged.{are_known, errors_against, error_text}
use Rattle.explain_transcript.proofs.Joined.{owed_joined}
use Rattle.explain_transcript.proofs.json.push_owed.Goals as goal

pub returns : goal.returns
returns c =
    let known : c.error_of.result.known ≡ are_known c.args.judged.now.judgement.by_readings = c.error_of.ensures.known in
    let by_messages : c.error_of.result.by_messages ≡ errors_against c.args.judged.now.report c.args.details.now.by_messages =
    c.error_of.ensures.by_messages in
    let by_readings : c.error_of.result.by_readings
    ≡ errors_against c.args.judged.now.report c.args.judged.now.judgement.by_readings = c.error_of.ensures.by_readings in
    IfOk-equal c.write-2.result _ _ _ c.write-2.ensures.bytes
    (owed_joined c.args.judged.now c.args.details.now _ _ _ c.in_ok-write.ensures.bytes
    (λ i. error_text (known i) (by_messages i) (by_readings i)))
