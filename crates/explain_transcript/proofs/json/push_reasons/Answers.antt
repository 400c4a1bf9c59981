use Rattle.std.proofs.Common.{◌≡◌, ◌++◌, List, ap, append_assoc, codes, decimal, string_bytes}
use Rattle.std.proofs.lemmas.Result.{IfOk-equal}
use Rattle.trace_model.specs.declared.verdict.Why.{Why}
use Rattle.explain_transcript.specs.Judged.{codes_text, event_text, moments_text, time_text}
use Rattle.explain_transcript.proofs.json.push_reasons.Goals as goal

pub returns : goal.returns
returns c =
    let whys : c.as_slice.result.now ≡ c.args.judged.now.judgement.reasons = c.as_slice.ensures in
    IfOk-equal c.write.result _ _ _ c.write.ensures.bytes
    (simp append_assoc
    (ap (λ (reasons : List Why). string_bytes c.args.text.now ++ (codes ",\"reasons\":[" ++ (codes_text reasons
    ++ (codes "]," ++ (moments_text c.args.details.now.moments
    ++ (codes ",\"tags\":[" ++ (decimal c.args.judged.now.report.sync_tag
    ++ (codes "," ++ (event_text c.args.judged.now.report.follow_tag
    ++ (codes "," ++ (decimal c.args.judged.now.report.request_tag
    ++ (codes "," ++ (decimal c.args.judged.now.report.response_tag
    ++ (codes "],\"time\":" ++ (time_text c.args.details.now.time ++ codes "}\n")))))))))))))))
    whys))
