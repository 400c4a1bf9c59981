-- Texts, each behind the one before.
use Rattle.std.proofs.Common.{◌≡◌, ◌∙◌, ◌++◌, List, ℕ, Option, Some, ap, sym, append_assoc, codes}
use Rattle.schedule_reading.specs.declared.transcript.Judged.{Judged}
use Rattle.explain_transcript.specs.declared.details.Details.{Details}
use Rattle.explain_transcript.specs.declared.details.Moments.{Moments}
use Rattle.std.specs.Fmt.{decimal, signed_decimal}
use Rattle.explain_transcript.specs.Judged.{are_known, brackets_text, errors_against, error_text, event_text, octets_text}
use Rattle.explain_transcript.specs.Judged.{moments_text, owed_text, reported_text, results_text, time_text}

pub joined : (old first second one two three : List ℕ) → first ≡ old ++ one → second ≡ first ++ two
    → second ++ three ≡ old ++ (one ++ (two ++ three))
joined old first second one two three p q = rw (q, p) (simp append_assoc)

eight : (old a b c d e f g h : List ℕ)
    → (old ++ (a ++ (b ++ (c ++ (d ++ (e ++ (f ++ g))))))) ++ h ≡ old ++ (a ++ b ++ c ++ d ++ e ++ f ++ g ++ h)
eight old a b c d e f g h = simp append_assoc

-- the two brackets and the two results that a report should have, and behind them how wrong its own are
pub owed_joined : (judged : Judged) (details : Details) (old first error : List ℕ)
    → first ≡ old ++ (codes "{\"brackets\":" ++ (brackets_text judged.judgement.by_readings ++ (codes ",\"by_messages\":"
    ++ (results_text details.by_messages ++ (codes ",\"by_readings\":"
    ++ (results_text judged.judgement.by_readings ++ codes ",\"error\":"))))))
    → error ≡ error_text (are_known judged.judgement.by_readings)
    (errors_against judged.report details.by_messages) (errors_against judged.report judged.judgement.by_readings)
    → first ++ error ≡ old ++ owed_text judged details
owed_joined judged details old first error p q =
    (λ i. p i ++ q i)
    ∙ eight old (codes "{\"brackets\":") (brackets_text judged.judgement.by_readings) (codes ",\"by_messages\":")
    (results_text details.by_messages) (codes ",\"by_readings\":")
    (results_text judged.judgement.by_readings) (codes ",\"error\":")
    (error_text (are_known judged.judgement.by_readings)
    (errors_against judged.report details.by_messages) (errors_against judged.report judged.judgement.by_readings))

fifteen : (old a b c d e f g h i j k l m n o : List ℕ)
    → (old ++ (a ++ (b ++ (c ++ (d ++ (e ++ (f ++ (g ++ h)))))))) ++ (i ++ (j ++ (k ++ (l ++ (m ++ (n ++ o))))))
    ≡ old ++ (a ++ b ++ c ++ d ++ e ++ f ++ g ++ h ++ i ++ j ++ k ++ l ++ m ++ n ++ o)
fifteen old a b c d e f g h i j k l m n o = simp append_assoc

-- where a report stands, and behind it its two results and what tells otherwise
pub reported_joined : (judged : Judged) (details : Details) (old first node : List ℕ) → node ≡ judged.node
    → first ≡ old ++ (codes ",\"event\":" ++ (decimal judged.event ++ (codes ",\"line\":" ++ (decimal judged.line
    ++ (codes ",\"node\":\"" ++ (node ++ (codes "\",\"octets\":" ++ octets_text details.octets)))))))
    → first ++ (codes ",\"offset2\":\"" ++ (signed_decimal judged.report.offset2 ++ (codes "\",\"otherwise\":"
    ++ (event_text details.otherwise ++ (codes ",\"path2\":\""
    ++ (signed_decimal judged.report.path2 ++ codes "\"")))))) ≡ old ++ reported_text judged details
reported_joined judged details old first node same p =
    (λ i. p i ++ (codes ",\"offset2\":\"" ++ (signed_decimal judged.report.offset2 ++ (codes "\",\"otherwise\":"
    ++ (event_text details.otherwise ++ (codes ",\"path2\":\""
    ++ (signed_decimal judged.report.path2 ++ codes "\"")))))))
    ∙ fifteen old (codes ",\"event\":") (decimal judged.event) (codes ",\"line\":") (decimal judged.line)
    (codes ",\"node\":\"") node (codes "\",\"octets\":") (octets_text details.octets) (codes ",\"offset2\":\"")
    (signed_decimal judged.report.offset2) (codes "\",\"otherwise\":") (event_text details.otherwise) (codes ",\"path2\":\"")
    (signed_decimal judged.report.path2) (codes "\"")
    ∙ (λ i. old ++ (codes ",\"event\":" ++ decimal judged.event ++ codes ",\"line\":" ++ decimal judged.line
    ++ codes ",\"node\":\"" ++ same i ++ codes "\",\"octets\":" ++ octets_text details.octets
    ++ codes ",\"offset2\":\"" ++ signed_decimal judged.report.offset2
    ++ codes "\",\"otherwise\":" ++ event_text details.otherwise
    ++ codes ",\"path2\":\"" ++ signed_decimal judged.report.path2 ++ codes "\""))

four : (one two three last : List ℕ)
    → codes "\"t1\":" ++ (one ++ (codes ",\"t2\":" ++ (two ++ (codes ",\"t3\":" ++ (three ++ (codes ",\"t4\":" ++ last))))))
    ≡ codes "\"t1\":" ++ one ++ codes ",\"t2\":" ++ two ++ codes ",\"t3\":" ++ three ++ codes ",\"t4\":" ++ last
four one two three last = simp append_assoc

-- the four moments of an exchange, each behind its key
pub moments_joined : (told : Option Moments) (moments : Moments) → told ≡ Some moments
    → codes "\"t1\":" ++ (time_text (Some moments.t1) ++ (codes ",\"t2\":" ++ (time_text (Some moments.t2)
    ++ (codes ",\"t3\":" ++ (time_text (Some moments.t3) ++ (codes ",\"t4\":" ++ time_text (Some moments.t4)))))))
    ≡ moments_text told
moments_joined told moments some =
    four (time_text (Some moments.t1)) (time_text (Some moments.t2)) (time_text (Some moments.t3)) (time_text (Some moments.t4))
    ∙ ap moments_text (sym some)
