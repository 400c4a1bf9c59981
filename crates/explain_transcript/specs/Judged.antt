-- What the report of a line is judged to be (IEEE 1588-2019, 11.2 and 11.3), as JSON.
use Rattle.std.specs.Prelude.{ℕ, ◌^◌, nat_lt, ℤ, pos, negsuc, ◌+ℤ◌, ◌-ℤ◌, Bool, true, false, List, ◌++◌, codes}
use Rattle.std.specs.Prelude.{if◌then◌else◌, Option, Some, None}
use Rattle.std.specs.List.{join_by}
use Rattle.std.specs.Fmt.{decimal, signed_decimal}
use Rattle.ptp_units.specs.Moment.{stamp_of, fraction_of}
use Rattle.ptp_units.specs.Nanoseconds.{nanoseconds_text}
use Rattle.slave_port.specs.declared.heard.Report.{Report}
use Rattle.trace_model.specs.declared.judgement.Results.{Results}
use Rattle.trace_model.specs.declared.verdict.Why.{Why}
use Rattle.trace_model.specs.Refusal.{code_of}
use Rattle.schedule_reading.specs.declared.transcript.Judged.{Judged}
use Rattle.explain_transcript.specs.declared.details.Details.{Details}
use Rattle.explain_transcript.specs.declared.details.Moments.{Moments}
use Rattle.explain_transcript.specs.declared.details.Octets.{Octets}
use Rattle.explain_transcript.specs.declared.details.Octets.TheVariants.{Told, Other}

-- two results, or null
abbrev pub results_text : Option Results → List ℕ
results_text None = codes "null"
results_text (Some results) =
    codes "{\"offset2\":\"" ++ signed_decimal results.offset2
    ++ codes "\",\"path2\":\"" ++ signed_decimal results.path2 ++ codes "\"}"

-- a number, where it has 128 bits with its sign
abbrev pub of_128_bits : ℤ → Option ℤ
of_128_bits (pos n) = if nat_lt n (2 ^ 127) then Some (pos n) else None
of_128_bits (negsuc n) = if nat_lt n (2 ^ 127) then Some (negsuc n) else None

-- what one number has more than another, where that has 128 bits
abbrev pub difference : ℤ → ℤ → Option ℤ
difference one other = of_128_bits (one -ℤ other)

-- what two numbers make together, where that has 128 bits
abbrev pub sum : ℤ → ℤ → Option ℤ
sum one other = of_128_bits (one +ℤ other)

-- two brackets in nanoseconds, exactly, where both are there
abbrev pub both_brackets : (a2 b2 : Option ℤ) → List ℕ
both_brackets None b2 = codes "null"
both_brackets (Some a2) None = codes "null"
both_brackets (Some a2) (Some b2) =
    codes "{\"a\":\"" ++ nanoseconds_text a2 ++ codes "\",\"b\":\"" ++ nanoseconds_text b2 ++ codes "\"}"

-- the two brackets, of which the offset is half of what the first has more than the second, and the path delay half of what
-- they make together; or null
abbrev pub brackets_text : Option Results → List ℕ
brackets_text None = codes "null"
brackets_text (Some results) = both_brackets (sum results.path2 results.offset2) (difference results.path2 results.offset2)

-- two differences, where both are there
abbrev pub both_differences : (offset2 path2 : Option ℤ) → Option Results
both_differences (Some offset2) (Some path2) = Some (record { offset2 = offset2; path2 = path2 })
both_differences _ _ = None

-- what the two results of a report have more than these
abbrev pub errors_against : Report → Option Results → Option Results
errors_against report None = None
errors_against report (Some results) =
    both_differences (difference report.offset2 results.offset2) (difference report.path2 results.path2)

-- two errors in nanoseconds, exactly, or null
abbrev pub errors_text : Option Results → List ℕ
errors_text None = codes "null"
errors_text (Some errors) =
    codes "{\"offset\":\"" ++ nanoseconds_text errors.offset2
    ++ codes "\",\"path\":\"" ++ nanoseconds_text errors.path2 ++ codes "\"}"

-- whether there are results by the readings, with which those of a report can be compared
abbrev pub are_known : (by_readings : Option Results) → Bool
are_known None = false
are_known (Some results) = true

-- the errors against the results by the messages and by the readings, where there are any by the readings, or null
abbrev pub error_text : (known : Bool) → (by_messages by_readings : Option Results) → List ℕ
error_text known by_messages by_readings = if known then
    (codes "{\"by_messages\":" ++ errors_text by_messages ++ codes ",\"by_readings\":" ++ errors_text by_readings
    ++ codes "}") else codes "null"

-- the numbers of reasons, with commas between them
abbrev pub codes_text : List Why → List ℕ
codes_text whys = join_by (λ why. decimal (code_of why)) (codes ",") whys

-- the number of an event, or null
abbrev pub event_text : Option ℕ → List ℕ
event_text None = codes "null"
event_text (Some event) = decimal event

-- in which fields octets differ, or null
abbrev pub octets_text : Option Octets → List ℕ
octets_text None = codes "null"
octets_text (Some Told) = codes "\"told\""
octets_text (Some Other) = codes "\"other\""

-- a moment `[s,n,f]`, in seconds, nanoseconds and 2^-16 ns, or null
abbrev pub time_text : Option ℕ → List ℕ
time_text None = codes "null"
time_text (Some time) =
    codes "[" ++ decimal (stamp_of time).seconds ++ codes "," ++ decimal (stamp_of time).nanos
    ++ codes "," ++ decimal (fraction_of time) ++ codes "]"

-- the four moments of an exchange, each with its key, or each with null
abbrev pub moments_text : Option Moments → List ℕ
moments_text None = codes "\"t1\":null,\"t2\":null,\"t3\":null,\"t4\":null"
moments_text (Some moments) =
    codes "\"t1\":" ++ time_text (Some moments.t1) ++ codes ",\"t2\":" ++ time_text (Some moments.t2)
    ++ codes ",\"t3\":" ++ time_text (Some moments.t3) ++ codes ",\"t4\":" ++ time_text (Some moments.t4)

-- the two brackets and the two results that a report should have, and how wrong its own are
abbrev pub owed_text : Judged → Details → List ℕ
owed_text judged details =
    codes "{\"brackets\":" ++ brackets_text judged.judgement.by_readings
    ++ codes ",\"by_messages\":" ++ results_text details.by_messages
    ++ codes ",\"by_readings\":" ++ results_text judged.judgement.by_readings
    ++ codes ",\"error\":" ++ error_text (are_known judged.judgement.by_readings)
    (errors_against judged.report details.by_messages) (errors_against judged.report judged.judgement.by_readings)

-- where a report stands, in which fields octets differ that it rests on, its two results, and the event that made the first
-- message that tells otherwise
abbrev pub reported_text : Judged → Details → List ℕ
reported_text judged details =
    codes ",\"event\":" ++ decimal judged.event
    ++ codes ",\"line\":" ++ decimal judged.line
    ++ codes ",\"node\":\"" ++ judged.node
    ++ codes "\",\"octets\":" ++ octets_text details.octets
    ++ codes ",\"offset2\":\"" ++ signed_decimal judged.report.offset2
    ++ codes "\",\"otherwise\":" ++ event_text details.otherwise
    ++ codes ",\"path2\":\"" ++ signed_decimal judged.report.path2 ++ codes "\""

-- the reasons against a report, its four moments, its tags, and when it was
abbrev pub reasons_text : Judged → Details → List ℕ
reasons_text judged details =
    codes ",\"reasons\":[" ++ codes_text judged.judgement.reasons
    ++ codes "]," ++ moments_text details.moments
    ++ codes ",\"tags\":[" ++ decimal judged.report.sync_tag
    ++ codes "," ++ event_text judged.report.follow_tag
    ++ codes "," ++ decimal judged.report.request_tag
    ++ codes "," ++ decimal judged.report.response_tag
    ++ codes "],\"time\":" ++ time_text details.time
    ++ codes "}\n"

-- what a report is judged to be, and what is told of it beside that, in one line
abbrev pub judged_text : Judged → Details → List ℕ
judged_text judged details = owed_text judged details ++ (reported_text judged details ++ reasons_text judged details)
