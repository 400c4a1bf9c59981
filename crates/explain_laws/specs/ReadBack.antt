-- What the JSON of a judged report is read as. `laws::judgements_are_json` promises it.
use Rattle.std.specs.Prelude.{◌≡◌, ◌<◌, ◌^◌, ℕ, ℤ, Bool, true, List, [], ◌∷◌, ◌++◌, codes, if◌then◌else◌, Option, Some, None}
use Rattle.std.specs.Prelude.{option_map, IfSome}
use Rattle.std.specs.List.{list_all}
use Rattle.serde_json.specs.Data.{Data, null, string, array, object, Items, item, no_items, member, no_members}
use Rattle.ptp_units.specs.Moment.{bound}
use Rattle.ptp_units.specs.Nanoseconds.{nanoseconds_text}
use Rattle.network_model.specs.Name.{IsName}
use Rattle.trace_model.specs.declared.judgement.Results.{Results}
use Rattle.trace_model.specs.declared.verdict.Why.{Why}
use Rattle.trace_model.specs.Refusal.{code_of}
use Rattle.schedule_lines.specs.Json.{value_in}
use Rattle.schedule_lines.specs.Ranges.{HasTags}
use Rattle.schedule_lines.specs.Written.{whole, moment_data, difference_data, tags_data}
use Rattle.schedule_reading.specs.declared.transcript.Judged.{Judged}
use Rattle.explain_laws.specs.Measurements.{IsOf128Bits, is_printed}
use Rattle.explain_transcript.specs.declared.details.Details.{Details}
use Rattle.explain_transcript.specs.declared.details.Moments.{Moments}
use Rattle.explain_transcript.specs.declared.details.Octets.{Octets}
use Rattle.explain_transcript.specs.declared.details.Octets.TheVariants.{Told, Other}
use Rattle.explain_transcript.specs.Judged.{are_known, difference, errors_against, judged_text, sum}

-- results of 128 bits
abbrev pub AreOf128Bits : Results → Type 0
AreOf128Bits results = IsOf128Bits results.offset2 × IsOf128Bits results.path2

-- four moments are such
pub record AreMoments (moments : Moments) : Type 0 where
  pub t1 : moments.t1 < bound
  pub t2 : moments.t2 < bound
  pub t3 : moments.t3 < bound
  pub t4 : moments.t4 < bound

-- a judgement's numbers have 64 bits, its results 128, its slave has a name that a node may have, and its times are moments
pub record IsWithinRange (judged : Judged) (details : Details) : Type 0 where
  pub event : judged.event < 2 ^ 64
  pub line : judged.line < 2 ^ 64
  pub node : IsName judged.node
  pub offset2 : IsOf128Bits judged.report.offset2
  pub path2 : IsOf128Bits judged.report.path2
  pub by_readings : IfSome judged.judgement.by_readings AreOf128Bits
  pub by_messages : IfSome details.by_messages AreOf128Bits
  pub otherwise : IfSome details.otherwise (λ event. event < 2 ^ 64)
  pub moments : IfSome details.moments AreMoments
  pub tags : HasTags judged.report
  pub time : IfSome details.time (λ time. time < bound)

-- two results as a value, or null
abbrev pub results_data : Option Results → Data
results_data None = null
results_data (Some results) =
    object (member (codes "offset2") (difference_data results.offset2)
    (member (codes "path2") (difference_data results.path2) no_members))

-- two brackets in nanoseconds as a value, where both are there, or null
abbrev pub both_brackets_data : (a2 b2 : Option ℤ) → Data
both_brackets_data None b2 = null
both_brackets_data (Some a2) None = null
both_brackets_data (Some a2) (Some b2) =
    object (member (codes "a") (string (nanoseconds_text a2))
    (member (codes "b") (string (nanoseconds_text b2)) no_members))

-- the two brackets of these results as a value, or null
abbrev pub brackets_data : Option Results → Data
brackets_data None = null
brackets_data (Some results) =
    both_brackets_data (sum results.path2 results.offset2) (difference results.path2 results.offset2)

-- two errors in nanoseconds as a value, or null
abbrev pub errors_data : Option Results → Data
errors_data None = null
errors_data (Some errors) =
    object (member (codes "offset") (string (nanoseconds_text errors.offset2))
    (member (codes "path") (string (nanoseconds_text errors.path2)) no_members))

-- the errors against the results by the messages and by the readings, where there are any by the readings, or null
abbrev pub error_data : (known : Bool) → (by_messages by_readings : Option Results) → Data
error_data known by_messages by_readings = if known then
    object (member (codes "by_messages") (errors_data by_messages)
    (member (codes "by_readings") (errors_data by_readings) no_members)) else null

-- in which fields octets differ as a value, or null
abbrev pub octets_data : Option Octets → Data
octets_data None = null
octets_data (Some Told) = string (codes "told")
octets_data (Some Other) = string (codes "other")

-- the number of an event as a value, or null
abbrev pub event_data : Option ℕ → Data
event_data None = null
event_data (Some event) = whole event

-- a moment as a value, or null
abbrev pub time_data : Option ℕ → Data
time_data None = null
time_data (Some time) = moment_data time

-- the numbers of reasons as values
abbrev pub codes_data : List Why → Items
codes_data [] = no_items
codes_data (why ∷ others) = item (whole (code_of why)) (codes_data others)

-- what a report is judged to be as a value: an object of these members
abbrev pub judged_data : Judged → Details → Data
judged_data judged details = object
    (member (codes "brackets") (brackets_data judged.judgement.by_readings)
    (member (codes "by_messages") (results_data details.by_messages)
    (member (codes "by_readings") (results_data judged.judgement.by_readings)
    (member (codes "error") (error_data (are_known judged.judgement.by_readings)
    (errors_against judged.report details.by_messages) (errors_against judged.report judged.judgement.by_readings))
    (member (codes "event") (whole judged.event)
    (member (codes "line") (whole judged.line)
    (member (codes "node") (string judged.node)
    (member (codes "octets") (octets_data details.octets)
    (member (codes "offset2") (difference_data judged.report.offset2)
    (member (codes "otherwise") (event_data details.otherwise)
    (member (codes "path2") (difference_data judged.report.path2)
    (member (codes "reasons") (array (codes_data judged.judgement.reasons))
    (member (codes "t1") (time_data (option_map (λ moments. moments.t1) details.moments))
    (member (codes "t2") (time_data (option_map (λ moments. moments.t2) details.moments))
    (member (codes "t3") (time_data (option_map (λ moments. moments.t3) details.moments))
    (member (codes "t4") (time_data (option_map (λ moments. moments.t4) details.moments))
    (member (codes "tags") (tags_data judged.report)
    (member (codes "time") (time_data details.time) no_members))))))))))))))))))

-- the JSON of a judged report is one line, which is read as that value
abbrev pub EachJudgementIsJson : Type 0
EachJudgementIsJson =
    (judged : Judged) (details : Details) → IsWithinRange judged details
    → (line : List ℕ) × (judged_text judged details ≡ line ++ codes "\n") × (list_all is_printed line ≡ true)
    × (value_in line ≡ Some (judged_data judged details))
