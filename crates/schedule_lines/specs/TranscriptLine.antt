-- Which node or event with its answer a line of a transcript is, from its JSON value. Each form has just its keys.
use Rattle.std.specs.Prelude.{ℕ, ℤ, ◌+◌, List, [], length, codes, if◌then◌else◌, Option, Some, None, option_map, option_and_then}
use Rattle.std.specs.Prelude.{is_some, unwrap_or}
use Rattle.std.specs.Str.{bytes_eq}
use Rattle.serde_json.specs.Data.{Data, null, boolean, number, string, array, object}
use Rattle.serde_json.specs.Find.{get, as_str}
use Rattle.slave_port.specs.declared.heard.Report.{Report}
use Rattle.network_model.specs.Run.{true_moment}
use Rattle.trace_model.specs.declared.line.TraceLine.{TraceLine}
use Rattle.trace_model.specs.declared.line.TraceOut.{TraceOut}
use Rattle.schedule_lines.specs.Json.{field, has_keys, has_items, item_at, moment_in, whole_in, whole_below}
use Rattle.schedule_lines.specs.Json.{octets_in, difference_in}
use Rattle.schedule_lines.specs.Line.{event_in, event_keys, node_spec_in}
use Rattle.schedule_lines.specs.EventKind.{kind_of_event}
use Rattle.schedule_lines.specs.Needed.{outcome_keys, reading_keys}
use Rattle.schedule_lines.specs.Written.{out_text}
use Rattle.schedule_lines.specs.declared.reading.transcript.TranscriptLine.{TranscriptLine}
use Rattle.trace_model.specs.declared.line.TraceOut.TheVariants as outs
use Rattle.schedule_lines.specs.declared.reading.transcript.TranscriptLine.TheVariants as lines

-- what a value is, and then what it is with that
infixl 10 ◌>>=◌
abbrev ◌>>=◌ : {A B : Type 0} → Option A → (A → Option B) → Option B
o >>= f = option_and_then f o

-- the tag of a Follow_Up, or null after a one-step Sync
abbrev pub follow_in : Data → Option (Option ℕ)
follow_in null = Some None
follow_in (boolean b) = None
follow_in (number n) = option_map Some (whole_in (number n))
follow_in (string s) = None
follow_in (array ds) = None
follow_in (object ms) = None

-- a report with the tags in an array: sync, follow, request, response
abbrev pub report_of : ℤ → ℤ → Data → Option Report
report_of offset2 path2 tags =
    if has_items 4 tags then (do
      sync ← item_at whole_in 0 tags
      follow ← item_at follow_in 1 tags
      request ← item_at whole_in 2 tags
      response ← item_at whole_in 3 tags
      Some (record {
        offset2 = offset2;
        path2 = path2;
        sync_tag = sync;
        follow_tag = follow;
        request_tag = request;
        response_tag = response;
      }))
    else None

-- the report that a slave gave
abbrev pub report_in : Data → Option Report
report_in d = do
  offset2 ← field difference_in (codes "offset2") d
  path2 ← field difference_in (codes "path2") d
  field (report_of offset2 path2) (codes "tags") d

-- the octets of the message that was made
abbrev pub made_in : Data → Option TraceOut
made_in d = option_map (λ octets. outs.Made (record { items = octets })) (field octets_in (codes "hex") d)

-- the number of a reason or a refusal
abbrev pub code_in : Data → Option ℕ
code_in d = field (whole_below 65536) (codes "code") d

-- what an event is said to have brought about, from the text of `out`
abbrev pub out_of : List ℕ → Data → Option TraceOut
out_of text d =
    if bytes_eq text (codes "done") then Some outs.Done
    else if bytes_eq text (codes "made") then made_in d
    else if bytes_eq text (codes "entered") then Some outs.Entered
    else if bytes_eq text (codes "held") then Some outs.Held
    else if bytes_eq text (codes "completed") then Some outs.Completed
    else if bytes_eq text (codes "report") then option_map outs.Report (report_in d)
    else if bytes_eq text (codes "ignored") then option_map outs.Ignored (code_in d)
    else if bytes_eq text (codes "refused") then option_map outs.Refused (code_in d)
    else None

-- how many keys tell what an event brought about, beside `out`
abbrev pub out_keys : TraceOut → ℕ
out_keys out = length (unwrap_or (outcome_keys (out_text out)) [])

-- what the node's clock is said to have read, for an event that has a true moment and for no other
abbrev pub reading_in : Option ℕ → Data → Option (Option ℕ)
reading_in None d = Some None
reading_in (Some at) d = option_map Some (field moment_in (codes "reading") d)

-- how many keys the line of an event has, `out` and `n` among them
abbrev pub line_keys : TraceLine → ℕ
line_keys line = event_keys line.event + length (reading_keys (kind_of_event line.event)) + out_keys line.out + 2

-- what was recorded of an event, whatever keys stand beside those that tell it
abbrev pub trace_line_in : Data → Option TraceLine
trace_line_in d = do
  event ← event_in d
  reading ← reading_in (true_moment event) d
  text ← field as_str (codes "out") d
  out ← out_of text d
  Some (record { event = event; reading = reading; out = out })

-- the event's number and what was recorded of it, with just their keys
abbrev pub traced_in : Data → Option TranscriptLine
traced_in d = do
  line ← trace_line_in d
  n ← field whole_in (codes "n") d
  if has_keys (line_keys line) d then Some (lines.Event n line) else None

-- the line that a value is, or None where keys are missing or too many, or a key's value isn't what is asked for
abbrev pub transcript_line_of : Data → Option TranscriptLine
transcript_line_of d = if is_some (get (codes "ev") d) then traced_in d else option_map lines.Node (node_spec_in d)
