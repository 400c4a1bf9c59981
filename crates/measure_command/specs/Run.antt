-- How `measure` runs.
use Rattle.std.specs.Prelude.{◌≡◌, ⊤, ℕ, Bool, true, false, ◌&&◌, ◌||◌, List, Option, Some, None, Result, Ok, Err, MatchResult, if◌then◌else◌}
use Rattle.std.specs.Option.{ForSome}
use Rattle.std.specs.Result.{is_ok}
use Rattle.text_lines.specs.declared.counted.Counted.{Counted}
use Rattle.text_lines.specs.declared.fault.Cause.{Cause}
use Rattle.text_lines.specs.declared.fault.Cause.TheVariants as lines
use Rattle.text_lines.specs.declared.fault.Stopped.{Stopped}
use Rattle.text_lines.specs.Counted.{device_of, HasNotFailed, HasFailedIf}
use Rattle.text_lines.specs.Fault.{is_write}
use Rattle.text_lines.specs.declared.line_fault.LineFault.{LineFault}
use Rattle.text_lines.specs.declared.line_fault.LineFault.TheVariants.{Write, Field, Memory}
use Rattle.capture_file.specs.declared.fault.CaptureCause.{CaptureCause}
use Rattle.capture_file.specs.declared.fault.CaptureCause.TheVariants as captures
use Rattle.capture_file.specs.declared.fault.CaptureStop.{CaptureStop}
use Rattle.datagram_source.specs.declared.input.InputOutcome.{InputOutcome}
use Rattle.datagram_source.specs.declared.input.InputOutcome.TheVariants.{Lines, Capture}
use Rattle.datagram_source.specs.Input.{AnswersInput, OutcomeFailed}
use Rattle.datagram_source.specs.Left.{LeavesInput}
use Rattle.recording_summary.specs.declared.beware.Rounded.{Rounded}
use Rattle.recording_summary.specs.declared.counts.Counts.{Counts}
use Rattle.recording_summary.specs.Bewares.{is_doubtful, is_beyond}
use Rattle.recording_measure.specs.declared.form.Form.{Form}
use Rattle.recording_measure.specs.declared.form.Form.TheVariants.{Json, Table, FullJson, FullTable, Sums}
use Rattle.recording_measure.specs.declared.watch.WantedPorts.{WantedPorts}
use Rattle.recording_measure.specs.declared.input.Summary.{Summary}
use Rattle.recording_measure.specs.Measure.{begun, head_text, measure_rules}
use Rattle.recording_measure.specs.Summed.{WritesLine}
use Rattle.recording_measure.specs.Told.{counts_told, IsSummary}
use Rattle.command_options.specs.declared.MeasureOptions.{MeasureOptions}
use Rattle.capture_report.specs.Status.{outcome_status, judged}

-- whom `measure` is asked to watch
abbrev pub wanted_of : MeasureOptions → WantedPorts
wanted_of options = record {
  slave = options.slave;
  master = options.master;
  domain = options.domain;
  interface = options.interface;
  readings = options.readings;
}

-- how measurements are asked for
abbrev pub form_of : MeasureOptions → Form
form_of options =
    if options.sum then Sums
    else if options.full then if options.csv then FullTable else FullJson
    else if options.csv then Table else Json

-- ---- sums
-- whether a fault says that a line isn't what is asked for
abbrev pub is_field : LineFault → Bool
is_field Write = false
is_field Field = true
is_field Memory = false

abbrev pub line_cause_leaves : Cause LineFault → Bool
line_cause_leaves (lines.Reading fault) = true
line_cause_leaves (lines.Task fault) = is_field fault

abbrev pub capture_cause_leaves : CaptureCause LineFault → Bool
capture_cause_leaves captures.Read = true
capture_cause_leaves captures.Memory = false
capture_cause_leaves (captures.Capture fault) = true
capture_cause_leaves (captures.Task fault) = is_field fault

abbrev pub lines_leave : Result ℕ (Stopped (Cause LineFault)) → Bool
lines_leave (Ok count) = true
lines_leave (Err stop) = line_cause_leaves stop.what

abbrev pub capture_leaves : Result ℕ (CaptureStop LineFault) → Bool
capture_leaves (Ok count) = true
capture_leaves (Err stop) = capture_cause_leaves stop.what

-- whether sums are written after this outcome: at the end, and after a fault of reading or of the input
abbrev pub leaves_sums : InputOutcome LineFault → Bool
leaves_sums (Lines answer) = lines_leave answer
leaves_sums (Capture answer) = capture_leaves answer

-- which failed: the writer at 802, at which no more is said of what went out
abbrev pub SumsFailed : {W : Type 0} → Result ⊤ LineFault → (output output' : Counted W) → Type 0
SumsFailed wrote output output' = MatchResult wrote
    (λ _. HasNotFailed output output')
    (λ fault. HasFailedIf (is_write fault) output output')

-- the line went out after what gave this status, or didn't, which gives 3
abbrev pub EndsWithSums : {W : Type 0} → (W → Option (List ℕ)) → (status status' : ℕ) → (output output' : Counted W) → Type 0
EndsWithSums contents status status' output output' =
    (wrote : Result ⊤ LineFault) × (status' ≡ (if is_ok wrote then status else 3))
    × SumsFailed wrote output output'
    × WritesLine wrote (contents (device_of output)) (contents (device_of output'))

-- the line is written where it is asked for and left
abbrev pub EndsAs : {W : Type 0} → (W → Option (List ℕ)) → (is_asked : Bool) → (status status' : ℕ) → (output output' : Counted W) → Type 0
EndsAs contents true status status' output output' = EndsWithSums contents status status' output output'
EndsAs contents false status status' output output' = (status' ≡ status) × (output' ≡ output)

-- ---- what is asked of the numbers
-- whether an offset is greater than the limit, either way, where there is one
abbrev pub is_beyond_limit : Option ℕ → Counts → Bool
is_beyond_limit None counts = false
is_beyond_limit (Some limit) counts = is_beyond limit counts

-- the numbers aren't as they are asked for: an offset is greater than the limit, or what is asked strictly is doubtful
abbrev pub are_refused : (is_strict is_beyond is_doubtful : Bool) → Bool
are_refused is_strict is_beyond is_doubtful = is_beyond || (is_strict && is_doubtful)

abbrev pub is_refused : MeasureOptions → Rounded → Counts → Bool
is_refused options rounded counts =
    are_refused options.strict (is_beyond_limit options.limit counts) (is_doubtful rounded counts)

-- `measure` ran by these options: what came of its input, its sums and what is asked of the numbers gave the status, and say what was
-- read and written
abbrev pub RunsMeasure : {R W : Type 0} → (R → Option (List ℕ)) → (W → Option (List ℕ)) → MeasureOptions → ℕ
    → (input input' : Counted R) (output output' : Counted W) → Type 0
RunsMeasure {W = W} remaining contents options status input input' output output' =
    (outcome : InputOutcome LineFault) × (summary : Summary) × (rounded : Rounded) × (measured : Counted W) × (ended : ℕ)
    × (status ≡ judged ended (is_refused options rounded (counts_told summary)))
    × OutcomeFailed measure_rules outcome input input' output measured
    × AnswersInput measure_rules (head_text (form_of options)) (begun (form_of options) (wanted_of options)) remaining contents outcome
    input input' output measured
    × ForSome (remaining (device_of input)) (λ octets.
    LeavesInput measure_rules (begun (form_of options) (wanted_of options)) octets outcome (IsSummary summary))
    × EndsAs contents (options.sum && leaves_sums outcome) (outcome_status outcome) ended measured output'
