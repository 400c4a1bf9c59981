-- How `follow` runs: its exit status, and what it says of what is read and written.
use Rattle.std.specs.Prelude.{◌≡◌, ⊤, ℕ, Bool, true, false, ◌==◌, ◌&&◌, List, Option, Some, None, Result, Ok, Err, MatchResult, if◌then◌else◌}
use Rattle.std.specs.Result.{is_ok}
use Rattle.std.specs.Option.{ForSome}
use Rattle.text_lines.specs.declared.counted.Counted.{Counted}
use Rattle.text_lines.specs.declared.fault.Cause.{Cause}
use Rattle.text_lines.specs.declared.fault.Cause.TheVariants as lines
use Rattle.text_lines.specs.declared.fault.Stopped.{Stopped}
use Rattle.text_lines.specs.Counted.{device_of, HasNotFailed, HasFailedIf}
use Rattle.capture_file.specs.declared.fault.CaptureCause.{CaptureCause}
use Rattle.capture_file.specs.declared.fault.CaptureCause.TheVariants as captures
use Rattle.capture_file.specs.declared.fault.CaptureStop.{CaptureStop}
use Rattle.command_options.specs.declared.FollowOptions.{FollowOptions}
use Rattle.datagram_source.specs.declared.input.InputOutcome.{InputOutcome}
use Rattle.datagram_source.specs.declared.input.InputOutcome.TheVariants.{Lines, Capture}
use Rattle.datagram_source.specs.Input.{OutcomeFailed}
use Rattle.tap_choice.specs.declared.wanted.WantedTaps.{WantedTaps}
use Rattle.tap_follow.specs.declared.following.Form.{Form}
use Rattle.tap_follow.specs.declared.following.Form.TheVariants.{Json, Table, Sums}
use Rattle.tap_follow.specs.declared.fault.FollowFault.{FollowFault}
use Rattle.tap_follow.specs.declared.fault.FollowFault.TheVariants.{Write, Field, Memory, ThirdTap}
use Rattle.tap_crossing.specs.declared.crossing.Crossing.{Crossing}
use Rattle.tap_choice.specs.Sides.{lacks_tap}
use Rattle.tap_follow.specs.Course.{Course}
use Rattle.tap_follow.specs.SoFar.{crossings_so_far}
use Rattle.tap_sums.specs.Sums.{is_beyond}
use Rattle.tap_follow.specs.declared.summary.Summary.{Summary}
use Rattle.tap_follow.specs.Fault.{is_write}
use Rattle.tap_follow.specs.Input.{FollowsInput}
use Rattle.tap_follow.specs.Rules.{follow_rules}
use Rattle.tap_follow.specs.Summed.{WritesSums}
use Rattle.tap_follow.specs.Told.{IsSummaryOf, TellsInput}

-- which taps and whose messages `follow` is asked for
abbrev pub taps_wanted : FollowOptions → WantedTaps
taps_wanted options = record {
  from = options.from;
  to = options.to;
  domain = options.domain;
  master = options.master;
  slave = options.slave;
}

-- how crossings are asked for
abbrev pub crossing_form : FollowOptions → Form
crossing_form options = if options.sum then Sums else if options.csv then Table else Json

-- the exit status of a fault: 2 where the arguments have to say between which two taps messages are followed
abbrev pub fault_status : FollowFault → ℕ
fault_status Write = 3
fault_status Field = 3
fault_status Memory = 3
fault_status (ThirdTap tap) = 2

abbrev pub line_cause_status : Cause FollowFault → ℕ
line_cause_status (lines.Reading fault) = 3
line_cause_status (lines.Task fault) = fault_status fault

abbrev pub capture_cause_status : CaptureCause FollowFault → ℕ
capture_cause_status captures.Read = 3
capture_cause_status captures.Memory = 3
capture_cause_status (captures.Capture fault) = 3
capture_cause_status (captures.Task fault) = fault_status fault

abbrev pub lines_status : Result ℕ (Stopped (Cause FollowFault)) → ℕ
lines_status (Ok count) = 0
lines_status (Err stop) = line_cause_status stop.what

abbrev pub capture_status : Result ℕ (CaptureStop FollowFault) → ℕ
capture_status (Ok count) = 0
capture_status (Err stop) = capture_cause_status stop.what

-- the exit status of `follow`, by what came of its input
abbrev pub follow_status : InputOutcome FollowFault → ℕ
follow_status (Lines answer) = lines_status answer
follow_status (Capture answer) = capture_status answer

-- ---- sums
-- whether a fault says that a line isn't what is asked for
abbrev pub is_field : FollowFault → Bool
is_field Write = false
is_field Field = true
is_field Memory = false
is_field (ThirdTap tap) = false

abbrev pub line_cause_leaves : Cause FollowFault → Bool
line_cause_leaves (lines.Reading fault) = true
line_cause_leaves (lines.Task fault) = is_field fault

abbrev pub capture_cause_leaves : CaptureCause FollowFault → Bool
capture_cause_leaves captures.Read = true
capture_cause_leaves captures.Memory = false
capture_cause_leaves (captures.Capture fault) = true
capture_cause_leaves (captures.Task fault) = is_field fault

abbrev pub lines_leave : Result ℕ (Stopped (Cause FollowFault)) → Bool
lines_leave (Ok count) = true
lines_leave (Err stop) = line_cause_leaves stop.what

abbrev pub capture_leaves : Result ℕ (CaptureStop FollowFault) → Bool
capture_leaves (Ok count) = true
capture_leaves (Err stop) = capture_cause_leaves stop.what

-- whether sums are written after this outcome: at the end, and after a fault of reading or of the input, but for a third tap
abbrev pub leaves_sums : InputOutcome FollowFault → Bool
leaves_sums (Lines answer) = lines_leave answer
leaves_sums (Capture answer) = capture_leaves answer

-- which failed: the writer at 802, at which no more is said of what went out
abbrev pub SumsFailed : {W : Type 0} → Result ⊤ FollowFault → (output output' : Counted W) → Type 0
SumsFailed wrote output output' = MatchResult wrote
    (λ _. HasNotFailed output output')
    (λ fault. HasFailedIf (is_write fault) output output')

-- the sums went out after what gave this status, or didn't, which gives 3
abbrev pub EndsWithSums : {W : Type 0} → (W → Option (List ℕ)) → Summary → (status status' : ℕ) → (output output' : Counted W) → Type 0
EndsWithSums contents summary status status' output output' =
    (wrote : Result ⊤ FollowFault) × (status' ≡ (if is_ok wrote then status else 3))
    × SumsFailed wrote output output'
    × ((c : Course) → IsSummaryOf c summary → WritesSums wrote c (contents (device_of output)) (contents (device_of output')))

-- the sums are written where they are asked for and left
abbrev pub EndsAs : {W : Type 0} → (W → Option (List ℕ)) → (are_asked : Bool) → Summary → (status status' : ℕ)
    → (output output' : Counted W) → Type 0
EndsAs contents true summary status status' output output' = EndsWithSums contents summary status status' output output'
EndsAs contents false summary status status' output output' = (status' ≡ status) × (output' ≡ output)

-- ---- limit
-- whether the rest of a crossing is greater than the limit, where there is one
abbrev pub is_beyond_limit : Option ℕ → List Crossing → Bool
is_beyond_limit None all = false
is_beyond_limit (Some limit) all = is_beyond limit all

-- the exit status: 1 where a rest is beyond the limit, and nothing gives another
abbrev pub limited : ℕ → Bool → ℕ
limited status is_beyond = if status == 0 && is_beyond then 1 else status

-- ---- taps that are asked for
-- the exit status: 2 where a tap that is asked for wasn't met, and nothing gives another
abbrev pub lacking : ℕ → Bool → ℕ
lacking status lacks = if status == 0 && lacks then 2 else status

-- `follow` ran by these options: what came of its input, its sums, its limit and the taps that were met gave the status, and
-- say what was read and written
abbrev pub RunsFollow : {R W : Type 0} → (R → Option (List ℕ)) → (W → Option (List ℕ)) → FollowOptions → ℕ
    → (input input' : Counted R) (output output' : Counted W) → Type 0
RunsFollow {W = W} remaining contents options status input input' output output' =
    (outcome : InputOutcome FollowFault) × (summary : Summary) × (followed : Counted W) × (ended : ℕ) × (is_beyond lacks : Bool)
    × OutcomeFailed follow_rules outcome input input' output followed
    × FollowsInput (crossing_form options) (taps_wanted options) remaining contents outcome input input' output followed
    × ForSome (remaining (device_of input)) (λ octets.
    TellsInput (crossing_form options) (taps_wanted options) octets outcome summary)
    × EndsAs contents (options.sum && leaves_sums outcome) summary (follow_status outcome) ended followed output'
    × ((c : Course) → IsSummaryOf c summary → is_beyond ≡ is_beyond_limit options.limit (crossings_so_far c))
    × ((c : Course) → IsSummaryOf c summary → lacks ≡ lacks_tap c.wanted c.sides)
    × (status ≡ lacking (limited ended is_beyond) lacks)
