-- What speaks against the numbers of a recording.
use Rattle.std.specs.Prelude.{◌≡◌, ℕ, ◌+◌, ◌-◌, ◌*◌, ◌/◌, ◌%◌, max, nat_lt, ℤ, pos, int_lt, unsigned_abs}
use Rattle.std.specs.Prelude.{Bool, not, ◌&&◌, ◌||◌, ◌==◌, if◌then◌else◌}
use Rattle.std.specs.Prelude.{List, [], ◌∷◌, get_or, is_some, Option, Some, None, option_map, option_and_then}
use Rattle.std.specs.Option.{option_or}
use Rattle.std.specs.List.{list_any}
use Rattle.recording_summary.specs.declared.beware.Beware.{Beware}
use Rattle.recording_summary.specs.declared.beware.Beware.TheVariants.{RequestsAtOnce, SyncsAtOnce, PathsBelow, PathsZero, WholeSeconds}
use Rattle.recording_summary.specs.declared.beware.Beware.TheVariants.{OffsetSteps, OffsetRunsAway, OffsetIsSetBack, PathSteps, SyncsEnd, ReportsEnd}
use Rattle.recording_summary.specs.declared.beware.Beware.TheVariants.{Repeated, OtherMasters, OtherSlaves, OtherDomains}
use Rattle.recording_summary.specs.declared.beware.Beware.TheVariants.{OldDelay, MissingSyncs, MissingFollowUps, MissingRequests}
use Rattle.recording_summary.specs.declared.beware.Beware.TheVariants.{MissingResponses, OutOfOrder, CorrectedRequests, MasterAnew}
use Rattle.recording_summary.specs.declared.beware.Beware.TheVariants.{SlaveAnew, OffsetApart, CutShort, WholeMicroseconds}
use Rattle.recording_summary.specs.declared.beware.Jump.{Jump}
use Rattle.recording_summary.specs.declared.beware.Lost.{Lost}
use Rattle.recording_summary.specs.declared.beware.Rounded.{Rounded}
use Rattle.recording_summary.specs.declared.beware.SetBack.{SetBack}
use Rattle.recording_summary.specs.declared.counts.Counts.{Counts}
use Rattle.recording_summary.specs.declared.flows.Flows.{Flows}
use Rattle.recording_summary.specs.declared.kind.Kind.TheVariants as kinds
use Rattle.recording_summary.specs.declared.no_report.NoReport.{NoReport}
use Rattle.recording_summary.specs.declared.no_report.NoReport.TheVariants as whys
use Rattle.recording_summary.specs.declared.others.Others.{Others}
use Rattle.recording_summary.specs.declared.others.Senders.{Senders}
use Rattle.recording_summary.specs.declared.quality.Statistics.{Statistics}
use Rattle.recording_summary.specs.declared.quality.Times.{Times}
use Rattle.recording_summary.specs.Counts.{count_at}
use Rattle.recording_summary.specs.Flows.{unfollowed, unanswered}
use Rattle.statistics.specs.declared.cases.Cases.{Cases}
use Rattle.statistics.specs.declared.flow.Flow.{Flow}
use Rattle.statistics.specs.declared.flow.Sent.{Sent}
use Rattle.statistics.specs.declared.rounded.Growth.{Growth}
use Rattle.statistics.specs.declared.rounded.Shift.{Shift}
use Rattle.statistics.specs.declared.series.Series.{Series}
use Rattle.statistics.specs.declared.spike.Spike.{Spike}
use Rattle.statistics.specs.declared.spike.Spikes.{Spikes}
use Rattle.statistics.specs.declared.step.Change.{Change}
use Rattle.statistics.specs.declared.step.Step.{Step}
use Rattle.statistics.specs.Step.{size}
use Rattle.statistics.specs.Wide.{at_most}

-- ---- at a master's own port
-- all requests, and more than one, arrive when they leave
abbrev pub are_requests_at_once : Statistics → Bool
are_requests_at_once s = nat_lt 1 s.paths.all.count && s.requests_at_once == s.paths.all.count

-- all Syncs, and more than one, arrive when they leave
abbrev pub are_syncs_at_once : Statistics → Bool
are_syncs_at_once s = nat_lt 1 s.offsets.all.count && s.syncs_at_once == s.offsets.all.count

abbrev pub at_once : Statistics → Option Beware
at_once s =
    if are_requests_at_once s then Some (RequestsAtOnce s.paths.all.count)
    else if are_syncs_at_once s then Some (SyncsAtOnce s.offsets.all.count)
    else None

-- ---- path delays
abbrev pub paths_below : Series → Option Beware
paths_below paths = option_and_then
    (λ least. if paths.negatives == 0 then None else Some (PathsBelow paths.negatives paths.count least)) paths.least

-- more than half are 0
abbrev pub paths_zero : Series → Option Beware
paths_zero paths = if nat_lt (paths.count / 2) paths.zeros then Some (PathsZero paths.zeros paths.count) else None

-- where no master's own port explains them
abbrev pub zeros_by : Statistics → Option Beware
zeros_by s = if is_some (at_once s) then None else paths_zero s.paths.all

-- ---- offsets
-- how many whole seconds are next to a value in 2^-17 ns, without its sign
abbrev pub seconds_next : ℤ → ℕ
seconds_next value = unsigned_abs value / 131072000000000 + unsigned_abs value % 131072000000000 / 65536000000000

abbrev pub is_below : ℤ → Bool
is_below value = int_lt value (pos 0)

-- both are below 0, or neither is
abbrev pub is_sign_alike : (one other : ℤ) → Bool
is_sign_alike one other = if is_below one then is_below other else not (is_below other)

-- one number of seconds, and not 0, is next to both
abbrev pub are_seconds_alike : (one other : ℤ) → Bool
are_seconds_alike one other =
    is_sign_alike one other && seconds_next one == seconds_next other && nat_lt 0 (seconds_next one)

abbrev pub seconds_between : (least greatest : ℤ) → Option Beware
seconds_between least greatest =
    if are_seconds_alike least greatest then Some (WholeSeconds (is_below least) (seconds_next least)) else None

abbrev pub whole_seconds : Series → Option Beware
whole_seconds offsets = option_and_then
    (λ least. option_and_then (λ greatest. seconds_between least.value greatest.value) offsets.greatest) offsets.least

-- ---- steps, by what is rounded
-- of 16 values and more a step that explains most of how they vary, from 1 us on
abbrev pub is_step : (count : ℕ) → Shift → Bool
is_step count shift = not (nat_lt count 16) && shift.explains_most && not (nat_lt shift.by.size 1000000)

abbrev pub jump_by : (count : ℕ) → Change → Shift → Option Jump
jump_by count change shift = if is_step count shift then Some (record { by = shift.by; line = change.to.line }) else None

abbrev pub jump : Step → Option Shift → Option Jump
jump step shift = option_and_then (λ change. option_and_then (jump_by step.all.count change) shift) step.greatest

-- of 16 values and more a line that explains half of how they vary, from 1 ppm on
abbrev pub is_running : (count : ℕ) → Growth → Bool
is_running count growth = not (nat_lt count 16) && growth.explains_half && not (nat_lt growth.rate.size 1000)

abbrev pub runs_away : (count : ℕ) → Option Growth → Option Beware
runs_away count growth =
    option_and_then (λ g. if is_running count g then Some (OffsetRunsAway g.rate) else None) growth

-- more than three quarters of all
abbrev pub are_most : (count all : ℕ) → Bool
are_most count all = nat_lt (all * 3) (count * 4)

-- a change is downwards
abbrev pub is_fall : Change → Bool
is_fall change = int_lt change.to.value change.from.value

-- how many values change against this change
abbrev pub alike : Spikes → Change → ℕ
alike spikes change = if is_fall change then spikes.rises else spikes.falls

-- Of 32 values and more, most change one way, and this change, of 1 us and more, is the other way. It is at most a quarter of all changes
-- together: values that come back as far as they went are set back twice, or more often.
abbrev pub is_set_back : Spikes → Change → Bool
is_set_back spikes change = not (nat_lt spikes.count 32) && not (nat_lt (size change.from change.to) 131072000)
    && not (nat_lt (spikes.changes / 4) (size change.from change.to)) && are_most (alike spikes change) (spikes.count - 1)

abbrev pub set_back_by : Spikes → Change → Option Beware
set_back_by spikes change = if is_set_back spikes change
    then Some (OffsetIsSetBack (record {
      is_up = is_fall change;
      count = alike spikes change;
      of = spikes.count - 1;
      size = size change.from change.to;
      line = change.to.line;
    }))
    else None

-- the greatest change of the offsets sets them back
abbrev pub set_back : Statistics → Option Beware
set_back s = option_and_then (set_back_by s.spikes) s.offsets.greatest

-- a step of the offsets, or else that they run away, or else that they are set back
abbrev pub offsets_change : Rounded → Statistics → Option Beware
offsets_change rounded s = option_or (option_map (λ j. OffsetSteps j) (jump s.offsets rounded.offset_shift))
    (option_or (runs_away s.offsets.all.count rounded.offset_growth) (set_back s))

abbrev pub paths_change : Rounded → Statistics → Option Beware
paths_change rounded s = option_map (λ j. PathSteps j) (jump s.paths rounded.path_shift)

-- ---- ends
-- for how many tenths of a second a recording goes on behind the last of so many: 10 s and more, and ten times as long as they are
-- apart in the mean
abbrev pub silence_from : (first end last count : ℕ) → Option ℕ
silence_from first end last count =
    if nat_lt (end - last) 655360000000000 || nat_lt ((end - last) / 10) ((last - first) / max count 1) then None
    else Some ((end - last) / 6553600000000)

abbrev pub silence : Times → (last : Option ℕ) → (count : ℕ) → Option ℕ
silence times last count = option_and_then (λ first. option_and_then (λ end. option_and_then
    (λ newest. silence_from first end newest count) last) times.last) times.first

-- one number and another one, as far as is counted
abbrev pub together : (one other : ℕ) → ℕ
together one other = at_most (one + other)

abbrev pub syncs_for : Counts → NoReport → ℕ
syncs_for counts why = count_at counts kinds.Sync why

-- Syncs of the master that gave no report
abbrev pub unreported_syncs : Counts → ℕ
unreported_syncs counts = together (together (together (together (syncs_for counts whys.Held) (syncs_for counts whys.Alone))
    (syncs_for counts whys.Before)) (syncs_for counts whys.TooBig)) (syncs_for counts whys.NotNewer)

-- so many Syncs of the master came, at least
abbrev pub master_syncs : Counts → ℕ
master_syncs counts = max (unreported_syncs counts) counts.quality.statistics.offsets.all.count

abbrev pub syncs_end : Counts → Option Beware
syncs_end counts = option_map (λ tenths. SyncsEnd tenths counts.others.turn.newcomer)
    (silence counts.quality.times counts.others.turn.last (master_syncs counts))

abbrev pub reports_end : Counts → Option Beware
reports_end counts = option_map (λ tenths. ReportsEnd tenths)
    (silence counts.quality.times counts.quality.statistics.last counts.reports)

-- the Syncs of the master end long before the recording does, or else the reports
abbrev pub ends : Counts → Option Beware
ends counts = option_or (syncs_end counts) (reports_end counts)

-- ---- copies, and who else is there
-- messages with a number that came before
abbrev pub copies : Counts → ℕ
copies counts = together (together (together (count_at counts kinds.DelayReq whys.Again) (count_at counts kinds.Sync whys.Before))
    (count_at counts kinds.FollowUp whys.Before)) (count_at counts kinds.DelayResp whys.Before)

abbrev pub repeated : Counts → Option Beware
repeated counts =
    if copies counts == 0 then None
    else Some (Repeated (copies counts) counts.others.repeats.least counts.others.repeats.greatest)

-- somebody sent a message
abbrev pub is_anybody : Senders → Bool
is_anybody senders = is_some (get_or senders.listed 0 None)

abbrev pub other_masters : Others → Option Beware
other_masters others = if is_anybody others.masters then Some OtherMasters else None

abbrev pub other_slaves : Others → Option Beware
other_slaves others = if is_anybody others.slaves then Some OtherSlaves else None

abbrev pub is_any_counted : List ℕ → Bool
is_any_counted counts = list_any (nat_lt 0) counts

abbrev pub other_domains : Others → Option Beware
other_domains others = if is_any_counted others.domains then Some OtherDomains else None

-- ---- delays that are old
-- cases, where there are any
abbrev pub if_any : Cases → Option Cases
if_any cases = if nat_lt 0 cases.count then Some cases else None

-- how long it is from one Delay_Req to the next, in the mean; 0 of fewer than two
abbrev pub interval_between : (first newest : Option Sent) → (count : ℕ) → ℕ
interval_between (Some first) (Some newest) count =
    if nat_lt 1 count then (newest.time - first.time) / (count - 1) else 0
interval_between _ _ count = 0

abbrev pub request_interval : Flow → ℕ
request_interval requests = interval_between requests.first requests.newest requests.count

-- offsets rest on a delay that was older than 10 s, and the oldest was at least 8 of these intervals old
abbrev pub old_delay : Statistics → (interval : ℕ) → Option Beware
old_delay s interval = option_and_then (λ offsets. option_and_then (λ oldest.
    if nat_lt (unsigned_abs oldest.value / 8) interval then None
    else Some (OldDelay offsets oldest)) s.ages.greatest) (if_any s.stale)

-- ---- what is missing
-- messages that are missing, beside so many that came
abbrev pub lost_of : (missing came : ℕ) → Lost
lost_of missing came = record { missing = missing; of = at_most (missing + came) }

-- more than one is missing, and more than 1 %
abbrev pub lost_many : Lost → Option Lost
lost_many lost = if nat_lt 1 lost.missing && nat_lt lost.of (lost.missing * 100) then Some lost else None

abbrev pub lost_by_number : Flow → Option Lost
lost_by_number flow = lost_many (lost_of (flow.skipped - flow.late) flow.count)

abbrev pub missing_syncs : Flows → Option Beware
missing_syncs flows = option_map (λ lost. MissingSyncs lost) (lost_by_number flows.syncs)

abbrev pub missing_follow_ups : Flows → Option Beware
missing_follow_ups flows = option_map (λ lost. MissingFollowUps lost)
    (lost_many (record { missing = unfollowed flows; of = flows.two_step }))

abbrev pub missing_requests : Flows → Option Beware
missing_requests flows = option_map (λ lost. MissingRequests lost) (lost_by_number flows.requests)

abbrev pub missing_responses : Flows → Option Beware
missing_responses flows = option_map (λ lost. MissingResponses lost)
    (lost_many (record { missing = unanswered flows; of = flows.requests.count }))

-- ---- what times and messages tell
abbrev pub out_of_order : Times → Option Beware
out_of_order times = if times.falls == 0 then None else Some (OutOfOrder times.falls)

abbrev pub corrected_requests : Flows → Option Beware
corrected_requests flows = option_map (λ cases. CorrectedRequests cases) (if_any flows.corrected)

abbrev pub master_anew : Flows → Option Beware
master_anew flows = option_map (λ cases. MasterAnew cases) (if_any flows.master_anew)

abbrev pub slave_anew : Flows → Option Beware
slave_anew flows = option_map (λ cases. SlaveAnew cases) (if_any flows.slave_anew)

-- ---- an offset that lies apart
-- of 16 and more, 1 us and more from both neighbours, and more than a hundred times as far as the others change, in the mean
abbrev pub is_far : Spikes → Spike → Bool
is_far spikes spike = not (nat_lt spikes.count 16 || nat_lt spike.size 131072000)
    && nat_lt ((spikes.changes - spike.both) / (spikes.count - 3)) (spike.size / 100)

abbrev pub offset_apart : Spikes → Option Beware
offset_apart spikes = option_and_then
    (λ spike. if is_far spikes spike then Some (OffsetApart spike) else None) spikes.greatest

-- ---- what datagrams and times are worth
abbrev pub cut_short : (cut : ℕ) → Option Beware
cut_short cut = if cut == 0 then None else Some (CutShort cut)

abbrev pub whole_microseconds : Times → Option Beware
whole_microseconds times = if times.finer == 0 && is_some times.last then Some WholeMicroseconds else None

-- ---- all of these, in the order in which they are told
abbrev pub bewares : Rounded → Counts → List (Option Beware)
bewares rounded counts =
    at_once counts.quality.statistics ∷ paths_below counts.quality.statistics.paths.all ∷ zeros_by counts.quality.statistics
    ∷ whole_seconds counts.quality.statistics.offsets.all ∷ offsets_change rounded counts.quality.statistics
    ∷ paths_change rounded counts.quality.statistics ∷ ends counts ∷ repeated counts ∷ other_masters counts.others
    ∷ other_slaves counts.others ∷ other_domains counts.others ∷ out_of_order counts.quality.times
    ∷ old_delay counts.quality.statistics (request_interval counts.others.flows.requests) ∷ missing_syncs counts.others.flows
    ∷ missing_follow_ups counts.others.flows ∷ missing_requests counts.others.flows ∷ missing_responses counts.others.flows
    ∷ corrected_requests counts.others.flows ∷ master_anew counts.others.flows ∷ slave_anew counts.others.flows
    ∷ offset_apart counts.quality.statistics.spikes ∷ cut_short counts.quality.cut ∷ whole_microseconds counts.quality.times ∷ []

-- ---- what is asked of them
-- something speaks against the numbers
abbrev pub has_beware : Rounded → Counts → Bool
has_beware rounded counts = list_any is_some (bewares rounded counts)

-- there is no report, or something speaks against the numbers
abbrev pub is_doubtful : Rounded → Counts → Bool
is_doubtful rounded counts = counts.reports == 0 || has_beware rounded counts

-- an offset is greater than a limit, either way, which is so many seconds as it is to be nanoseconds
abbrev pub is_beyond : (limit : ℕ) → Counts → Bool
is_beyond limit counts = nat_lt limit (500000000 * counts.quality.statistics.farthest)

-- these are the bewares of counts, for some values of what is rounded
abbrev pub AreBewares : Counts → List (Option Beware) → Type 0
AreBewares counts all = (rounded : Rounded) × (all ≡ bewares rounded counts)
