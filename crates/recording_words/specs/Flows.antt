-- What came of the master and the slave, what is missing, and the time from one message to the next, in words.
use Rattle.std.specs.Prelude.{◌≡◌, ℕ, ◌+◌, ◌-◌, ◌*◌, ◌/◌, ◌^◌, ◌==◌, nat_le, ℤ, pos, negsuc, unsigned_abs, false}
use Rattle.std.specs.Prelude.{List, [], ◌++◌, codes, Option, Some, None, option_and_then, if◌then◌else◌}
use Rattle.std.specs.Fmt.{decimal}
use Rattle.recording_summary.specs.declared.flows.Flows.{Flows}
use Rattle.recording_summary.specs.Flows.{unfollowed, unanswered}
use Rattle.rounded_text.specs.Rounded.{milliseconds_of, milliseconds_of_thousandths, milliseconds_text}
use Rattle.statistics.specs.declared.flow.Flow.{Flow}
use Rattle.statistics.specs.declared.rounded.Signed.{Signed}
use Rattle.statistics.specs.declared.series.Point.{Point}
use Rattle.statistics.specs.declared.series.Series.{Series}
use Rattle.recording_words.specs.declared.flows.FlowLines.{FlowLines}
use Rattle.recording_words.specs.declared.flows.Intervals.{Intervals}
use Rattle.recording_words.specs.declared.flows.RequestsLine.{RequestsLine}
use Rattle.recording_words.specs.declared.flows.SyncsLine.{SyncsLine}
use Rattle.recording_words.specs.declared.unit.InputUnit.{InputUnit}
use Rattle.recording_words.specs.Figures.{AreFigures}
use Rattle.recording_words.specs.Times.{seconds_text, place_text}

-- ---- which values are told
-- how many messages are missing: numbers that were passed over, less those that came late
abbrev pub missing : Flow → ℕ
missing f = f.skipped - f.late

-- how many Syncs and Follow_Ups came, and how many are missing
abbrev pub syncs_of : Flows → SyncsLine
syncs_of f = record {
  count = f.syncs.count;
  missing = missing f.syncs;
  two_step = f.two_step;
  follow_ups = f.follow_ups;
  unfollowed = unfollowed f;
}

-- how many Delay_Reqs and Delay_Resps came, and how many are missing
abbrev pub requests_of : Flows → RequestsLine
requests_of f = record {
  count = f.requests.count;
  missing = missing f.requests;
  answers = f.answers;
  unanswered = unanswered f;
}

-- the time from one message to the next, and the logMessageInterval that was told last
pub record AreIntervals (s : Series) (last : Option ℤ) (i : Intervals) : Type 0 where
  pub figures : AreFigures s i.figures
  pub least : i.least ≡ s.least
  pub greatest : i.greatest ≡ s.greatest
  pub log : i.log ≡ last

-- what is told of what came, and of the greatest age of a path delay
pub record AreFlowLines (f : Flows) (age : Option Point) (u : InputUnit) (l : FlowLines) : Type 0 where
  pub unit : l.unit ≡ u
  pub syncs : l.syncs ≡ syncs_of f
  pub sync_intervals : AreIntervals f.syncs.intervals f.sync_log l.sync_intervals
  pub requests : l.requests ≡ requests_of f
  pub request_intervals : AreIntervals f.requests.intervals f.request_log l.request_intervals
  pub oldest : l.oldest ≡ age

-- ---- how they are told
-- how many Syncs are two-step ones, and how many Follow_Ups came and are missing
unfoldable pub follow_ups_text : (two_step count lacking : ℕ) → List ℕ
follow_ups_text two_step count lacking =
    codes "of these two-step: " ++ (decimal two_step ++ (codes ", Follow_Ups: " ++ (decimal count
    ++ (codes ", " ++ (decimal lacking ++ codes " missing")))))

-- where a Sync came
unfoldable pub syncs_text : SyncsLine → List ℕ
syncs_text s =
    if s.count == 0 then []
    else codes "ptpx: Syncs: " ++ decimal s.count ++ codes ", " ++ decimal s.missing ++ codes " missing; "
    ++ follow_ups_text s.two_step s.follow_ups s.unfollowed ++ codes "\n"

-- where a Delay_Req came
unfoldable pub requests_text : RequestsLine → List ℕ
requests_text r =
    if r.count == 0 then []
    else codes "ptpx: Delay_Reqs: " ++ decimal r.count ++ codes ", " ++ decimal r.missing
    ++ codes " missing; Delay_Resps: " ++ decimal r.answers ++ codes ", " ++ decimal r.unanswered ++ codes " missing\n"

-- The time from one message to the next that a logMessageInterval tells: 2^log s (IEEE 1588-2019, 13.3.2.14), in microseconds, rounded
-- down. It is told from -7 to 6.
abbrev pub interval_told : (log : ℤ) → Option ℕ
interval_told (pos n) = if nat_le n 6 then Some (1000000 * 2 ^ n) else None
interval_told (negsuc n) = if nat_le n 6 then Some (1000000 / 2 ^ (n + 1)) else None

-- a standard deviation of so many thousandths of a nanosecond, in milliseconds with three decimals, rounded down
unfoldable pub deviation_text : (thousandths : Option ℕ) → List ℕ
deviation_text None = []
deviation_text (Some thousandths) =
    codes ", standard deviation "
    ++ milliseconds_text (milliseconds_of_thousandths (record { is_negative = false; size = thousandths }))

-- the least or the greatest interval, in milliseconds with three decimals, rounded towards 0, and of which line or packet it is
unfoldable pub end_text : InputUnit → (name : List ℕ) → Point → List ℕ
end_text unit name p =
    codes ", " ++ name ++ codes " " ++ milliseconds_text (milliseconds_of p.value) ++ codes " " ++ place_text unit p.line

-- what logMessageInterval tells, where that is told: so many microseconds in milliseconds with three decimals
unfoldable pub told_text : (microseconds : Option ℕ) → List ℕ
told_text None = []
told_text (Some microseconds) =
    codes "; logMessageInterval tells " ++ milliseconds_text (record { is_negative = false; size = microseconds })

-- the mean in milliseconds with three decimals, rounded towards 0, the deviation, the least, the greatest, and what is told
unfoldable pub course_text : InputUnit → (mean : Signed) → (deviation : Option ℕ) → (least greatest : Point) → (log : Option ℤ) → List ℕ
course_text unit mean deviation least greatest log =
    codes "mean " ++ milliseconds_text (milliseconds_of_thousandths mean) ++ deviation_text deviation
    ++ end_text unit (codes "least") least ++ end_text unit (codes "greatest") greatest
    ++ told_text (option_and_then interval_told log)

-- where there are intervals, and their mean is known
abbrev pub intervals_line : InputUnit → (names : List ℕ) → Option Signed → Option ℕ → (least greatest : Option Point) → (log : Option ℤ) → List ℕ
intervals_line unit names (Some mean) deviation (Some least) (Some greatest) log =
    codes "ptpx: from one of the " ++ names ++ codes " to the next: " ++ course_text unit mean deviation least greatest log ++ codes "\n"
intervals_line unit names _ deviation _ _ log = []

-- the time from one of these messages to the next
unfoldable pub intervals_text : InputUnit → (names : List ℕ) → Intervals → List ℕ
intervals_text unit names i = intervals_line unit names i.figures.mean i.figures.deviation i.least i.greatest i.log

-- how old a path delay is at most, in seconds with three decimals, rounded down, where that is known
unfoldable pub age_text : InputUnit → (oldest : Option Point) → List ℕ
age_text unit None = []
age_text unit (Some p) =
    codes "ptpx: the path delay of an offset is at most " ++ seconds_text (unsigned_abs p.value) ++ codes " old, "
    ++ place_text unit p.line ++ codes "\n"

-- all of it, in lines
unfoldable pub flows_text : FlowLines → List ℕ
flows_text l =
    syncs_text l.syncs ++ intervals_text l.unit (codes "Syncs") l.sync_intervals
    ++ requests_text l.requests ++ intervals_text l.unit (codes "Delay_Reqs") l.request_intervals
    ++ age_text l.unit l.oldest
