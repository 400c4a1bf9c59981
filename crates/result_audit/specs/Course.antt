-- What a slave's readings tell at its newest Sync, and at the newest response behind that. Lists of delays have the newest in front.
use Rattle.std.specs.Prelude.{◌≡◌, ◌==◌, ℕ, suc, zero, ◌+◌, min, nat_lt, ℤ, ◌+ℤ◌, List, [], ◌∷◌, length, take, drop, Option, Some, None, option_map}
use Rattle.std.specs.Prelude.{if◌then◌else◌, MatchOption}
use Rattle.std.specs.List.{cons_option}
use Rattle.std.specs.Option.{option_or}
use Rattle.std.specs.Prelude.{FitsSigned}
use Rattle.std.specs.Int.{w128}
use Rattle.ptp_units.specs.Sequence.{ahead, next}
use Rattle.ptp_units.specs.declared.sequence.Seq.{Seq}
use Rattle.recording_lines.specs.declared.measurement.Half.{Half}
use Rattle.recording_lines.specs.declared.measurement.Half.TheVariants as halves
use Rattle.result_verdict.specs.Exact.{of_twice}
use Rattle.result_audit.specs.declared.report_at.ReportAt.{ReportAt}
use Rattle.result_audit.specs.declared.course.Gap.{Gap}
use Rattle.result_audit.specs.declared.course.Gap.TheVariants as gaps
use Rattle.result_audit.specs.declared.course.Gaps.{Gaps}
use Rattle.result_audit.specs.declared.course.AtReport.{AtReport}
use Rattle.result_audit.specs.declared.course.Course.{Course}

-- ---- numbers
-- so many numbers may be missing between two messages of one life of their sender
abbrev pub near : ℕ
near = 256

-- what lies between two numbers, of which the second is so far ahead
abbrev pub gap_ahead : ℕ → (last : Seq) → Gap
gap_ahead far last =
    if far == 1 then gaps.None
    else if nat_lt 1 far then if nat_lt near far then gaps.Anew else gaps.Missing (record { 0 = next last.0 }) else gaps.Anew

-- what lies between the last number of a kind, if there is one, and the next
abbrev pub gap_between : Option Seq → Seq → Gap
gap_between None number = gaps.None
gap_between (Some last) number = gap_ahead (ahead number.0 last.0) last

-- what lies between the last number of the other kind and that of a report, where this is another one
abbrev pub gap_to_other : Option Seq → Seq → Option Gap
gap_to_other None number = None
gap_to_other (Some last) number = if last.0 == number.0 then None else Some (gap_between (Some last) number)

-- ---- delays
-- one more; 16 are looked at
abbrev pub with_delay : Option ℤ → List (Option ℤ) → List (Option ℤ)
with_delay delay delays = delay ∷ take 15 delays

-- those that are known
abbrev pub known_of : List (Option ℤ) → List ℤ
known_of [] = []
known_of (delay ∷ delays) = cons_option delay (known_of delays)

-- the newest ones, so many, were by a Sync that wasn't the newest, which one mark stands for
abbrev pub without_newest : ℕ → List (Option ℤ) → List (Option ℤ)
without_newest zero delays = delays
without_newest (suc count) delays = None ∷ drop (suc count) delays

-- what is left of the delays at a Sync, behind the last of which so many came
abbrev pub delays_at_sync : Gap → ℕ → List (Option ℤ) → List (Option ℤ)
delays_at_sync gaps.None since delays = delays
delays_at_sync (gaps.Missing first) since delays = without_newest since delays
delays_at_sync gaps.Anew since delays = []

-- what is left of them at an exchange: where one is missing, a mark stands for it
abbrev pub delays_at_exchange : Gap → List (Option ℤ) → List (Option ℤ)
delays_at_exchange gaps.None delays = delays
delays_at_exchange (gaps.Missing first) delays = with_delay None delays
delays_at_exchange gaps.Anew delays = []

-- the delays with that of an exchange
abbrev pub delays_with : Option ℤ → Gap → List (Option ℤ) → List (Option ℤ)
delays_with delay gap delays = with_delay delay (delays_at_exchange gap delays)

-- what lies before an exchange, and how many of them came behind the newest Sync
abbrev pub since_at_exchange : Gap → ℕ → ℕ
since_at_exchange gaps.None since = since
since_at_exchange (gaps.Missing first) since = min (since + 1) 16
since_at_exchange gaps.Anew since = 0

-- with that of the exchange
abbrev pub since_with : Gap → ℕ → ℕ
since_with gap since = min (since_at_exchange gap since + 1) 16

-- ---- an exchange that only a report at a Sync tells, since no report was made at its response: its delay there isn't known
abbrev pub delays_at_other : Option Gap → List (Option ℤ) → List (Option ℤ)
delays_at_other None delays = delays
delays_at_other (Some gap) delays = delays_with None gap delays

abbrev pub since_at_other : Option Gap → ℕ → ℕ
since_at_other None since = since
since_at_other (Some gap) since = since_with gap since

-- ---- a Sync that only a report at a response tells
abbrev pub delays_behind_other : Option Gap → (since : ℕ) → List (Option ℤ) → List (Option ℤ)
delays_behind_other None since delays = delays
delays_behind_other (Some gap) since delays = delays_at_sync gap since delays

abbrev pub since_behind_other : Option Gap → ℕ → ℕ
since_behind_other None since = since
since_behind_other (Some gap) since = 0

-- there is no report at it
abbrev pub newest_behind_other : Option Gap → Option AtReport → Option AtReport
newest_behind_other None newest = newest
newest_behind_other (Some gap) newest = None

-- ---- reports
-- twice t2 - t1 - correction, in units of 2^-16 ns
abbrev pub bracket2_of : ReportAt → ℤ
bracket2_of c = c.report.offset2 +ℤ c.report.path2

-- it is no number of 128 bits
abbrev pub IsTooFar : ReportAt → Type 0
IsTooFar c = FitsSigned w128 (bracket2_of c) → ⊥

-- what is known at a report, with these delays
pub record IsAtReport (c : ReportAt) (delays : List (Option ℤ)) (at : AtReport) : Type 0 where
  pub at_is : at.at ≡ c
  pub bracket : at.known.bracket ≡ of_twice (bracket2_of c)
  pub latest : at.known.latest ≡ of_twice c.report.path2
  pub responses : at.known.responses.items ≡ known_of delays
  pub whole : at.is_whole ≡ (length (known_of delays) == 16)
  pub behind : at.behind_exchange ≡ None

-- the first report by which a result may be: at the newest Sync, or else behind it
abbrev pub first_of : Course → Option AtReport
first_of course = option_or course.newest course.behind

-- what lies before a report at a Sync: before its exchange, where this wasn't told of, and before the Sync
abbrev pub sync_gaps : ReportAt → Course → Gaps
sync_gaps c course = record {
  exchange = gap_to_other course.request c.exchange.request_number;
  sync = Some (gap_between course.sync c.exchange.sync_number);
}

-- a report at a Sync was taken
pub record TakesSync (c : ReportAt) (old new : Course) : Type 0 where
  pub delays : new.delays.delays.items ≡ delays_at_sync (gap_between old.sync c.exchange.sync_number)
      (since_at_other (gap_to_other old.request c.exchange.request_number) old.since)
      (delays_at_other (gap_to_other old.request c.exchange.request_number) old.delays.delays.items)
  pub newest : MatchOption new.newest (IsTooFar c) (IsAtReport c new.delays.delays.items)
  pub behind : new.behind ≡ None
  pub sync : new.sync ≡ Some c.exchange.sync_number
  pub request : new.request ≡ Some c.exchange.request_number
  pub since : new.since ≡ 0

-- one more exchange behind a Sync came: what is missing before one of them stays
abbrev pub behind_with : Gap → Option Gap → Option Gap
behind_with gap None = Some gap
behind_with gap (Some gaps.None) = Some gap
behind_with gap (Some (gaps.Missing first)) = Some (gaps.Missing first)
behind_with gap (Some gaps.Anew) = Some gaps.Anew

abbrev pub at_with : Gap → AtReport → AtReport
at_with gap at = record at { behind_exchange = behind_with gap at.behind_exchange }

-- what lies before the exchange of a report at a response, and before its Sync, where that wasn't told of
abbrev pub exchange_gap : ReportAt → Course → Gap
exchange_gap c course = gap_between course.request c.exchange.request_number

abbrev pub other_sync : ReportAt → Course → Option Gap
other_sync c course = gap_to_other course.sync c.exchange.sync_number

-- a report at a response was taken
pub record TakesExchange (c : ReportAt) (old new : Course) : Type 0 where
  pub delays : new.delays.delays.items ≡ delays_with (Some (of_twice c.report.path2)) (exchange_gap c old)
      (delays_behind_other (other_sync c old) old.since old.delays.delays.items)
  pub newest : new.newest ≡ option_map (at_with (exchange_gap c old)) (newest_behind_other (other_sync c old) old.newest)
  pub behind : MatchOption new.behind (IsTooFar c) (IsAtReport c new.delays.delays.items)
  pub sync : new.sync ≡ Some c.exchange.sync_number
  pub request : new.request ≡ Some c.exchange.request_number
  pub since : new.since ≡ since_with (exchange_gap c old) (since_behind_other (other_sync c old) old.since)

-- one of a half, before the messages of which this lies
abbrev pub TakesHalf : Half → ReportAt → (old new : Course) → Gaps → Type 0
TakesHalf halves.Sync c old new gaps = (gaps ≡ sync_gaps c old) × TakesSync c old new
TakesHalf halves.Response c old new gaps =
    (gaps ≡ record { exchange = Some (exchange_gap c old); sync = other_sync c old }) × TakesExchange c old new

-- a report was taken
abbrev pub TakesReport : ReportAt → (old new : Course) → Gaps → Type 0
TakesReport c old new gaps = TakesHalf c.by c old new gaps

-- nothing was told
pub record IsUntold (course : Course) : Type 0 where
  pub newest : course.newest ≡ None
  pub behind : course.behind ≡ None
  pub sync : course.sync ≡ None
  pub request : course.request ≡ None
  pub delays : course.delays.delays.items ≡ []
  pub since : course.since ≡ 0
