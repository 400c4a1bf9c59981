-- What the numbers of a recording are worth, by what is noted of its datagrams. Lists have the newest in front.
use Rattle.std.specs.Prelude.{◌≡◌, ℕ, ◌+◌, ◌%◌, ◌==◌, nat_lt, max, unsigned_abs, pos, ◌+ℤ◌, int_lt, Bool, true, false, not, if◌then◌else◌}
use Rattle.std.specs.Prelude.{List, [], ◌∷◌, count_by, filter_map, is_some, Option, Some, None, option_map, option_and_then}
use Rattle.std.specs.Option.{option_map_or, option_or}
use Rattle.std.specs.Ordering.{int_eq}
use Rattle.event_codec.specs.declared.refusal.DecodeRefusal.{DecodeRefusal}
use Rattle.event_codec.specs.declared.refusal.DecodeRefusal.TheVariants.{Short, Version, OtherType, LengthField, Truncated}
use Rattle.event_codec.specs.declared.refusal.DecodeRefusal.TheVariants.{Nanoseconds}
use Rattle.slave_port.specs.Exchange.{age}
use Rattle.recording_lines.specs.declared.measurement.Half.{Half}
use Rattle.recording_lines.specs.declared.measurement.Half.TheVariants.{Sync, Response}
use Rattle.recording_summary.specs.declared.quality.Quality.{Quality}
use Rattle.recording_summary.specs.declared.quality.Statistics.{Statistics}
use Rattle.recording_summary.specs.declared.quality.Times.{Times}
use Rattle.statistics.specs.declared.series.Point.{Point}
use Rattle.recording_summary.specs.Noted.{Noted, Reported}
use Rattle.statistics.specs.Cases.{AreCases}
use Rattle.statistics.specs.Series.{IsSpread}
use Rattle.statistics.specs.Spike.{AreSpikes}
use Rattle.statistics.specs.Step.{IsStep}
use Rattle.statistics.specs.Trend.{IsTrend}
use Rattle.statistics.specs.Wide.{at_most}

-- ---- reports
-- the offset of a report that a Sync completed, doubled
abbrev pub offset_by : Half → Noted → Reported → Option Point
offset_by Sync n r = Some (record { line = n.line; time = n.time; value = r.report.offset2 })
offset_by Response n r = None

abbrev pub offset_of : Noted → Option Point
offset_of n = option_and_then (λ r. offset_by r.by n r) n.reported

-- the path delay of a report that a Delay_Resp completed, doubled
abbrev pub path_by : Half → Noted → Reported → Option Point
path_by Sync n r = None
path_by Response n r = Some (record { line = n.line; time = n.time; value = r.report.path2 })

abbrev pub path_of : Noted → Option Point
path_of n = option_and_then (λ r. path_by r.by n r) n.reported

-- what the messages of a report were corrected by, in 2^-16 ns: Sync and Follow_Up together, of one that a Sync completed
abbrev pub sync_correction_by : Half → Noted → Reported → Option Point
sync_correction_by Sync n r = option_map
    (λ x. record { line = n.line; time = n.time; value = x.sync_correction +ℤ x.follow_correction }) r.exchange
sync_correction_by Response n r = None

abbrev pub sync_correction_of : Noted → Option Point
sync_correction_of n = option_and_then (λ r. sync_correction_by r.by n r) n.reported

-- the Delay_Resp, of one that it completed
abbrev pub delay_correction_by : Half → Noted → Reported → Option Point
delay_correction_by Sync n r = None
delay_correction_by Response n r = option_map
    (λ x. record { line = n.line; time = n.time; value = x.response_correction }) r.exchange

abbrev pub delay_correction_of : Noted → Option Point
delay_correction_of n = option_and_then (λ r. delay_correction_by r.by n r) n.reported

-- how old the delay of an offset was: the time between t2 and t3 of the report that a Sync completed
abbrev pub age_by : Half → Noted → Reported → Option Point
age_by Sync n r = option_map (λ x. record { line = n.line; time = n.time; value = pos (age x) }) r.exchange
age_by Response n r = None

abbrev pub age_of : Noted → Option Point
age_of n = option_and_then (λ r. age_by r.by n r) n.reported

-- more than 10 s
abbrev pub if_stale : Option Point → Option Point
if_stale age = option_and_then (λ p. if int_lt (pos 655360000000000) p.value then Some p else None) age

-- a Sync that arrived when it left, corrected: t2 less the corrected t1 is 0, so the offset is the path delay below 0
abbrev pub is_sync_at_once : Half → Reported → Bool
is_sync_at_once Sync r = int_eq (r.report.offset2 +ℤ r.report.path2) (pos 0)
is_sync_at_once Response r = false

-- a request that arrived, corrected, when it left: the corrected t4 less t3 is 0, so offset and path delay are equal
abbrev pub is_request_at_once : Half → Reported → Bool
is_request_at_once Sync r = false
is_request_at_once Response r = int_eq r.report.offset2 r.report.path2

-- how many reports are so
abbrev pub count_reported : (Half → Reported → Bool) → List Noted → ℕ
count_reported is all = at_most (count_by (λ n. option_map_or (λ r. is r.by r) n.reported false) all)

-- the greatest offset of all reports, doubled, without its sign; 0 of none
abbrev pub farthest : List Noted → ℕ
farthest [] = 0
farthest (n ∷ earlier) =
    option_map_or (λ r. max (farthest earlier) (unsigned_abs r.report.offset2)) n.reported (farthest earlier)

-- the time of the last datagram that completed a report
abbrev pub last_reported : List Noted → Option ℕ
last_reported [] = None
last_reported (n ∷ earlier) = if is_some n.reported then Some n.time else last_reported earlier

-- this is told of the reports of these datagrams
pub record AreStatistics (all : List Noted) (s : Statistics) : Type 0 where
  pub offsets : IsStep (filter_map offset_of all) s.offsets
  pub trend : IsTrend (filter_map offset_of all) s.trend
  pub spikes : AreSpikes (filter_map offset_of all) s.spikes
  pub paths : IsStep (filter_map path_of all) s.paths
  pub path_trend : IsTrend (filter_map path_of all) s.path_trend
  pub sync_corrections : IsSpread (filter_map sync_correction_of all) s.sync_corrections
  pub delay_corrections : IsSpread (filter_map delay_correction_of all) s.delay_corrections
  pub ages : IsSpread (filter_map age_of all) s.ages
  pub stale : AreCases (filter_map (λ n. if_stale (age_of n)) all) s.stale
  pub requests_at_once : s.requests_at_once ≡ count_reported is_request_at_once all
  pub syncs_at_once : s.syncs_at_once ≡ count_reported is_sync_at_once all
  pub farthest : s.farthest ≡ farthest all
  pub last : s.last ≡ last_reported all

-- ---- times
-- a time isn't of whole microseconds
abbrev pub is_finer : (time : ℕ) → Bool
is_finer time = not (time % 65536000 == 0)

-- a time is before the last one
abbrev pub is_fall : (time : ℕ) → (last : Option ℕ) → Bool
is_fall time last = option_map_or (nat_lt time) last false

abbrev pub first_time : List Noted → Option ℕ
first_time [] = None
first_time (n ∷ earlier) = option_or (first_time earlier) (Some n.time)

abbrev pub last_time : List Noted → Option ℕ
last_time [] = None
last_time (n ∷ earlier) = Some n.time

-- how many times are before that of the datagram before
abbrev pub falls : List Noted → ℕ
falls [] = 0
falls (n ∷ earlier) = if is_fall n.time (last_time earlier) then falls earlier + 1 else falls earlier

-- this is told of the times of these datagrams
pub record AreTimes (all : List Noted) (t : Times) : Type 0 where
  pub finer : t.finer ≡ at_most (count_by (λ n. is_finer n.time) all)
  pub falls : t.falls ≡ at_most (falls all)
  pub first : t.first ≡ first_time all
  pub last : t.last ≡ last_time all

-- ---- datagrams
-- one has fewer octets than a header has, or than its messageLength says
abbrev pub is_cut : Option DecodeRefusal → Bool
is_cut None = false
is_cut (Some Truncated) = true
is_cut (Some Short) = true
is_cut (Some Version) = false
is_cut (Some (OtherType number)) = false
is_cut (Some LengthField) = false
is_cut (Some Nanoseconds) = false

-- this is told of these datagrams
pub record IsQuality (all : List Noted) (q : Quality) : Type 0 where
  pub statistics : AreStatistics all q.statistics
  pub times : AreTimes all q.times
  pub cut : q.cut ≡ at_most (count_by (λ n. is_cut n.refusal) all)
