-- Objects and members of the sums in JSON.
use Rattle.std.specs.Prelude.{◌≡◌, ℕ, ◌*◌, ◌^◌, ◌≤◌, ◌-◌, ℤ, Bool, unsigned_abs, if◌then◌else◌}
use Rattle.std.specs.Prelude.{List, ◌++◌, codes, Option, Some, None, MatchOption}
use Rattle.std.specs.Fmt.{decimal, signed_decimal}
use Rattle.hex.specs.Hex.{encode_lower}
use Rattle.ptp_units.specs.Nanoseconds.{nanoseconds_text}
use Rattle.recording_summary.specs.declared.announces.Announced.{Announced}
use Rattle.recording_summary.specs.declared.announces.Announcement.{Announcement}
use Rattle.recording_summary.specs.declared.announces.Announces.{Announces}
use Rattle.recording_summary.specs.declared.flows.Flows.{Flows}
use Rattle.recording_summary.specs.declared.others.Others.{Others}
use Rattle.recording_summary.specs.declared.quality.Statistics.{Statistics}
use Rattle.recording_summary.specs.Flows.{unanswered, unfollowed}
use Rattle.recording_words.specs.declared.figures.Figures.{Figures}
use Rattle.recording_words.specs.declared.sum_objects.Measured.{Measured}
use Rattle.recording_words.specs.Figures.{AreFigures}
use Rattle.recording_words.specs.SumArrays.{domains_text, senders_text}
use Rattle.recording_words.specs.SumValues.{ends_text, log_or_null, quoted, size_or_null, spread_text, thousandths_or_null}
use Rattle.statistics.specs.declared.recent.Ranks.{Ranks}
use Rattle.statistics.specs.declared.rounded.Signed.{Signed}
use Rattle.statistics.specs.declared.series.Series.{Series}
use Rattle.statistics.specs.Mean.{both, IsRoundedMedian}

-- this is the median of the last values, if there are any and it isn't too big, in thousandths of a nanosecond, rounded
abbrev pub IsMedianOf : Option Ranks → Option Signed → Type 0
IsMedianOf None median = median ≡ None
IsMedianOf (Some r) median = MatchOption median (2 ^ 128 ≤ 1000 * unsigned_abs (both r.middle)) (IsRoundedMedian r.middle)

-- this is told of a series and of ranks of its last values
pub record IsMeasured (s : Series) (last : Option Ranks) (m : Measured) : Type 0 where
  pub series : m.series ≡ s
  pub figures : AreFigures s m.figures
  pub ranks : m.ranks ≡ last
  pub median : IsMedianOf last m.median

-- a value in 2^-17 ns in nanoseconds, with all its decimals
unfoldable pub exact_text : ℤ → List ℕ
exact_text units = quoted (nanoseconds_text units)

-- the median and the percentiles of the last values
unfoldable pub last_text : Ranks → (median : Option Signed) → List ℕ
last_text r median =
    codes "\"median\":" ++ (thousandths_or_null median ++ (codes ",\"percentile_95\":" ++ (exact_text r.percentile_95
    ++ (codes ",\"percentile_99\":" ++ exact_text r.percentile_99))))

-- the same, if there are any values
unfoldable pub ranks_text : Option Ranks → (median : Option Signed) → List ℕ
ranks_text None median = codes "\"median\":null,\"percentile_95\":null,\"percentile_99\":null"
ranks_text (Some r) median = last_text r median

-- what was measured at a half of the exchanges
unfoldable pub measured_text : Measured → List ℕ
measured_text m =
    codes "{\"count\":" ++ (decimal m.series.count ++ (codes ",\"deviation\":" ++ (size_or_null m.figures.deviation
    ++ (codes "," ++ (ends_text m.series.least m.series.greatest ++ (codes ",\"mean\":" ++ (thousandths_or_null m.figures.mean
    ++ (codes "," ++ (ranks_text m.ranks m.median ++ codes "}")))))))))

-- the time from one message to the next, and the logMessageInterval of the last that tells it
unfoldable pub interval_text : Series → Figures → (log : Option ℤ) → List ℕ
interval_text s figures log =
    codes "{\"deviation\":" ++ (size_or_null figures.deviation ++ (codes "," ++ (ends_text s.least s.greatest
    ++ (codes ",\"log\":" ++ (log_or_null log ++ (codes ",\"mean\":" ++ (thousandths_or_null figures.mean ++ codes "}")))))))

-- the Delay_Reqs of the slave
unfoldable pub requests_text : Flows → Figures → List ℕ
requests_text flows figures =
    codes "\"delay_reqs\":{\"count\":" ++ (decimal flows.requests.count
    ++ (codes ",\"interval\":" ++ (interval_text flows.requests.intervals figures flows.request_log
    ++ (codes ",\"missing\":" ++ (decimal (flows.requests.skipped - flows.requests.late) ++ codes "}")))))

-- the Delay_Resps that answer them
unfoldable pub responses_text : Flows → List ℕ
responses_text flows =
    codes "\"delay_resps\":{\"count\":" ++ (decimal flows.answers ++ (codes ",\"missing\":" ++ (decimal (unanswered flows) ++ codes "}")))

-- the Follow_Ups
unfoldable pub follow_ups_text : Flows → List ℕ
follow_ups_text flows =
    codes "\"follow_ups\":{\"count\":" ++ (decimal flows.follow_ups
    ++ (codes ",\"missing\":" ++ (decimal (unfollowed flows) ++ codes "}")))

-- the Syncs
unfoldable pub syncs_text : Flows → Figures → List ℕ
syncs_text flows figures =
    codes "\"syncs\":{\"count\":" ++ (decimal flows.syncs.count
    ++ (codes ",\"interval\":" ++ (interval_text flows.syncs.intervals figures flows.sync_log
    ++ (codes ",\"missing\":" ++ (decimal (flows.syncs.skipped - flows.syncs.late)
    ++ (codes ",\"two_step\":" ++ (decimal flows.two_step ++ codes "}")))))))

-- true or false
abbrev pub truth_text : Bool → List ℕ
truth_text is_true = if is_true then codes "true" else codes "false"

-- how many Announces came, how often what they tell changed, and whose time it is
unfoldable pub grandmaster_text : (changes count : ℕ) → Announced → List ℕ
grandmaster_text changes count a =
    codes "\"changes\":" ++ (decimal changes ++ (codes ",\"clock_class\":" ++ (decimal a.clock_class
    ++ (codes ",\"count\":" ++ (decimal count ++ (codes ",\"grandmaster\":\"" ++ (encode_lower a.grandmaster ++ codes "\"")))))))

-- since when they tell that, the timescale, and how far away the clock is
unfoldable pub timescale_text : (line : ℕ) → Announced → List ℕ
timescale_text line a =
    codes "\"line\":" ++ (decimal line ++ (codes ",\"ptp_timescale\":" ++ (truth_text a.is_ptp_timescale
    ++ (codes ",\"steps_removed\":" ++ decimal a.steps_removed))))

-- how far TAI is ahead of UTC, and whether that is valid
unfoldable pub utc_offset_text : Announced → List ℕ
utc_offset_text a =
    codes "\"utc_offset\":" ++ (signed_decimal a.utc_offset ++ (codes ",\"utc_offset_valid\":" ++ truth_text a.is_utc_offset_valid))

-- what the Announces of the master tell last
unfoldable pub told_or_null : (changes count : ℕ) → Option Announcement → List ℕ
told_or_null changes count None = codes "null"
told_or_null changes count (Some a) =
    codes "{" ++ (grandmaster_text changes count a.announced ++ (codes "," ++ (timescale_text a.line a.announced
    ++ (codes "," ++ (utc_offset_text a.announced ++ codes "}")))))

unfoldable pub announce_text : Announces → List ℕ
announce_text a = told_or_null a.changes a.count a.told

-- what messages were corrected by
unfoldable pub corrections_text : Statistics → List ℕ
corrections_text s =
    codes "\"corrections\":{\"response\":" ++ (spread_text s.delay_corrections ++ (codes ",\"sync\":" ++ (spread_text s.sync_corrections
    ++ codes "}")))

-- who else is there
unfoldable pub others_text : Others → List ℕ
others_text others =
    codes "\"others\":{\"domains\":" ++ (domains_text others.domains ++ (codes ",\"masters\":" ++ (senders_text others.masters
    ++ (codes ",\"slaves\":" ++ (senders_text others.slaves ++ codes "}")))))
