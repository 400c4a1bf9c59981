-- What the offsets, path delays and corrections of reports come to, in words.
use Rattle.std.specs.Prelude.{◌≡◌, ℕ, pos, ◌*ℤ◌, Bool, false, ◌&&◌}
use Rattle.std.specs.Prelude.{List, [], ◌++◌, codes, Option, Some, None, if◌then◌else◌}
use Rattle.std.specs.Fmt.{decimal}
use Rattle.std.specs.Int.{saturate_signed, w128}
use Rattle.std.specs.Ordering.{int_eq}
use Rattle.ptp_units.specs.Nanoseconds.{nanoseconds_text}
use Rattle.recording_summary.specs.declared.quality.Statistics.{Statistics}
use Rattle.rounded_text.specs.Rounded.{thousandths_text}
use Rattle.statistics.specs.declared.rounded.Signed.{Signed}
use Rattle.statistics.specs.declared.series.Point.{Point}
use Rattle.statistics.specs.declared.series.Series.{Series}
use Rattle.statistics.specs.declared.series.Spread.{Spread}
use Rattle.recording_words.specs.declared.figures.Figures.{Figures}
use Rattle.recording_words.specs.declared.statistics_lines.SeriesEnding.{SeriesEnding}
use Rattle.recording_words.specs.declared.statistics_lines.StatisticsLines.{StatisticsLines}
use Rattle.recording_words.specs.declared.unit.InputUnit.{InputUnit}
use Rattle.recording_words.specs.Figures.{AreFigures}
use Rattle.recording_words.specs.Times.{place_text, value_text}

-- ---- which values are told
-- what a series comes to
pub record IsOfSeries (s : Series) (e : SeriesEnding) : Type 0 where
  pub count : e.count ≡ s.count
  pub figures : AreFigures s e.figures
  pub least : e.least ≡ s.least
  pub greatest : e.greatest ≡ s.greatest

pub record AreStatisticsLines (s : Statistics) (u : InputUnit) (l : StatisticsLines) : Type 0 where
  pub unit : l.unit ≡ u
  pub offsets : IsOfSeries s.offsets.all l.offsets
  pub paths : IsOfSeries s.paths.all l.paths
  pub sync_corrections : l.sync_corrections ≡ s.sync_corrections
  pub delay_corrections : l.delay_corrections ≡ s.delay_corrections

-- ---- how they are told
-- a mean in nanoseconds with three decimals, to the nearest, where there is one
unfoldable pub mean_text : Option Signed → List ℕ
mean_text None = []
mean_text (Some mean) = codes ", mean " ++ thousandths_text mean ++ codes " ns"

-- and a standard deviation of so many thousandths of a nanosecond
unfoldable pub deviation_text : (thousandths : Option ℕ) → List ℕ
deviation_text None = []
deviation_text (Some thousandths) =
    codes ", standard deviation " ++ thousandths_text (record { is_negative = false; size = thousandths }) ++ codes " ns"

-- the least and the greatest in nanoseconds, exactly, and of which lines or packets they are
unfoldable pub ends_text : InputUnit → (least greatest : Point) → List ℕ
ends_text unit least greatest = codes "least " ++ value_text unit least ++ codes ", greatest " ++ value_text unit greatest

-- how many there are, the mean, the deviation, the least and the greatest
unfoldable pub values_text : InputUnit → (count : ℕ) → Figures → (least greatest : Point) → List ℕ
values_text unit count f least greatest =
    decimal count ++ (mean_text f.mean ++ (deviation_text f.deviation ++ (codes " (rounded), " ++ ends_text unit least greatest)))

-- where there are values
abbrev pub series_line : InputUnit → (name : List ℕ) → (count : ℕ) → Figures → (least greatest : Option Point) → List ℕ
series_line unit name count f (Some least) (Some greatest) =
    codes "ptpx: " ++ name ++ codes ": " ++ values_text unit count f least greatest ++ codes "\n"
series_line unit name count f _ _ = []

-- what the values of this name come to
unfoldable pub series_text : InputUnit → (name : List ℕ) → SeriesEnding → List ℕ
series_text unit name e = series_line unit name e.count e.figures e.least e.greatest

-- a correction of so many units of 2^-16 ns in nanoseconds, exactly as long as twice as many stay within 128 bits, and of which line or
-- packet it is
unfoldable pub correction_text : InputUnit → Point → List ℕ
correction_text unit p = nanoseconds_text (saturate_signed w128 (p.value *ℤ pos 2)) ++ codes " ns " ++ place_text unit p.line

-- the least and the greatest of corrections
unfoldable pub correction_ends_text : InputUnit → (least greatest : Point) → List ℕ
correction_ends_text unit least greatest =
    codes "least " ++ correction_text unit least ++ codes ", greatest " ++ correction_text unit greatest

-- where there are corrections
abbrev pub spread_line : InputUnit → (name : List ℕ) → (least greatest : Option Point) → List ℕ
spread_line unit name (Some least) (Some greatest) =
    codes "ptpx: " ++ name ++ codes ": " ++ correction_ends_text unit least greatest ++ codes "\n"
spread_line unit name _ _ = []

-- the corrections of this name
unfoldable pub spread_text : InputUnit → (name : List ℕ) → Spread → List ℕ
spread_text unit name s = spread_line unit name s.least s.greatest

-- there is one, and it is 0
abbrev pub is_zero : Option Point → Bool
is_zero None = false
is_zero (Some p) = int_eq p.value (pos 0)

-- there are corrections, and all are 0: the least and the greatest are
abbrev pub are_zero : Spread → Bool
are_zero s = is_zero s.least && is_zero s.greatest

-- those at a Sync and those at a response
unfoldable pub corrections_text : InputUnit → (syncs responses : Spread) → List ℕ
corrections_text unit syncs responses =
    if are_zero syncs && are_zero responses then codes "ptpx: all corrections are 0 ns\n"
    else spread_text unit (codes "corrections at a Sync") syncs
    ++ spread_text unit (codes "corrections at a response") responses

-- all of it, in lines
unfoldable pub statistics_text : StatisticsLines → List ℕ
statistics_text l =
    series_text l.unit (codes "offsets at a Sync") l.offsets ++ series_text l.unit (codes "path delays at a response") l.paths
    ++ corrections_text l.unit l.sync_corrections l.delay_corrections
