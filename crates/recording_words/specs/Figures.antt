-- The mean and the standard deviation of a series.
use Rattle.std.specs.Prelude.{MatchOption}
use Rattle.statistics.specs.declared.series.Series.{Series}
use Rattle.statistics.specs.Mean.{HasNoMean, IsMean, HasNoDeviation, IsDeviation}
use Rattle.recording_words.specs.declared.figures.Figures.{Figures}

-- these are those of the series, in thousandths of a nanosecond, each to the nearest
pub record AreFigures (s : Series) (f : Figures) : Type 0 where
  pub mean : MatchOption f.mean (HasNoMean s) (IsMean s)
  pub deviation : MatchOption f.deviation (HasNoDeviation s) (IsDeviation s)
