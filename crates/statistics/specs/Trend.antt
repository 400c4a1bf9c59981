-- What a line through values over their times is drawn by. Lists of them have the newest in front.
use Rattle.std.specs.Prelude.{◌≡◌, ◌*◌, List}
use Rattle.statistics.specs.declared.series.Point.{Point}
use Rattle.statistics.specs.declared.trend.Trend.{Trend}
use Rattle.statistics.specs.Wide.{wide, wide_sum}
use Rattle.statistics.specs.Series.{above, below}

-- the sums over these values
pub record IsTrend (points : List Point) (t : Trend) : Type 0 where
  pub times : wide t.times ≡ wide_sum (λ p. p.time) points
  pub squares : wide t.squares ≡ wide_sum (λ p. p.time * p.time) points
  pub above : wide t.above ≡ wide_sum (λ p. p.time * above p.value) points
  pub below : wide t.below ≡ wide_sum (λ p. p.time * below p.value) points
