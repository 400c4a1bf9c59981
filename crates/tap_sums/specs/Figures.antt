-- What is kept of crossings, the newest in front.
use Rattle.std.specs.Prelude.{pos, ◌+ℤ◌, ◌*ℤ◌, ◌^◌, unsigned_abs, List, map}
use Rattle.statistics.specs.declared.series.Point.{Point}
use Rattle.statistics.specs.Series.{IsSeries}
use Rattle.statistics.specs.Trend.{IsTrend}
use Rattle.tap_crossing.specs.declared.crossing.Crossing.{Crossing}
use Rattle.tap_crossing.specs.declared.sighting.Kind.TheVariants as kinds
use Rattle.tap_sums.specs.declared.spread.Quantity.TheVariants as quantities
use Rattle.tap_sums.specs.Sums.{of_kind, value_of}
use Rattle.tap_sums.specs.declared.figures.Figures.{Figures}
use Rattle.tap_sums.specs.declared.figures.KindFigures.{KindFigures}
use Rattle.tap_sums.specs.Course.{IsCourse}
use Rattle.tap_sums.specs.Changed.{AreChanged, changes_in}
use Rattle.statistics.specs.Median.{IsRecent}

-- a rest, doubled, by the correction, which is raised by 2^97 and stands in the place of a time
abbrev pub point_of : Crossing → Point
point_of x = record {
  line = x.first_line;
  time = unsigned_abs (x.corrected +ℤ pos (2 ^ 97));
  value = pos 2 *ℤ x.rest;
}

-- this is kept of these crossings of a kind: the last of what they have, and their course
pub record AreKept (all : List Crossing) (k : KindFigures) : Type 0 where
  pub taken : IsRecent (map (value_of quantities.Taken) all) k.taken
  pub corrected : IsRecent (map (value_of quantities.Corrected) all) k.corrected
  pub rest : IsRecent (map (value_of quantities.Rest) all) k.rest
  pub course : IsCourse all k.course

-- this is kept of these crossings: what is of each kind, the sums over the rests of Syncs, and what changed
pub record AreFigures (all : List Crossing) (f : Figures) : Type 0 where
  pub syncs : AreKept (of_kind kinds.Sync all) f.syncs
  pub requests : AreKept (of_kind kinds.DelayReq all) f.requests
  pub rests : IsSeries (map point_of (of_kind kinds.Sync all)) f.rests
  pub trend : IsTrend (map point_of (of_kind kinds.Sync all)) f.trend
  pub changed : AreChanged (changes_in all) f.changed
