-- How the rests of crossings of a kind go over time, and which crossings are as none should be. Lists have the newest in front.
use Rattle.std.specs.Prelude.{ℤ, pos, ◌*ℤ◌, int_lt, ◌&&◌, List, map, filter_map, Option, Some, None, if◌then◌else◌}
use Rattle.std.specs.Ordering.{int_eq}
use Rattle.statistics.specs.declared.series.Point.{Point}
use Rattle.statistics.specs.Cases.{AreCases}
use Rattle.statistics.specs.Step.{IsStep}
use Rattle.statistics.specs.Trend.{IsTrend}
use Rattle.tap_crossing.specs.declared.crossing.Crossing.{Crossing}
use Rattle.tap_sums.specs.declared.course.Course.{Course}

-- what a crossing has, at the line and the time of its event message at its first tap
abbrev pub at_first : Crossing → ℤ → Point
at_first x value = record { line = x.first_line; time = x.time; value = value }

-- its rest, doubled
abbrev pub rest_of : Crossing → Point
rest_of x = at_first x (pos 2 *ℤ x.rest)

-- what it took, where that is less than 0
abbrev pub taken_below_of : Crossing → Option Point
taken_below_of x = if int_lt x.taken (pos 0) then Some (at_first x x.taken) else None

-- what rests of it, where that is less than 0
abbrev pub rest_below_of : Crossing → Option Point
rest_below_of x = if int_lt x.rest (pos 0) then Some (at_first x x.rest) else None

-- what it took, where that is more than 0 and nothing was corrected
abbrev pub uncorrected_of : Crossing → Option Point
uncorrected_of x =
    if int_eq x.corrected (pos 0) && int_lt (pos 0) x.taken then Some (at_first x x.taken) else None

-- this is told of these crossings
pub record IsCourse (all : List Crossing) (c : Course) : Type 0 where
  pub rests : IsStep (map rest_of all) c.rests
  pub trend : IsTrend (map rest_of all) c.trend
  pub taken_below : AreCases (filter_map taken_below_of all) c.taken_below
  pub rest_below : AreCases (filter_map rest_below_of all) c.rest_below
  pub uncorrected : AreCases (filter_map uncorrected_of all) c.uncorrected
