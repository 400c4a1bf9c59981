use Rattle.std.proofs.Common.{◌∷◌, Option, map, subst}
use Rattle.std.specs.Prelude.{filter_map}
use Rattle.std.specs.List.{cons_option}
use Rattle.statistics.specs.declared.series.Point.{Point}
use Rattle.statistics.specs.Cases.{AreCases}
use Rattle.statistics.specs.Step.{IsStep}
use Rattle.statistics.specs.Trend.{IsTrend}
use Rattle.tap_sums.specs.Course.{rest_of, taken_below_of, rest_below_of, uncorrected_of}
use Rattle.tap_sums.proofs.course.Course.take.Goals as goal

pub returns : goal.returns
returns c = λ earlier so. record {
  rests = subst (λ (p : Point). IsStep (p ∷ map rest_of earlier) c.take.new.self) c.rest_of-rest.ensures
      (c.take.ensures (map rest_of earlier) so.rests);
  trend = subst (λ (p : Point). IsTrend (p ∷ map rest_of earlier) c.take-2.new.self) c.rest_of-rest.ensures
      (c.take-2.ensures (map rest_of earlier) so.trend);
  taken_below = subst (λ (p : Option Point). AreCases (cons_option p (filter_map taken_below_of earlier)) c.take_some.new.self)
      c.taken_below_of.ensures (c.take_some.ensures (filter_map taken_below_of earlier) so.taken_below);
  rest_below = subst (λ (p : Option Point). AreCases (cons_option p (filter_map rest_below_of earlier)) c.take_some-2.new.self)
      c.rest_below_of.ensures (c.take_some-2.ensures (filter_map rest_below_of earlier) so.rest_below);
  uncorrected = subst (λ (p : Option Point). AreCases (cons_option p (filter_map uncorrected_of earlier)) c.take_some-3.new.self)
      c.uncorrected_of.ensures (c.take_some-3.ensures (filter_map uncorrected_of earlier) so.uncorrected);
}
