use Rattle.tap_follow.specs.Course.{Course}
use Rattle.tap_follow.specs.SoFar.{crossings_so_far}
use Rattle.tap_follow.proofs.summary.Summary.kind_ending.Goals as goal

pub returns : goal.returns
returns c = λ (course : Course) is figures. record {
  statistics = c.statistics.ensures.value (crossings_so_far course) (c.sums.ensures course is);
  taken = c.median_of.ensures course figures;
  corrected = c.median_of-2.ensures course figures;
  rest = c.median_of-3.ensures course figures;
  lost = c.lost.ensures course is;
  untold = c.untold.ensures course is;
}
