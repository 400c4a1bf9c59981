use Rattle.std.proofs.Common.{refl}
use Rattle.statistics.proofs.step.Step.take.Goals as goal

pub returns : goal.returns
returns c = λ points so. record {
  all = c.take.ensures points so.all;
  newest = refl;
  greatest = c.greatest_with-self.ensures points so;
}
