use Rattle.std.proofs.Common.{refl}
use Rattle.tap_sums.specs.declared.spread.Quantity.TheVariants as quantities
use Rattle.tap_sums.specs.Sums.{value_of}
use Rattle.tap_sums.proofs.kind_sums.KindSums.new.Goals as goal

pub returns : goal.returns
returns c = record {
  count = refl;
  taken = c.new.ensures.total (value_of quantities.Taken);
  corrected = c.new-2.ensures.total (value_of quantities.Corrected);
  rest = c.new-3.ensures.total (value_of quantities.Rest);
  newest = refl;
  step = refl;
}
