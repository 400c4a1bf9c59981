use Rattle.std.proofs.Common.{map}
use Rattle.tap_sums.specs.Sums.{of_kind, value_of}
use Rattle.tap_sums.proofs.figures.Figures.median.Goals as goal

pub returns : goal.returns
returns c = λ all at.
    c.median.ensures (map (value_of c.args.quantity) (of_kind c.args.kind all)) (c.recent.ensures (of_kind c.args.kind all)
    (c.of_kind.ensures all at))
