use Rattle.std.proofs.Common.{arith}
use Rattle.tap_sums.proofs.Divisions.{whole_below}
use Rattle.tap_sums.proofs.total.Total.divided.Goals as goal

pub returns-clause-within : goal.returns-clause-within
returns-clause-within c = record {
  few = c.requires.few;
  rest = omega (arith, c.requires.some);
  whole = whole_below c.args.self.now.high c.args.self.now.low c.args.count c.requires.some c.requires.bounded.high c.requires.bounded.low;
}
