use Rattle.tap_sums.proofs.beware.Ways.new.Goals as goal

pub returns-clause-ways : goal.returns-clause-ways
returns-clause-ways c = λ all sums figures. record {
  syncs = c.new.ensures.way all sums figures;
  requests = c.new-2.ensures.way all sums figures;
  both = c.both_ways.ensures.value all sums;
}
