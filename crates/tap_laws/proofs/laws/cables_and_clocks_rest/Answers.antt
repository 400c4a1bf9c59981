-- What rests is cables and clocks.
use Rattle.tap_laws.proofs.Lines.{what_rests}
use Rattle.tap_laws.proofs.Resting.{cables_and_taps, cables_and_clocks}
use Rattle.tap_laws.proofs.laws.cables_and_clocks_rest.Goals as goal

pub returns-clause-taps : goal.returns-clause-taps
returns-clause-taps c = cables_and_taps

pub returns-clause-nodes : goal.returns-clause-nodes
returns-clause-nodes c = cables_and_clocks

pub returns-clause-lines : goal.returns-clause-lines
returns-clause-lines c = what_rests
