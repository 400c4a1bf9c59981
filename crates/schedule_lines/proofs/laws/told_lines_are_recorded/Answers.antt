use Rattle.network_model.specs.Premises.{exact_limits, IsFreshAndTicked, IsWithinTurn}
use Rattle.network_model.proofs.ExactPremises.{fresh, in_turn}
use Rattle.schedule_lines.proofs.ToldLines.{lines_recorded, lines_tagged}
use Rattle.schedule_lines.proofs.laws.told_lines_are_recorded.Goals as goal

pub returns-clause-recorded : goal.returns-clause-recorded
returns-clause-recorded c = lines_recorded (IsFreshAndTicked exact_limits) fresh

pub returns-clause-recorded_within_turn : goal.returns-clause-recorded_within_turn
returns-clause-recorded_within_turn c = lines_recorded IsWithinTurn in_turn

pub returns-clause-tagged : goal.returns-clause-tagged
returns-clause-tagged c = lines_tagged (IsFreshAndTicked exact_limits) fresh

pub returns-clause-tagged_within_turn : goal.returns-clause-tagged_within_turn
returns-clause-tagged_within_turn c = lines_tagged IsWithinTurn in_turn
