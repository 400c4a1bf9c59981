use Rattle.network_model.specs.Premises.{exact_limits, IsFreshAndTicked, IsWithinTurn}
use Rattle.trace_model.proofs.Complete.{complete, complete_within_one_turn}
use Rattle.network_model.proofs.ExactPremises.{fresh, in_turn}
use Rattle.transcript_text.proofs.ReplayedRanges.{replay_accepted}
use Rattle.transcript_text.proofs.laws.replays_are_accepted.Goals as goal

pub returns-clause-fresh_and_ticked : goal.returns-clause-fresh_and_ticked
returns-clause-fresh_and_ticked c = replay_accepted (IsFreshAndTicked exact_limits) fresh complete.verdicts

pub returns-clause-within_turn : goal.returns-clause-within_turn
returns-clause-within_turn c = replay_accepted IsWithinTurn in_turn complete_within_one_turn.verdicts
