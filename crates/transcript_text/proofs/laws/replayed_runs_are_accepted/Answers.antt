use Rattle.network_model.specs.Premises.{exact_limits, IsFreshAndTicked, IsWithinTurn}
use Rattle.trace_model.proofs.Complete.{complete, complete_within_one_turn}
use Rattle.network_model.proofs.ExactPremises.{fresh, in_turn}
use Rattle.transcript_text.proofs.OneTranscript.{accepted_by, checked_by}
use Rattle.transcript_text.proofs.laws.replayed_runs_are_accepted.Goals as goal

pub returns-clause-accepted : goal.returns-clause-accepted
returns-clause-accepted c = accepted_by (IsFreshAndTicked exact_limits) fresh complete.verdicts

pub returns-clause-accepted_within_turn : goal.returns-clause-accepted_within_turn
returns-clause-accepted_within_turn c = accepted_by IsWithinTurn in_turn complete_within_one_turn.verdicts

pub returns-clause-checked : goal.returns-clause-checked
returns-clause-checked c = checked_by (IsFreshAndTicked exact_limits) fresh

pub returns-clause-checked_within_turn : goal.returns-clause-checked_within_turn
returns-clause-checked_within_turn c = checked_by IsWithinTurn in_turn
