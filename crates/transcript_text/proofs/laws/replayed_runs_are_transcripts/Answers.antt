use Rattle.network_model.specs.Premises.{exact_limits, IsFreshAndTicked, IsWithinTurn}
use Rattle.network_model.proofs.ExactPremises.{fresh, in_turn}
use Rattle.transcript_text.proofs.Transcribed.{transcribed}
use Rattle.transcript_text.proofs.laws.replayed_runs_are_transcripts.Goals as goal

pub returns-clause-fresh_and_ticked : goal.returns-clause-fresh_and_ticked
returns-clause-fresh_and_ticked c = transcribed (IsFreshAndTicked exact_limits) fresh

pub returns-clause-within_turn : goal.returns-clause-within_turn
returns-clause-within_turn c = transcribed IsWithinTurn in_turn
