use Rattle.std.proofs.Common.{◌≡◌, ◌≤◌, length, take, vec_len, vec_capacity}
use Rattle.network_model.specs.Network.{IsNetwork}
use Rattle.network_model.specs.Outcome.{IsRun}
use Rattle.world_model.specs.State.{after_all}
use Rattle.world_model.specs.Turns.{AnswersInTurn}
use Rattle.world_model.proofs.turns.run.Given as goal

abbrev pub invariant-loop-done : goal.invariant-loop-done
invariant-loop-done l = record {
  room : length l.events ≤ vec_capacity l.answers;
  count : vec_len l.answers ≡ l.done;
  network : IsNetwork l.world.network;
  run : IsRun l.world.network l.world.run;
  answered : AnswersInTurn l.fn.world (take l.done l.events) l.answers.items;
  happened : l.world ≡ after_all (take l.done l.events) l.fn.world;
}
