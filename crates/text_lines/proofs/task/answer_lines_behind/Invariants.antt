-- The lines so far were taken, and no device failed.
use Rattle.std.proofs.Common.{◌≡◌, ℕ, List, ◌+◌, ◌-◌, ◌*◌, ◌++◌, take, Some}
use Rattle.std.specs.Prelude.{IsTrue}
use Rattle.std.specs.Io.KnownBytes.{IsAtEnd, prepend_known}
use Rattle.text_lines.specs.Counted.{device_of, HasNotFailed}
use Rattle.text_lines.specs.Lines.{line_limit, GivesWithin}
use Rattle.text_lines.proofs.TakenLines.{HasTaken}
use Rattle.text_lines.proofs.task.answer_lines_behind.Given as goal

abbrev pub invariant-loop-task : goal.invariant-loop-task
invariant-loop-task g l = record {
  taken : (first : g.T.LineTask.State) → g.T.LineTask.is_at l.fn.task first
      → (octets : List ℕ) → g.R.Read.remaining (device_of l.fn.input) ≡ Some octets
      → (state : g.T.LineTask.State) × g.T.LineTask.is_at l.task state × HasTaken g.T.LineTask.rules first (l.start ++ octets) (g.W.Write.contents (device_of l.fn.output)) l.lines.count l.lines.ended
      state (prepend_known (take l.lines.begun l.lines.octets) (g.R.Read.remaining (device_of l.input))) (g.W.Write.contents (device_of l.output));
  at : (state : g.T.LineTask.State) × g.T.LineTask.is_at l.task state;
  limit : l.lines.limit ≡ g.T.LineTask.rules.lines_limit;
  bounded : GivesWithin g.R.Read.remaining (l.lines.count * (line_limit + 1)) l.fn.input l.input;
  reader : HasNotFailed l.fn.input l.input;
  writer : HasNotFailed l.fn.output l.output;
  ended : IsTrue l.lines.ended → IsAtEnd (g.R.Read.remaining (device_of l.input));
}

abbrev pub decreases-loop-task : goal.decreases-loop-task
decreases-loop-task g l = l.lines.limit - l.lines.count
