use Rattle.std.proofs.Common.{◌≡◌, ◌≤◌, ◌-◌, ◌^◌, ℕ, List, Some}
use Rattle.text_lines.specs.Counted.{device_of, HasNotFailed}
use Rattle.audit_command.specs.Audit.{Audited}
use Rattle.audit_command.specs.Inner.Task.{IsAt}
use Rattle.audit_command.proofs.InFront.{FrontSoFar}
use Rattle.audit_command.proofs.front.take_front.Given as goal

-- the results so far were taken, and no device failed
abbrev pub invariant-loop-beginning : goal.invariant-loop-beginning
invariant-loop-beginning g l = record {
  taken : (s : Audited) → IsAt l.fn.task s → (octets : List ℕ) → g.R.Read.remaining (device_of l.fn.input) ≡ Some octets
      → (state : Audited) × IsAt l.task state × FrontSoFar s octets (g.W.Write.contents (device_of l.fn.output)) l.count state
      (g.R.Read.remaining (device_of l.input)) (g.W.Write.contents (device_of l.output));
  at : (s : Audited) × IsAt l.task s;
  within : l.count ≤ 2 ^ 64 - 2;
  reader : HasNotFailed l.fn.input l.input;
  writer : HasNotFailed l.fn.output l.output;
}

abbrev pub decreases-loop-beginning : goal.decreases-loop-beginning
decreases-loop-beginning g l = 2 ^ 64 - 2 - l.count
