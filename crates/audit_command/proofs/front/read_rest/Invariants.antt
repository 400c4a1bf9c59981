use Rattle.std.proofs.Common.{◌≡◌, ◌≤◌, ◌-◌, ◌++◌, ℕ, List, length}
use Rattle.std.specs.Io.KnownBytes.{Consumes, prepend_known}
use Rattle.text_lines.specs.Counted.{device_of, HasNotFailed}
use Rattle.text_lines.specs.Lines.{line_limit}
use Rattle.text_lines.specs.Inner.Reading.{IsUnended}
use Rattle.audit_command.proofs.front.read_rest.Given as goal

-- what was read is in the line, and no LF is
abbrev pub invariant-loop-line : goal.invariant-loop-line
invariant-loop-line g l = record {
  read : Consumes (prepend_known l.fn.line.items (g.R.Read.remaining (device_of l.fn.input))) (g.R.Read.remaining (device_of l.input))
      l.line.items;
  begins : (more : List ℕ) × (l.line.items ≡ l.fn.line.items ++ more);
  unended : IsUnended l.line.items;
  within : length l.line.items ≤ line_limit;
  octet : length l.octet ≡ 1;
  failures : HasNotFailed l.fn.input l.input;
}

abbrev pub decreases-loop-line : goal.decreases-loop-line
decreases-loop-line g l = line_limit - length l.line.items
