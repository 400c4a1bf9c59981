-- What was read stands behind what was there, and no read failed.
use Rattle.std.proofs.Common.{◌-◌, ◌≡◌, ◌≤◌, length, take}
use Rattle.text_lines.specs.Counted.{device_of, HasNotFailed}
use Rattle.text_lines.specs.Lines.{GivesWithin}
use Rattle.capture_file.specs.Inner.Octets.{Fills}
use Rattle.capture_file.proofs.octets.fill_behind.Given as goal

abbrev pub invariant-loop-size : goal.invariant-loop-size
invariant-loop-size g l = record {
  read : Fills (take l.initial.from l.initial.room) (take l.size l.room) (g.R.Read.remaining (device_of l.initial.input)) (g.R.Read.remaining (device_of l.input));
  given : GivesWithin g.R.Read.remaining (l.size - l.initial.from) l.initial.input l.input;
  behind : l.initial.from ≤ l.size;
  failures : HasNotFailed l.initial.input l.input;
  fits : l.size ≤ length l.room;
  same : length l.room ≡ length l.initial.room;
  within : l.initial.from ≤ l.to → l.size ≤ l.to;
}

abbrev pub decreases-loop-size : goal.decreases-loop-size
decreases-loop-size g l = l.to - l.size
