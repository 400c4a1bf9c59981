-- What was read is in the part, no LF is, and no read failed.
use Rattle.std.proofs.Common.{◌≡◌, ◌-◌, ◌≤◌, length, take}
use Rattle.std.specs.Io.KnownBytes.{Consumes}
use Rattle.text_lines.specs.Counted.{device_of, given_of, HasNotFailed}
use Rattle.text_lines.specs.Inner.Reading.{IsUnended}
use Rattle.text_lines.proofs.counted.Counted.read_line_part.Given as goal

abbrev pub invariant-loop-size : goal.invariant-loop-size
invariant-loop-size g l = record {
  read : Consumes (g.R.Read.remaining (device_of l.initial.self)) (g.R.Read.remaining (device_of l.self)) (take l.size l.octets);
  unended : IsUnended (take l.size l.octets);
  within : l.size ≤ 64;
  left : l.size ≤ l.left;
  octet : length l.octet ≡ 1;
  octets : length l.octets ≡ 64;
  given : given_of l.self ≡ given_of l.initial.self;
  failures : HasNotFailed l.initial.self l.self;
}

abbrev pub decreases-loop-size : goal.decreases-loop-size
decreases-loop-size g l = 64 - l.size
