-- The parts are in the line, no LF is, and no read failed.
use Rattle.std.proofs.Common.{◌≡◌, ◌-◌, ◌≤◌, length, take}
use Rattle.std.specs.Io.KnownBytes.{Consumes, prepend_known}
use Rattle.text_lines.specs.Counted.{device_of, given_of, HasNotFailed}
use Rattle.text_lines.specs.Lines.{line_limit}
use Rattle.text_lines.specs.Inner.Reading.{IsUnended}
use Rattle.text_lines.proofs.counted.Counted.read_uncounted.Given as goal

abbrev pub invariant-loop-stop : goal.invariant-loop-stop
invariant-loop-stop g l = record {
  read : Consumes (prepend_known (take l.begun l.initial.room) (g.R.Read.remaining (device_of l.initial.self))) (g.R.Read.remaining (device_of l.self)) (take l.count l.room);
  unended : IsUnended (take l.count l.room);
  begun : l.begun ≤ l.count;
  within : l.count ≤ line_limit;
  room : length l.room ≡ 4096;
  given : given_of l.self ≡ given_of l.initial.self;
  failures : HasNotFailed l.initial.self l.self;
}

abbrev pub decreases-loop-stop : goal.decreases-loop-stop
decreases-loop-stop g l = line_limit - l.count
