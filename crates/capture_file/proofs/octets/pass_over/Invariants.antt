-- What isn't left any more was passed over, and no read failed.
use Rattle.std.proofs.Common.{◌≡◌, ℕ, ◌+◌, List, length}
use Rattle.std.specs.Io.KnownBytes.{Consumes}
use Rattle.text_lines.specs.Counted.{device_of, HasNotFailed}
use Rattle.capture_file.proofs.octets.pass_over.Given as goal

abbrev pub invariant-loop-left : goal.invariant-loop-left
invariant-loop-left g l = record {
  passed : (passed : List ℕ) × (length passed + l.left ≡ l.count)
      × Consumes (g.R.Read.remaining (device_of l.initial.input)) (g.R.Read.remaining (device_of l.input)) passed;
  failures : HasNotFailed l.initial.input l.input;
  room : length l.room ≡ 4096;
}

abbrev pub decreases-loop-left : goal.decreases-loop-left
decreases-loop-left g l = l.left
