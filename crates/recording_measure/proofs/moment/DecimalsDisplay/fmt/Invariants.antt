use Rattle.std.proofs.Common.{◌≡◌, ℕ, ◌-◌, ◌<◌, List, ◌++◌}
use Rattle.std.specs.Fmt.{HasWritten, IsPlainFormatter}
use Rattle.ptp_units.specs.Nanoseconds.{decimals}
use Rattle.recording_measure.proofs.moment.DecimalsDisplay.fmt.Given as goal

-- what was written and the decimals of what is left are those of the whole
abbrev pub invariant-loop-place : goal.invariant-loop-place
invariant-loop-place g l = record {
  below : l.rest < 131072;
  front : List ℕ;
  decimals : front ++ decimals (17 - l._place) l.rest ≡ decimals 17 l.self.rest;
  written : IsPlainFormatter l.initial.f → HasWritten g.W.Write.write_str_gives l.initial.f front l.f;
}
