use Rattle.std.proofs.Common.{◌≡◌, ℕ, ◌-◌, ◌<◌, List, ◌++◌}
use Rattle.std.specs.Fmt.{HasWritten, IsPlainFormatter}
use Rattle.result_verdict.specs.Exact.{decimals}
use Rattle.result_verdict.proofs.difference.DecimalsDisplay.fmt.Given as goal

-- what was written and the decimals of what is left are those of the whole
abbrev pub invariant-loop-place : goal.invariant-loop-place
invariant-loop-place g l = record {
  below : l.parts < 100000000000000000;
  front : List ℕ;
  decimals : front ++ decimals (17 - l._place) l.parts ≡ decimals 17 l.self.parts;
  written : IsPlainFormatter l.initial.f → HasWritten g.W.Write.write_str_gives l.initial.f front l.f;
}
