use Rattle.std.proofs.Common.{◌≡◌, ◌++◌}
use Rattle.std.specs.String.{string_bytes}
use Rattle.capture_extract.specs.Layout.{blanks}
use Rattle.capture_extract.proofs.cells.push_blanks.Given as goal

-- as many as the steps so far
abbrev pub invariant-loop-step : goal.invariant-loop-step
invariant-loop-step l = string_bytes l.text ≡ string_bytes l.initial.text ++ blanks l._step
