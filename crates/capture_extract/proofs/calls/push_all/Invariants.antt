use Rattle.std.proofs.Common.{◌≡◌, ◌++◌, map, take}
use Rattle.std.specs.List.{concat}
use Rattle.std.specs.String.{string_bytes}
use Rattle.capture_extract.specs.Inner.Lines.{line_of_call}
use Rattle.capture_extract.proofs.calls.push_all.Given as goal

-- the calls so far stand there
abbrev pub invariant-loop-call : goal.invariant-loop-call
invariant-loop-call l = string_bytes l.text ≡ string_bytes l.initial.text ++ concat (take l.call-index (map line_of_call l.calls))
