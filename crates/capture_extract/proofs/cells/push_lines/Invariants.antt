use Rattle.std.proofs.Common.{◌≡◌, ◌++◌, map, take}
use Rattle.std.specs.Prelude.{flat_map}
use Rattle.std.specs.String.{string_bytes}
use Rattle.capture_extract.specs.Layout.{line_text}
use Rattle.capture_extract.specs.Inner.Lines.{texts}
use Rattle.capture_extract.proofs.cells.push_lines.Given as goal

-- the lines so far stand there
abbrev pub invariant-loop-line : goal.invariant-loop-line
invariant-loop-line l =
    string_bytes l.text
    ≡ string_bytes l.initial.text ++ flat_map (line_text (map texts l.lines)) (take l.line-index (map texts l.lines))
