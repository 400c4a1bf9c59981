use Rattle.std.proofs.Common.{◌≡◌, ◌≤◌, ℕ, List, ◌++◌, encode_utf8_all}
use Rattle.std.specs.Fmt.{HasWritten, IsPlainFormatter}
use Rattle.std.specs.Char.Iter.{escape_byte_rest, escape_byte_left, escape_byte_end}
use Rattle.capture_extract.specs.Labels.{escape}
use Rattle.capture_extract.proofs.interfaces.write_escape.Given as goal

-- what was written, and what is left, are the escape
abbrev pub invariant-escape : goal.invariant-escape
invariant-escape g l =
    (escape_byte_end l.rest ≤ 4)
    × (IsPlainFormatter l.fn.f
    → (done : List ℕ) × HasWritten g.W.Write.write_str_gives l.fn.f done l.f
    × (done ++ encode_utf8_all (escape_byte_rest l.rest) ≡ escape l.octet))

abbrev pub decreases-escape : goal.decreases-escape
decreases-escape g l = escape_byte_left l.rest
