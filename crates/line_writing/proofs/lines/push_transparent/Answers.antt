use Rattle.std.proofs.Common.{append_assoc}
use Rattle.json.specs.Print.{escape_byte}
use Rattle.line_writing.proofs.lines.push_transparent.Goals as goal

pub returns : goal.returns
unfolding escape_byte
returns c =
    simp (append_assoc, c.in_ok-extend_from_slice-2.ensures.items, c.in_ok-push_name.ensures, c.in_ok-extend_from_slice.ensures.items)
