use Rattle.std.proofs.Common.{append_assoc}
use Rattle.line_writing.proofs.lines.push_out.Goals as goal

pub returns : goal.returns
returns c =
    simp (
      append_assoc,
      c.in_ok-put_path.ensures,
      c.in_ok-extend_from_slice-3.ensures.items,
      c.in_ok-extend_from_slice-2.ensures.items,
      c.as_bytes.ensures.value,
      c.out_text.ensures,
      c.in_ok-extend_from_slice.ensures.items,
      c.in_ok-put_offset.ensures,
    )
