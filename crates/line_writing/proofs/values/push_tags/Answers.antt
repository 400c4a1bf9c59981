use Rattle.std.proofs.Common.{append_assoc}
use Rattle.line_writing.proofs.values.push_tags.Goals as goal

pub returns : goal.returns
returns c =
    simp (
      append_assoc,
      c.in_ok-push-5.ensures.items,
      c.in_ok-push_whole-3.ensures,
      c.in_ok-push-4.ensures.items,
      c.in_ok-push_whole-2.ensures,
      c.in_ok-push-3.ensures.items,
      c.in_ok-push_follow.ensures,
      c.in_ok-push-2.ensures.items,
      c.in_ok-push_whole.ensures,
      c.in_ok-push.ensures.items,
    )
