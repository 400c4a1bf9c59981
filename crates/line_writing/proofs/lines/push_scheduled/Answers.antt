use Rattle.std.proofs.Common.{◌∙◌, ◌++◌, List, ℕ, ap, sym}
use Rattle.line_writing.proofs.Appended.{five}
use Rattle.line_writing.proofs.Texts.{scheduled_is}
use Rattle.line_writing.proofs.lines.push_scheduled.Goals as goal

pub returns : goal.returns
returns c =
    let master = rw c.named_master.ensures at c.in_ok-put_name.ensures in
    let node = rw c.node.ensures at c.in_ok-put_name-2.ensures in
    five _ _ _ _ _ _ _ _ _ _ _ c.in_ok-extend_from_slice.ensures.items c.in_ok-push_front.ensures master node c.in_ok-push_end.ensures
    ∙ ap (λ (t : List ℕ). c.args.text.now.items ++ t) (sym (scheduled_is c.args.event.now))
