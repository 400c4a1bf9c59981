use Rattle.std.proofs.Common.{◌∙◌, ◌++◌, List, ℕ, ap, sym}
use Rattle.line_writing.proofs.Appended.{ten}
use Rattle.line_writing.proofs.Texts.{event_is}
use Rattle.line_writing.proofs.lines.push_event.Goals as goal

pub returns : goal.returns
returns c =
    let front = rw c.out_code.ensures at c.in_ok-push_front.ensures in
    let master = rw c.named_master.ensures at c.in_ok-put_name.ensures in
    let node = rw c.node.ensures at c.in_ok-put_name-2.ensures in
    ten _ _ _ _ _ _ _ _ _ _ _ _ _ _ _ _ _ _ _ _ _ c.in_ok-extend_from_slice.ensures.items front c.in_ok-put_octets.ensures master
    c.in_ok-put_whole.ensures node c.in_ok-push_out.ensures c.in_ok-put_moment.ensures c.in_ok-put_tags.ensures c.in_ok-push_end.ensures
    ∙ ap (λ (t : List ℕ). c.args.text.now.items ++ t) (sym (event_is c.args.number c.args.line.now))
