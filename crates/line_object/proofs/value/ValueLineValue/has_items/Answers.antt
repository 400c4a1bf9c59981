use Rattle.std.proofs.Common.{◌≡◌, ◌==◌, length, sym, ap, ◌∙◌, arith}
use Rattle.serde_json.proofs.Views.{items_len-items_view}
use Rattle.line_object.proofs.value.ValueLineValue.has_items.Goals as goal

pub returns-in-Some : goal.returns-in-Some
returns-in-Some c =
    let same : c.len.result ≡ length c.in-Some.items.now.items = omega arith in
    rw (← c.in-Some.ensures) (ap (λ n. n == c.args.count) (same ∙ sym (items_len-items_view c.in-Some.items.now.items)))
