use Rattle.std.proofs.Common.{◌≡◌, ◌≤◌, [], Option, Some, None, option_map, refl, sym, ap, ◌∙◌, subst, arith}
use Rattle.json.specs.Tree.{items_depth}
use Rattle.serde_json.specs.Data.{Items}
use Rattle.serde_json.specs.Read.{of_items}
use Rattle.line_object.proofs.Items.{before, before_none, next_item}
use Rattle.line_object.proofs.plain_value.read_items.Goals as goal

same : (o : Option Items) → o ≡ option_map (before []) o
same None = refl
same (Some items) = refl

pub loop-element-init : goal.loop-element-init
loop-element-init c js inside = (js, inside, subst (λ ss. of_items js ≡ option_map (before ss) (of_items js)) (sym c.new-found.ensures) (same (of_items js)), λ h. h)

pub loop-element-preserved : goal.loop-element-preserved
loop-element-preserved c js inside =
    let now = c.loop-element.invariant js inside in
    let f = c.in-Some.ensures.value now.0 now.1 in
    let reads = c.in_ok-item.ensures f.0 f.3 in
    let so = now.2 ∙ ap (λ r. option_map (before c.loop-element.found.items) (of_items r)) f.2 in
    let more = next_item js f.1 f.0 c.loop-element.found.items c.in_ok-item.item reads so in (
      f.1,
      f.4,
      subst (λ ss. of_items js ≡ option_map (before ss) (of_items f.1)) (sym c.push.ensures.items) more,
      λ h. now.3 (subst (λ r. items_depth r ≤ 0) (sym f.2) (omega (arith, h, reads.1))),
    )

pub returns : goal.returns
returns c js inside =
    let now = c.loop-element.invariant js inside in
    let none = c.in_default.ensures.value now.0 now.1 in (
      now.2 ∙ ap (λ r. option_map (before c.loop-element.found.items) (of_items r)) none ∙ ap Some (before_none c.loop-element.found.items),
      now.3 (subst (λ r. items_depth r ≤ 0) (sym none) (omega arith)),
    )
