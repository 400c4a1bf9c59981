use Rattle.std.proofs.Common.{◌≡◌, ℕ, List, Option, None, length, ltb, ltb-false, slice_get, option_map, sym, ap, ◌∙◌}
use Rattle.std.proofs.lemmas.Option.{slice_get_past}
use Rattle.serde_json.specs.Find.{at}
use Rattle.line_object.specs.PlainValue.{plain_data, item_data}
use Rattle.line_object.specs.declared.plain_value.PlainValue.{PlainValue}
use Rattle.line_object.proofs.Items.{item_at}
use Rattle.line_object.proofs.plain_value.PlainValue.item.Goals as goal

pub returns-in_err-get-in-Several : goal.returns-in_err-get-in-Several
returns-in_err-get-in-Several c =
    let ns = c.in-Several.items.items in
    let past = c.in_err-get-in-Several.ensures.lookup.0 ∙ ap (λ (found : List (Option ℕ)). ltb c.args.index (length found)) c.as_slice.ensures.value in
    let none : None ≡ slice_get ns c.args.index =
    sym (slice_get_past ns c.args.index (ltb-false c.args.index (length ns) (sym past))) in
    ap (option_map item_data) (c.from_residual.ensures ∙ none) ∙ item_at ns c.args.index
    ∙ ap (λ (f : PlainValue). at c.args.index (plain_data f)) (sym c.in-Several.is)
