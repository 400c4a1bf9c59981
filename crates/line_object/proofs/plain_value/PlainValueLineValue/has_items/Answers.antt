use Rattle.std.proofs.Common.{◌==◌, false, option_map, sym, ap, ◌∙◌}
use Rattle.std.specs.Prelude.{unwrap_or}
use Rattle.serde_json.specs.Find.{as_array}
use Rattle.serde_json.specs.Events.{items_len}
use Rattle.line_object.specs.PlainValue.{plain_data}
use Rattle.line_object.specs.declared.plain_value.PlainValue.{PlainValue}
use Rattle.line_object.proofs.Items.{as_many}
use Rattle.line_object.proofs.plain_value.PlainValueLineValue.has_items.Goals as goal

pub returns-in-Several : goal.returns-in-Several
returns-in-Several c =
    ap (λ n. n == c.args.count) (c.len.ensures.value ∙ sym (as_many c.in-Several.items.items))
    ∙ ap (λ (f : PlainValue). unwrap_or (option_map (λ items. items_len items == c.args.count) (as_array (plain_data f))) false) (sym c.in-Several.is)
