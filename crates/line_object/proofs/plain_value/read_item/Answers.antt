use Rattle.std.proofs.Common.{ℕ, Option, sym, subst}
use Rattle.line_object.specs.PlainValue.{item_data}
use Rattle.line_object.specs.Inner.Reads.{Reads}
use Rattle.line_object.proofs.Scalars.{item_read, null_read}
use Rattle.line_object.proofs.plain_value.read_item.Goals as goal

pub returns-in_ok-of-in-Some : goal.returns-in_ok-of-in-Some
returns-in_ok-of-in-Some c j begins =
    subst (λ (item : Option ℕ). Reads j (item_data item) 0) (sym c.in_ok-of-in-Some.ensures)
    (item_read j _ c.in_ok-whole_in-in-Some.field-0 (c.in-Some.ensures j begins) c.in_ok-whole_in-in-Some.ensures)

pub returns-in-None : goal.returns-in-None
returns-in-None c j begins =
    subst (λ (item : Option ℕ). Reads j (item_data item) 0) (sym c.null.ensures) (null_read j (c.if-is_null.ensures j begins))
