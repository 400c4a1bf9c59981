use Rattle.std.proofs.Common.{◌≡◌, ◌≤◌, ℕ, List, Option, Some, None, IfSome, option_map, sym, ap, ◌∙◌, subst, arith}
use Rattle.json.specs.Json.{Json}
use Rattle.json.specs.Find.{as_number}
use Rattle.json.specs.Tree.{depth}
use Rattle.serde_json.specs.Data.{array}
use Rattle.serde_json.specs.Read.{of_json, number_of}
use Rattle.line_object.specs.PlainValue.{plain_data}
use Rattle.line_object.specs.Inner.Reads.{Reads, IsNumber}
use Rattle.line_object.specs.declared.plain_value.PlainValue.{PlainValue}
use Rattle.line_object.proofs.Scalars.{text_read, null_read, number_read, deeper}
use Rattle.line_object.proofs.plain_value.PlainValue.read.Goals as goal

pub returns-in-Some : goal.returns-in-Some
returns-in-Some c j begins = deeper j _ (text_read j _ (c.in-Some.ensures j begins))

each : (j : Json) (s : List ℕ) (r : Option PlainValue) → Some s ≡ as_number j → IfSome r (λ f. IsNumber (number_of s) (plain_data f)) → IfSome r (λ f. Reads j (plain_data f) 1)
each j s None e h = tt
each j s (Some f) e h = deeper j (plain_data f) (number_read j s (plain_data f) e h)

pub returns-in-Some-as_number : goal.returns-in-Some-as_number
returns-in-Some-as_number c j begins = each j _ c.number_in.result (c.in-Some-as_number.ensures j begins) c.number_in.ensures

pub returns-in_ok-read_items-in-Some-items : goal.returns-in_ok-read_items-in-Some-items
returns-in_ok-read_items-in-Some-items c j begins =
    let shape = c.in-Some-items.ensures j begins in
    let read = c.in_ok-read_items-in-Some-items.ensures shape.0 shape.2 in
    (ap of_json shape.1 ∙ ap (option_map array) read.0, subst (λ k. depth k ≤ 1) (sym shape.1) (omega (arith, read.1)))

pub returns-in-None : goal.returns-in-None
returns-in-None c j begins = deeper j _ (null_read j (c.if-is_null.ensures j begins))
