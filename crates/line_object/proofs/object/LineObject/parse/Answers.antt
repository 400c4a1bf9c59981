use Rattle.std.proofs.Common.{◌≡◌, ℕ, List, Option, Some, None, refl, sym, subst, true≢false}
use Rattle.std.specs.Prelude.{IsSome, IsTrue, OnSome, is_some}
use Rattle.json.specs.Json.{Json, document}
use Rattle.json.specs.Find.{BeginsWith}
use Rattle.serde_json.specs.Read.{read}
use Rattle.line_object.specs.declared.object.LineObject.{LineObject}
use Rattle.line_object.specs.Inner.Reads.{Reads}
use Rattle.line_object.specs.Object.{object_data}
use Rattle.line_object.proofs.Documents.{read_alike}
use Rattle.line_object.proofs.object.LineObject.parse.Goals as goal

-- what was filled where that is said
each : {A : Type 0} (text : List ℕ) (j : Json) (o : LineObject) (r : Option A) → document text ≡ Some j → OnSome r (Reads j (object_data o) 2)
    → IsTrue (is_some r) → read text ≡ Some (object_data o)
each text j o None is reads filled = absurd (true≢false (sym filled))
each text j o (Some u) is reads filled = read_alike text j (object_data o) is reads

parsed : {P : Type 0} (text : List ℕ) (o : Option Json) → document text ≡ o → IsSome o → ((j : Json) → document text ≡ Some j → P) → P
parsed text None is some then = absurd (true≢false (sym some))
parsed text (Some j) is some then = then j is

pub returns-in-Ok : goal.returns-in-Ok
returns-in-Ok c = λ filled. parsed c.args.text.now _ refl c.in-Ok.ensures.ok.1
    (λ j is. each c.args.text.now j c.fill.new.self c.fill.result is (c.fill.ensures j (subst (λ ts. BeginsWith ts j) (sym c.root.ensures.same) (c.in-Ok.ensures.value j is)))
    (subst IsTrue c.is_some.ensures filled))
