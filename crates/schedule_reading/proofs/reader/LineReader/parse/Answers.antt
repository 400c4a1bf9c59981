use Rattle.std.proofs.Common.{◌≡◌, ◌∙◌, sym, ap, subst, if◌then◌else◌, Option, Some, None, IfOk}
use Rattle.std.specs.Prelude.{IsTrue}
use Rattle.std.proofs.lemmas.Str.{is_utf8-from_IsUtf8}
use Rattle.serde_json.specs.Data.{Data}
use Rattle.serde_json.specs.Read.{read}
use Rattle.line_object.specs.Object.{object_data}
use Rattle.schedule_lines.specs.Json.{value_in}
use Rattle.schedule_reading.proofs.reader.LineReader.parse.Goals as goal

pub returns-in-Ok : goal.returns-in-Ok
returns-in-Ok c =
    let line = c.args.line.now in
    let utf8 = c.in-Ok.ensures.cases in
    let is : read c.in-Ok.text.now ≡ value_in line =
    ap read utf8.0 ∙ sym (ap (λ b. if b then read line else None) (is_utf8-from_IsUtf8 line utf8.1)) in
    subst (λ (o : Option Data). IfOk c.parse.result (λ is_read. IsTrue is_read → o ≡ Some (object_data c.parse.new.self))) is c.parse.ensures
