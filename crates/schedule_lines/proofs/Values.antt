-- The value that a line is, from what reading it answered.
use Rattle.std.proofs.Common.{◌≡◌, Bool, true, false, refl, List, ℕ, Some, None}
use Rattle.std.specs.Prelude.{if◌then◌else◌}
use Rattle.std.specs.Str.{IsUtf8, is_utf8}
use Rattle.std.proofs.lemmas.Str.{is_utf8-from_IsUtf8, IsUtf8-from_is_utf8}
use Rattle.serde_json.specs.Data.{Data}
use Rattle.serde_json.specs.Read.{read}
use Rattle.schedule_lines.specs.Json.{value_in}

pub value_read : (line : List ℕ) (value : Data) → IsUtf8 line → read line ≡ Some value → value_in line ≡ Some value
value_read line value text is = rw (is_utf8-from_IsUtf8 line text) is

pub no_value : (line : List ℕ) → (IsUtf8 line → read line ≡ None) → value_in line ≡ None
no_value line none = by_text (is_utf8 line) refl
  where
    by_text : (is_text : Bool) → is_utf8 line ≡ is_text → (if is_text then read line else None) ≡ None
    by_text true is = none (IsUtf8-from_is_utf8 line is)
    by_text false is = refl
