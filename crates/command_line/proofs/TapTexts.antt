-- Which texts are names of taps.
use Rattle.std.proofs.Common.{◌≡◌, ◌∙◌, ◌≤◌, ℕ, Bool, true, false, List, Option, Some, None, length, refl, arith}
use Rattle.std.specs.Prelude.{if◌then◌else◌}
use Rattle.std.specs.List.{list_all}
use Rattle.std.proofs.lemmas.Bool.Decides.{nat_tests}
use Rattle.std.proofs.lemmas.List.Sums.{AllPass-from_list_all, list_all-from_AllPass}
use Rattle.tap_choice.specs.Sides.{is_named}
use Rattle.tap_choice.specs.TapName.{IsTapName, is_tap_octet}
use Rattle.command_line.specs.TapText.{is_tap_text, tap_besides}

pub text_of_name : (text : List ℕ) → IsTapName text → is_tap_text text ≡ true
text_of_name text name =
    let some = name.some in
    let fits = name.fits in
    let all = list_all-from_AllPass is_tap_octet text name.octets in
    grind (arith, nat_tests, some, fits, all)

pub name_of_text : (text : List ℕ) → is_tap_text text ≡ true → IsTapName text
name_of_text text is =
    let parts : (1 ≤ length text) × (length text ≤ 16) × (list_all is_tap_octet text ≡ true) = grind (arith, nat_tests, is) in
    record { some = parts.0; fits = parts.1; octets = AllPass-from_list_all is_tap_octet text parts.2 }

no_name_by : (text : List ℕ) (b : Bool) → is_tap_text text ≡ b → (IsTapName text → ⊥) → is_tap_text text ≡ false
no_name_by text true is none = absurd (none (name_of_text text is))
no_name_by text false is none = is

-- a text that is no name is none beside another one, either
pub no_name : (other : Option (List ℕ)) (text : List ℕ) → (IsTapName text → ⊥) → tap_besides other text ≡ None
no_name other text none = rw (no_name_by text (is_tap_text text) refl none)

-- a name is, unless it is the other one's
pub a_name : (other : Option (List ℕ)) (text : List ℕ) → IsTapName text
    → tap_besides other text ≡ (if is_named other text then None else Some text)
a_name other text name = rw (text_of_name text name)

pub own_name : (other : Option (List ℕ)) (text : List ℕ) → IsTapName text → is_named other text ≡ false → tap_besides other text ≡ Some text
own_name other text name is = a_name other text name ∙ rw is
