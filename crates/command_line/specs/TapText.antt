-- The name of a tap as text.
use Rattle.std.specs.Prelude.{ℕ, ◌&&◌, Bool, List, Option, Some, None, if◌then◌else◌, length, nat_le}
use Rattle.std.specs.List.{list_all}
use Rattle.tap_choice.specs.Sides.{is_named}
use Rattle.tap_choice.specs.TapName.{is_tap_octet}

-- whether a tap may be called so
abbrev pub is_tap_text : List ℕ → Bool
is_tap_text text = nat_le 1 (length text) && (nat_le (length text) 16 && list_all is_tap_octet text)

-- the name of the tap that a text is, unless that is the other one's
abbrev pub tap_besides : Option (List ℕ) → List ℕ → Option (List ℕ)
tap_besides other text =
    if is_tap_text text then (if is_named other text then None else Some text) else None
