-- Names of taps.
use Rattle.std.specs.Prelude.{ℕ, ◌≤◌, ◌==◌, ◌||◌, Bool, List, length}
use Rattle.std.specs.Char.{is_ascii_alphanumeric}
use Rattle.std.specs.List.{AllPass}

-- a letter, a digit, `_`, `-` or `.`, of ASCII
abbrev pub is_tap_octet : ℕ → Bool
is_tap_octet octet = is_ascii_alphanumeric octet || octet == 95 || octet == 45 || octet == 46

-- what a tap may be called
pub record IsTapName (text : List ℕ) : Type 0 where
  pub some : 1 ≤ length text
  pub fits : length text ≤ 16
  pub octets : AllPass is_tap_octet text
