-- How a name is kept: in 16 octets, with zeros behind it.
use Rattle.std.specs.Prelude.{◌≡◌, ℕ, ◌-◌, ◌≤◌, List, ◌++◌, length, take, replicate}
use Rattle.tap_choice.specs.TapName.{IsTapName}

-- the 16 octets in which a name is kept: its text, and zeros after it
abbrev pub padded : List ℕ → List ℕ
padded text = text ++ replicate (16 - length text) 0

-- the octets in front are a name, of which the whole is the padded text
pub record IsKept (size : ℕ) (octets : List ℕ) : Type 0 where
  pub within : size ≤ length octets
  pub zeros : octets ≡ padded (take size octets)
  pub name : IsTapName (take size octets)
