-- How a name is kept: in 16 octets, with zeros behind it.
use Rattle.std.specs.Prelude.{◌≡◌, ℕ, ◌-◌, ◌≤◌, List, ◌++◌, length, take, replicate}
use Rattle.network_model.specs.Name.{IsName}

-- the 16 octets in which a name is kept: its text, and zeros after it; for the proofs alone
abbrev pub padded : List ℕ → List ℕ
padded text = text ++ replicate (16 - length text) 0

-- the octets in front are a name, of which the whole is the padded text; for the proofs alone
pub record IsKept (len : ℕ) (octets : List ℕ) : Type 0 where
  pub within : len ≤ length octets
  pub zeros : octets ≡ padded (take len octets)
  pub name : IsName (take len octets)
