-- Octets that are put into a buffer.
use Rattle.std.specs.Prelude.{◌≡◌, ℕ, ◌+◌, List, ◌++◌, length, take, drop}

-- these octets stand from a place up to another now, and all others are as they were
pub record Puts (old new : List ℕ) (at end : ℕ) (octets : List ℕ) : Type 0 where
  pub ends : end ≡ at + length octets
  pub front : take end new ≡ take at old ++ octets
  pub behind : drop end new ≡ drop end old
