-- Headers in a row, of which each says what kind of header the next one is.
use Rattle.std.specs.Prelude.{◌≡◌, ℕ, List, [], ◌∷◌, ◌++◌, length, Option, Some}
use Rattle.std.specs.List.{concat}
use Rattle.capture_frame.specs.Payload.{Payload}

-- each header has the size of its kind: the first is of kind `first`, and what stands behind them all is of kind `last`
abbrev pub InRow : (size : ℕ → List ℕ → Option ℕ) → (next : List ℕ → ℕ) → List (List ℕ) → (first last : ℕ) → Type 0
InRow size next [] first last = last ≡ first
InRow size next (header ∷ headers) first last =
    (size first header ≡ Some (length header)) × InRow size next headers (next header) last

-- the octets are such headers, and behind them what carries this payload
pub record IsChain (size : ℕ → List ℕ → Option ℕ) (next : List ℕ → ℕ) (Carries : ℕ → List ℕ → Payload → Type 0)
    (first : ℕ) (octets : List ℕ) (payload : Payload) : Type 0 where
  pub headers : List (List ℕ)
  pub last : ℕ
  pub behind : List ℕ
  pub parts : octets ≡ concat headers ++ behind
  pub in_row : InRow size next headers first last
  pub carries : Carries last behind payload
