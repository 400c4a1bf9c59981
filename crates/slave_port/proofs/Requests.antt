-- Requests of which one has left.
use Rattle.std.proofs.Common.{◌≡◌, ℕ, zero, suc, Bool, true, false, refl, ap, List, [], ◌∷◌, take, nat_eq, if◌then◌else◌, Some, None, option_map, find}
use Rattle.pairing.specs.Marked.{Entry, entry, first_value, replace_first}
use Rattle.slave_port.specs.Values.{RequestValue}
use Rattle.slave_port.specs.Requests.{stamped}
use Rattle.slave_port.specs.Inner.Changes.{left}

pub take-stamped : (n number t3 : ℕ) (requests : List (Entry RequestValue))
    → take n (stamped number t3 requests) ≡ stamped number t3 (take n requests)
take-stamped zero number t3 requests = refl
take-stamped (suc n) number t3 [] = refl
take-stamped (suc n) number t3 (request ∷ others) = at (take-stamped n number t3 others) (nat_eq request.number number)
  where
    stamp : Entry RequestValue
    stamp = entry number (left t3 request.value)

    at : take n (stamped number t3 others) ≡ stamped number t3 (take n others) → (same : Bool)
        → take (suc n) (if same then stamp ∷ others else request ∷ stamped number t3 others)
        ≡ (if same then stamp ∷ take n others else request ∷ stamped number t3 (take n others))
    at rest true = refl
    at rest false = ap (λ es. request ∷ es) rest

-- nothing changes where no request has the number
pub stamped-none : (number t3 : ℕ) (requests : List (Entry RequestValue))
    → first_value number requests ≡ None → stamped number t3 requests ≡ requests
stamped-none number t3 [] = λ _. refl
stamped-none number t3 (request ∷ others) = at (stamped-none number t3 others) (nat_eq request.number number)
  where
    at : (first_value number others ≡ None → stamped number t3 others ≡ others) → (same : Bool)
        → option_map (λ e. e.value) (if same then Some request else find (λ e. nat_eq e.number number) others) ≡ None
        → (if same then entry number (left t3 request.value) ∷ others else request ∷ stamped number t3 others) ≡ request ∷ others
    at rest true none = cc
    at rest false none = ap (λ es. request ∷ es) (rest none)

-- else the first request of the number gets another value
pub stamped-some : (number t3 : ℕ) (requests : List (Entry RequestValue)) (sought : RequestValue)
    → first_value number requests ≡ Some sought → stamped number t3 requests ≡ replace_first number (left t3 sought) requests
stamped-some number t3 [] sought = λ _. refl
stamped-some number t3 (request ∷ others) sought = at (stamped-some number t3 others sought) (nat_eq request.number number)
  where
    at : (first_value number others ≡ Some sought → stamped number t3 others ≡ replace_first number (left t3 sought) others) → (same : Bool)
        → option_map (λ e. e.value) (if same then Some request else find (λ e. nat_eq e.number number) others) ≡ Some sought
        → (if same then entry number (left t3 request.value) ∷ others else request ∷ stamped number t3 others)
        ≡ (if same then entry number (left t3 sought) ∷ others else request ∷ replace_first number (left t3 sought) others)
    at rest true found = let same : request.value ≡ sought = cc in ap (λ v. entry number (left t3 v) ∷ others) same
    at rest false found = ap (λ es. request ∷ es) (rest found)
