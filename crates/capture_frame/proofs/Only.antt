-- One value that a relation gives, and no other.
use Rattle.std.proofs.Common.{◌≡◌, Option, Some, None}
use Rattle.std.specs.Option.{option_map}
use Rattle.capture_frame.specs.Inner.Walk.{IsOnly}

-- two relations give the same values
pub record IsSame {A : Type 0} (P Q : A → Type 0) : Type 0 where
  pub to : (x : A) → P x → Q x
  pub back : (x : A) → Q x → P x

pub same_along : {A : Type 0} (P Q R : A → Type 0) → IsSame P Q → IsSame Q R → IsSame P R
same_along P Q R f g = record { to = λ x p. g.to x (f.to x p); back = λ x r. f.back x (g.back x r) }

pub only_same : {A : Type 0} (P Q : A → Type 0) (r : Option A) → IsSame P Q → IsOnly P r → IsOnly Q r
only_same P Q None same h = λ x q. h x (same.back x q)
only_same P Q (Some x) same h = (same.to x h.0, λ y q. h.1 y (same.back y q))

-- of what gives nothing, no answer
pub none_only : {A B : Type 0} (f : B → A) (P : A → Type 0) (r : Option B) → r ≡ None → ((x : A) → P x → ⊥) → IsOnly P (option_map f r)
none_only f P r e h = rw e h
