-- What cells show.
use Rattle.std.proofs.Common.{◌≡◌, ℕ, List, ◌∷◌, Option, Some, None, option_map, refl, subst}
use Rattle.std.specs.Prelude.{IfSome}
use Rattle.capture_extract.specs.Cells.{or_dash}
use Rattle.capture_extract.specs.Inner.Lines.{output_or_dash}

-- what is told of a text
pub told : (one : Option (List ℕ)) (text shown : List ℕ) → one ≡ Some shown → IfSome one (λ t. text ≡ t) → text ≡ shown
told one text shown same is = subst (λ (o : Option (List ℕ)). IfSome o (λ t. text ≡ t)) same is

pub told_cell : (cell text : List ℕ) (cells texts : List (List ℕ)) → cell ≡ text → cells ≡ texts → cell ∷ cells ≡ text ∷ texts
told_cell cell text cells texts same others = cc

-- a value by what it is of
pub dash_by : {A B : Type 0} (text : B → List ℕ) (of : A → B) (value : Option A)
    → output_or_dash (λ x. Some (text (of x))) value ≡ Some (or_dash text (option_map of value))
dash_by text of (Some x) = refl
dash_by text of None = refl
