-- A port behind a handle: what the walks of `handle` share.
use Rattle.std.proofs.Common.{◌≡◌, List, [], ◌∷◌, refl}
use Rattle.std.specs.Prelude.{IsSome, Option, Some, None}
use lib.Dec.{T}
use mir.Syntax.{Ty}
use mir.Val.{Val, has_ty, WT}
use denote.Laws.{Typed}

-- what there is
pub the_some : {X : Type 0} (o : Option X) → IsSome o → (x : X) × (o ≡ Some x)
the_some None h = let never : ⊥ = cc in absurd never
the_some (Some x) h = (x, refl)

-- a value of one MIR type is one machine value of it
pub alone : (τ : Ty) (vs : List Val) → Typed (τ ∷ []) vs → (v : Val) × ((vs ≡ v ∷ []) × (T (has_ty τ v) × WT v))
alone τ [] t = absurd t
alone τ (v ∷ []) t = (v, (refl, t.0))
alone τ (v ∷ w ∷ vs) t = absurd t.1
