-- Messages that are kept, the oldest in front.
use Rattle.std.proofs.Common.{◌≡◌, ◌∙◌, ℕ, ◌+◌, ◌<◌, List, [], ◌∷◌, ◌++◌, length, take, get_or, sym, ap}
use Rattle.std.specs.Prelude.{reverse}
use Rattle.std.proofs.lemmas.List.{take_more, reverse-append}

-- one more, in front of those before it
pub reversed-more : {X : Type 0} (xs : List X) (x : X) (i : ℕ) → i < length xs → x ≡ get_or xs i x
    → reverse (take (i + 1) xs) ≡ x ∷ reverse (take i xs)
reversed-more {X} xs x i within read =
    ap reverse (take_more xs i x within ∙ ap (λ (y : X). take i xs ++ y ∷ []) (sym read))
    ∙ reverse-append (take i xs) (x ∷ [])
