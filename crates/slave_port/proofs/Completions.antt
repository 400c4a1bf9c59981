-- The last completion of a kind, after a tick and after a call that may bring one.
use Rattle.std.proofs.Common.{◌≡◌, refl, List, [], ◌∷◌, ◌++◌, slice_get, option_to_list, Option, Some, None, option_map, option_and_then}
use Rattle.slave_port.specs.StandsFor.{last_of}
use Rattle.slave_port.specs.Inner.Changes.{aged, renewed}

module _ {C : Type 0} where
  pub last_of-tick : (since before : List C) → option_and_then aged (last_of since before) ≡ last_of [] since
  last_of-tick [] [] = refl
  last_of-tick [] (completion ∷ older) = refl
  last_of-tick (completion ∷ older) before = refl

  pub last_of-brought : (brings : Option C) (since before : List C)
      → renewed brings (last_of since before) ≡ last_of (option_to_list brings ++ since) before
  last_of-brought None since before = refl
  last_of-brought (Some completion) since before = refl

  -- a part of the last completion is that of the first of them all
  pub part-last_of : {X : Type 0} (part : C → X) (since before : List C)
      → option_map (λ last. part last.completion) (last_of since before) ≡ option_map part (slice_get (since ++ before) 0)
  part-last_of part [] [] = refl
  part-last_of part [] (completion ∷ older) = refl
  part-last_of part (completion ∷ older) before = refl

  pub completion-last_of : (since before : List C) → option_map (λ last. last.completion) (last_of since before) ≡ slice_get (since ++ before) 0
  completion-last_of [] [] = refl
  completion-last_of [] (completion ∷ older) = refl
  completion-last_of (completion ∷ older) before = refl
