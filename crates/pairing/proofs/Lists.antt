-- Lists from their end.
use Rattle.std.proofs.Common.{◌≡◌, ◌∙◌, ◌<◌, ◌-◌, min, ℕ, zero, suc, refl, sym, ap, arith, List, [], ◌∷◌, ◌++◌, length, map, reverse, take, drop, set}
use Rattle.std.proofs.lemmas.Bool.{cases_eq}
use Rattle.std.proofs.lemmas.Grind.{elements}
use Rattle.std.proofs.lemmas.List.{reverse-append, length-reverse, length-drop, take-append-drop, drop_at, take_at, take-append-le, take_min, take-take, same_lists, length-set, map-append}

module _ {X : Type 0} where
  reversed_halves : (n : ℕ) (xs : List X) → reverse xs ≡ reverse (drop n xs) ++ reverse (take n xs)
  reversed_halves n xs = ap reverse (sym (take-append-drop n xs)) ∙ reverse-append (take n xs) (drop n xs)

  -- the first n, reversed, are the last n of the reversed
  pub reverse-take : (n : ℕ) (xs : List X) → reverse (take n xs) ≡ drop (length xs - n) (reverse xs)
  reverse-take n xs =
      let short : length (reverse (drop n xs)) ≡ length xs - n = length-reverse (drop n xs) ∙ length-drop n xs in
      sym (ap (drop (length xs - n)) (reversed_halves n xs) ∙ drop_at _ _ _ short)

  -- without the first n, reversed
  pub reverse-drop : (n : ℕ) (xs : List X) → reverse (drop n xs) ≡ take (length xs - n) (reverse xs)
  reverse-drop n xs =
      let short : length (reverse (drop n xs)) ≡ length xs - n = length-reverse (drop n xs) ∙ length-drop n xs in
      sym (ap (take (length xs - n)) (reversed_halves n xs) ∙ take_at _ _ _ short)

  -- of one more, no more than the first n of the others are seen
  pub take-more : (n : ℕ) (x : X) (xs : List X) → take n (x ∷ take n xs) ≡ take n (x ∷ xs)
  take-more zero x xs = refl
  take-more (suc n) x xs = ap (λ rest. x ∷ rest) (take-take n (suc n) xs (omega arith))

  -- of two lists joined, the first n that aren't of the second
  pub take-front : (n : ℕ) (xs ys : List X) → take (min n (length xs)) (take n (xs ++ ys)) ≡ take n xs
  take-front n xs ys =
      take-take (min n (length xs)) n (xs ++ ys) (omega arith)
      ∙ take-append-le (min n (length xs)) xs ys (omega arith) ∙ take_min n xs

  -- an element that is replaced, seen from the end
  pub reverse-set : (xs : List X) (i : ℕ) (x : X) → i < length xs → reverse (set xs i x) ≡ set (reverse xs) (length xs - 1 - i) x
  reverse-set xs i x within =
      let even : length (reverse (set xs i x)) ≡ length (set (reverse xs) (length xs - 1 - i) x) =
      length-reverse (set xs i x) ∙ length-set xs i x ∙ sym (length-set (reverse xs) (length xs - 1 - i) x ∙ length-reverse xs) in
      same_lists _ _ even (λ k d h. grind (arith, elements, even, h, length-set xs i x, cases_eq k (length xs - 1 - i)))

  pub take-nil : (n : ℕ) → ◌≡◌ {A = List X} (take n []) []
  take-nil zero = refl
  take-nil (suc n) = refl

pub map-reverse : {X Y : Type 0} (f : X → Y) (xs : List X) → map f (reverse xs) ≡ reverse (map f xs)
map-reverse f [] = refl
map-reverse f (x ∷ xs) =
    ap (map f) (reverse-append (x ∷ []) xs) ∙ map-append f (reverse xs) (x ∷ [])
    ∙ ap (λ ys. ys ++ f x ∷ []) (map-reverse f xs) ∙ sym (reverse-append (f x ∷ []) (map f xs))
