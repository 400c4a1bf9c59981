-- Numbers in the front of a list, and numbers as octets.
use Rattle.std.proofs.Common.{◌≡◌, ℕ, zero, suc, ◌+◌, ◌^◌, ◌<◌, ◌≤◌, List, [], ◌∷◌, length, take, drop, get_or, refl, ap, ◌∙◌, arith}
use Rattle.std.specs.Int.{w16, w64, to_be_bytes, from_be_bytes}
use Rattle.std.proofs.lemmas.List.{get_or-take, drop_more, drop_all}
use Rattle.std.proofs.lemmas.Nat.{from_be_bytes-to_be_bytes_2, from_be_bytes-to_be_bytes_8}
use Rattle.event_codec.specs.Layout.{number}

pub number-take : (b : List ℕ) (n i count : ℕ) → i + count ≤ n → number (take n b) i count ≡ number b i count
number-take b n i zero h = refl
number-take b n i (suc count) h =
    let front : number (take n b) i count ≡ number b i count = number-take b n i count (omega arith) in
    let last : get_or (take n b) (i + count) 0 ≡ get_or b (i + count) 0 = get_or-take n b (i + count) 0 (omega arith) in
    omega arith

-- count cells of a list from place i on
unfoldable pub cells : List ℕ → ℕ → ℕ → List ℕ
cells b i zero = []
cells b i (suc count) = get_or b i 0 ∷ cells b (i + 1) count

pub cells_all : (b : List ℕ) (i count : ℕ) → length b ≡ i + count → drop i b ≡ cells b i count
unfolding cells
cells_all b i zero e = drop_all i b (omega arith)
cells_all b i (suc count) e = drop_more b i 0 (omega arith) ∙ ap (λ (x : List ℕ). get_or b i 0 ∷ x) (cells_all b (i + 1) count (omega arith))

two : (x y : ℕ) → number (x ∷ y ∷ []) 0 2 ≡ from_be_bytes w16 (x ∷ y ∷ [])
two x y = omega arith

eight : (a b c d e f g h : ℕ) → number (a ∷ b ∷ c ∷ d ∷ e ∷ f ∷ g ∷ h ∷ []) 0 8 ≡ from_be_bytes w64 (a ∷ b ∷ c ∷ d ∷ e ∷ f ∷ g ∷ h ∷ [])
eight a b c d e f g h = omega arith

pub number-to_be_bytes_2 : (n : ℕ) → n < 2 ^ 16 → number (to_be_bytes w16 n) 0 2 ≡ n
number-to_be_bytes_2 n lt = two _ _ ∙ from_be_bytes-to_be_bytes_2 n lt

pub number-to_be_bytes_8 : (n : ℕ) → n < 2 ^ 64 → number (to_be_bytes w64 n) 0 8 ≡ n
number-to_be_bytes_8 n lt = eight _ _ _ _ _ _ _ _ ∙ from_be_bytes-to_be_bytes_8 n lt
