-- What both kinds come to, by quotients.
use Rattle.std.proofs.Common.{◌≡◌, ◌∙◌, ℕ, ◌+◌, ◌*◌, ◌<◌, List, [], ◌∷◌, length, Some, sym, ap, arith}
use Rattle.std.specs.Prelude.{ℤ, pos, ◌+ℤ◌, ◌-ℤ◌, ◌*ℤ◌}
use Rattle.tap_crossing.specs.declared.crossing.Crossing.{Crossing}
use Rattle.tap_sums.specs.declared.spread.Quantity.TheVariants as quantities
use Rattle.tap_sums.specs.declared.total.Total.{Total}
use Rattle.tap_sums.specs.Rounded.{rounded}
use Rattle.tap_sums.specs.Sums.{total, value_of, asymmetry_of, mean_rest_of}
use Rattle.tap_sums.specs.KindHeld.{IsTotal, raised}

-- the sum of values, by the quotient of what is held of them
pub sum_of : (of : Crossing → ℤ) (all : List Crossing) (t : Total) (whole rest n : ℕ) → IsTotal of all t
    → raised t ≡ whole * n + rest → n ≡ length all → pos (whole * n + rest) ≡ total of all +ℤ pos (158456325028528675187087900672 * n)
sum_of of all t whole rest n is exact count =
    ap pos (sym exact) ∙ is.sum ∙ ap (λ (k : ℕ). total of all +ℤ pos (158456325028528675187087900672 * k)) (sym count)

abbrev rests : List Crossing → ℤ
rests all = total (value_of quantities.Rest) all

pub asymmetric : (syncs requests : List Crossing) (r : ℤ) (n m : ℕ) → n ≡ length syncs → m ≡ length requests → 0 < n → 0 < m
    → r ≡ rounded (rests syncs *ℤ pos m -ℤ rests requests *ℤ pos n) (n * m) → Some r ≡ asymmetry_of syncs requests
asymmetric [] requests r n m count others some more is = absurd (omega arith)
asymmetric (s ∷ syncs) [] r n m count others some more is = absurd (omega arith)
asymmetric (s ∷ syncs) (q ∷ requests) r n m count others some more is =
    ap Some (is
    ∙ ap (λ (k : ℕ). rounded (rests (s ∷ syncs) *ℤ pos m -ℤ rests (q ∷ requests) *ℤ pos k) (k * m)) count
    ∙ ap (λ (k : ℕ). rounded (rests (s ∷ syncs) *ℤ pos k -ℤ rests (q ∷ requests) *ℤ pos (length (s ∷ syncs))) (length (s ∷ syncs) * k))
    others)

pub halved : (syncs requests : List Crossing) (r : ℤ) (n m : ℕ) → n ≡ length syncs → m ≡ length requests → 0 < n → 0 < m
    → r ≡ rounded (rests syncs *ℤ pos m +ℤ rests requests *ℤ pos n) (2 * (n * m)) → Some r ≡ mean_rest_of syncs requests
halved [] requests r n m count others some more is = absurd (omega arith)
halved (s ∷ syncs) [] r n m count others some more is = absurd (omega arith)
halved (s ∷ syncs) (q ∷ requests) r n m count others some more is =
    ap Some (is
    ∙ ap (λ (k : ℕ). rounded (rests (s ∷ syncs) *ℤ pos m +ℤ rests (q ∷ requests) *ℤ pos k) (2 * (k * m))) count
    ∙ ap (λ (k : ℕ). rounded (rests (s ∷ syncs) *ℤ pos k +ℤ rests (q ∷ requests) *ℤ pos (length (s ∷ syncs)))
    (2 * (length (s ∷ syncs) * k))) others)
