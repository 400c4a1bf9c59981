-- A filter's result is never wrong at a tolerance of 2 ns.
use Rattle.std.proofs.Common.{◌≡◌, ◌≢◌, ◌∙◌, ℕ, zero, suc, ◌-◌, ◌*◌, ◌/◌, ◌<◌, ◌≤◌, true, ◌&&◌, ℤ, pos, negsuc, ◌+ℤ◌, ◌-ℤ◌, ◌*ℤ◌}
use Rattle.std.proofs.Common.{◌≤ℤ◌, ◌<ℤ◌, unsigned_abs, List, [], ◌∷◌, length, take, fold, refl, ap, sym, arith, length-take-le}
use Rattle.std.specs.Int.RustNames.{int_le}
use Rattle.std.specs.List.{All}
use Rattle.std.proofs.Math.IntN.{suc_ℤ-*ℤ, zero-*ℤ}
use Rattle.std.proofs.Math.Nat.{lt_of_mul-lt-mul_left}
use Rattle.std.proofs.lemmas.Int.{ints, clamps, unsigned_abs-mul, fold-int_min_bounds, fold-int_max_bounds}
use Rattle.std.proofs.lemmas.List.Elements.{All-head, All-tail, All-take, All-get_or}
use Rattle.result_verdict.specs.declared.known.Known.{Known}
use Rattle.result_verdict.specs.declared.verdict.Verdict.TheVariants.{Wrong}
use Rattle.result_verdict.specs.Exact.{nanosecond, IsWithin}
use Rattle.result_verdict.specs.Delays.{is_within, beyond, total, in_order, twice_median}
use Rattle.result_verdict.specs.Verdict.{sum_error, least_known, greatest_known, verdict_of, LiesWithin, IsCut}
use Rattle.result_verdict.proofs.Times.{twice}
use Rattle.result_verdict.proofs.InOrder.{all_in_order, length_in_order}
use Rattle.result_verdict.proofs.Verdicts.{filtered_right}

-- ---- over plain numbers
four : (both a b x y : ℤ) → both ≡ a +ℤ b → both +ℤ (x +ℤ y) ≡ (a +ℤ x) +ℤ (b +ℤ y)
four both a b x y is = omega (arith, ints, is)

moved : (less a b : ℤ) → a ≡ less +ℤ b → less ≡ a -ℤ b
moved less a b is = omega (arith, ints, is)

together : (n : ℕ) (offsets paths brackets sum : ℤ) → unsigned_abs (paths -ℤ sum) < n * nanosecond
    → unsigned_abs (offsets -ℤ (brackets -ℤ sum)) < n * nanosecond
    → unsigned_abs ((offsets +ℤ paths) -ℤ brackets) < n * (2 * nanosecond)
together n offsets paths brackets sum one other = omega (arith, ints, one, other)

one_side : (n : ℕ) (leasts paths sum : ℤ) → leasts ≤ℤ sum → unsigned_abs (paths -ℤ sum) < n * nanosecond
    → (leasts -ℤ paths) <ℤ pos (n * nanosecond)
one_side n leasts paths sum above near = omega (arith, ints, above, near)

other_side : (n : ℕ) (greatests paths sum : ℤ) → sum ≤ℤ greatests → unsigned_abs (paths -ℤ sum) < n * nanosecond
    → (paths -ℤ greatests) <ℤ pos (n * nanosecond)
other_side n greatests paths sum below near = omega (arith, ints, below, near)

at_most : (least greatest path : ℤ) → (least -ℤ path) <ℤ pos nanosecond → (path -ℤ greatest) <ℤ pos nanosecond
    → int_le (beyond least greatest path) (pos (2 * nanosecond)) ≡ true
at_most least greatest path low high = grind (arith, ints, clamps, low, high)

from_none : (a b : ℤ) → (pos 0 +ℤ a) ≤ℤ b → a ≤ℤ b
from_none a b h = omega (arith, ints, h)

to_none : (a b : ℤ) → b ≤ℤ (pos 0 +ℤ a) → b ≤ℤ a
to_none a b h = omega (arith, ints, h)

both_above : (least x y : ℤ) → least ≤ℤ x → least ≤ℤ y → (least +ℤ least) ≤ℤ (x +ℤ y)
both_above least x y one other = omega (arith, ints, one, other)

both_below : (greatest x y : ℤ) → x ≤ℤ greatest → y ≤ℤ greatest → (x +ℤ y) ≤ℤ (greatest +ℤ greatest)
both_below greatest x y one other = omega (arith, ints, one, other)

-- ---- so many times a sum or a difference
times_sum : (n : ℕ) (a b : ℤ) → pos n *ℤ (a +ℤ b) ≡ (pos n *ℤ a) +ℤ (pos n *ℤ b)
times_sum zero a b =
    let none = zero-*ℤ (a +ℤ b) in
    let none_a = zero-*ℤ a in
    let none_b = zero-*ℤ b in
    rw (none, none_a, none_b) refl
times_sum (suc n) a b =
    let before = times_sum n a b in
    let both = suc_ℤ-*ℤ (pos n) (a +ℤ b) in
    let one = suc_ℤ-*ℤ (pos n) a in
    let other = suc_ℤ-*ℤ (pos n) b in
    rw (both, one, other) (four (pos n *ℤ (a +ℤ b)) (pos n *ℤ a) (pos n *ℤ b) a b before)

times_difference : (n : ℕ) (a b : ℤ) → pos n *ℤ (a -ℤ b) ≡ (pos n *ℤ a) -ℤ (pos n *ℤ b)
times_difference n a b =
    let whole = times_sum n (a -ℤ b) b in
    let back : (a -ℤ b) +ℤ b ≡ a = omega (arith, ints) in
    moved (pos n *ℤ (a -ℤ b)) (pos n *ℤ a) (pos n *ℤ b) (ap (λ it. pos n *ℤ it) (sym back) ∙ whole)

-- ---- and what it is without them
size_below : (n most : ℕ) (z : ℤ) → unsigned_abs (pos n *ℤ z) < n * most → unsigned_abs z < most
size_below n most z below = lt_of_mul-lt-mul_left n (rw (unsigned_abs-mul (pos n) z) at below)

number_below : (n most : ℕ) (z : ℤ) → 0 < most → (pos n *ℤ z) <ℤ pos (n * most) → z <ℤ pos most
number_below n most (pos d) some below =
    let fewer : n * d < n * most = omega (arith, ints, below) in
    let less : d < most = lt_of_mul-lt-mul_left n fewer in
    omega (arith, ints)
number_below n most (negsuc d) some below = omega (arith, ints)

-- ---- the sum error of cut numbers, and by how much a cut path delay lies outside
-- both numbers are less than a nanosecond off
sum_near : (n : ℕ) (offset path bracket sum : ℤ) → unsigned_abs ((pos n *ℤ path) -ℤ sum) < n * nanosecond
    → unsigned_abs ((pos n *ℤ offset) -ℤ ((pos n *ℤ bracket) -ℤ sum)) < n * nanosecond
    → unsigned_abs ((offset +ℤ path) -ℤ bracket) < 2 * nanosecond
sum_near n offset path bracket sum path_near offset_near =
    let parts = times_difference n (offset +ℤ path) bracket ∙ ap (λ it. it -ℤ (pos n *ℤ bracket)) (times_sum n offset path) in
    size_below n (2 * nanosecond) ((offset +ℤ path) -ℤ bracket)
    (rw parts (together n (pos n *ℤ offset) (pos n *ℤ path) (pos n *ℤ bracket) sum path_near offset_near))

below_least : (n : ℕ) (least path sum : ℤ) → (pos n *ℤ least) ≤ℤ sum → unsigned_abs ((pos n *ℤ path) -ℤ sum) < n * nanosecond
    → (least -ℤ path) <ℤ pos nanosecond
below_least n least path sum above near =
    number_below n nanosecond (least -ℤ path) (omega arith)
    (rw (times_difference n least path) (one_side n (pos n *ℤ least) (pos n *ℤ path) sum above near))

above_greatest : (n : ℕ) (greatest path sum : ℤ) → sum ≤ℤ (pos n *ℤ greatest) → unsigned_abs ((pos n *ℤ path) -ℤ sum) < n * nanosecond
    → (path -ℤ greatest) <ℤ pos nanosecond
above_greatest n greatest path sum below near =
    number_below n nanosecond (path -ℤ greatest) (omega arith)
    (rw (times_difference n path greatest) (other_side n (pos n *ℤ greatest) (pos n *ℤ path) sum below near))

is_filter : (sum_off least greatest path : ℤ) → unsigned_abs sum_off < 2 * nanosecond → (least -ℤ path) <ℤ pos nanosecond
    → (path -ℤ greatest) <ℤ pos nanosecond
    → (is_within (pos (2 * nanosecond)) sum_off && int_le (beyond least greatest path) (pos (2 * nanosecond))) ≡ true
is_filter sum_off least greatest path sum_near low high =
    let near : is_within (pos (2 * nanosecond)) sum_off ≡ true = grind (arith, ints, sum_near) in
    let within : int_le (beyond least greatest path) (pos (2 * nanosecond)) ≡ true = at_most least greatest path low high in
    rw (near, within) refl

pub cut_right : (known : Known) (count : ℕ) (sum offset path : ℤ) → LiesWithin known count sum → IsCut count sum path
    → IsCut count ((pos count *ℤ known.bracket) -ℤ sum) offset → verdict_of known offset path (pos (2 * nanosecond)) ≢ Wrong
cut_right known count sum offset path lies path_cut offset_cut =
    filtered_right known offset path (pos (2 * nanosecond))
    (is_filter (sum_error known offset path) (least_known known) (greatest_known known) path
    (sum_near count offset path known.bracket sum path_cut offset_cut)
    (below_least count (least_known known) path sum lies.above path_cut)
    (above_greatest count (greatest_known known) path sum lies.below path_cut))

pub cut_path_right : (known : Known) (count : ℕ) (sum offset path : ℤ) → LiesWithin known count sum → IsCut count sum path
    → IsWithin 1 (sum_error known offset path) → verdict_of known offset path (pos (2 * nanosecond)) ≢ Wrong
cut_path_right known count sum offset path lies path_cut near =
    filtered_right known offset path (pos (2 * nanosecond))
    (is_filter (sum_error known offset path) (least_known known) (greatest_known known) path (omega (arith, near))
    (below_least count (least_known known) path sum lies.above path_cut)
    (above_greatest count (greatest_known known) path sum lies.below path_cut))

-- ---- medians and means lie between the least and the greatest
sum_above : (least from : ℤ) (delays : List ℤ) → All (λ delay. least ≤ℤ delay) delays
    → (from +ℤ (pos (length delays) *ℤ least)) ≤ℤ fold ◌+ℤ◌ from delays
sum_above least from [] all = let none = zero-*ℤ least in rw none (omega (arith, ints))
sum_above least from (delay ∷ delays) all =
    let rest = sum_above least (from +ℤ delay) delays (All-tail (λ it. least ≤ℤ it) delay delays all) in
    let here = All-head (λ it. least ≤ℤ it) delay delays all in
    let more = suc_ℤ-*ℤ (pos (length delays)) least in
    rw more (omega (arith, ints, rest, here))

sum_below : (greatest from : ℤ) (delays : List ℤ) → All (λ delay. delay ≤ℤ greatest) delays
    → fold ◌+ℤ◌ from delays ≤ℤ (from +ℤ (pos (length delays) *ℤ greatest))
sum_below greatest from [] all = let none = zero-*ℤ greatest in rw none (omega (arith, ints))
sum_below greatest from (delay ∷ delays) all =
    let rest = sum_below greatest (from +ℤ delay) delays (All-tail (λ it. it ≤ℤ greatest) delay delays all) in
    let here = All-head (λ it. it ≤ℤ greatest) delay delays all in
    let more = suc_ℤ-*ℤ (pos (length delays)) greatest in
    rw more (omega (arith, ints, rest, here))

module _ (known : Known) (count : ℕ) (some : 1 ≤ count) (within : count ≤ length known.responses.items) where
  all_above : All (λ delay. least_known known ≤ℤ delay) (take count known.responses.items)
  all_above = All-take (λ delay. least_known known ≤ℤ delay) count known.responses.items
      (fold-int_min_bounds known.latest known.responses.items (least_known known) refl).1

  all_below : All (λ delay. delay ≤ℤ greatest_known known) (take count known.responses.items)
  all_below = All-take (λ delay. delay ≤ℤ greatest_known known) count known.responses.items
      (fold-int_max_bounds known.latest known.responses.items (greatest_known known) refl).1

  so_many : length (take count known.responses.items) ≡ count
  so_many = length-take-le count known.responses.items within

  pub means_within : LiesWithin known count (total (take count known.responses.items))
  means_within =
      let above = sum_above (least_known known) (pos 0) (take count known.responses.items) all_above in
      let below = sum_below (greatest_known known) (pos 0) (take count known.responses.items) all_below in
      record {
        some = omega arith;
        above = from_none (pos count *ℤ least_known known) (total (take count known.responses.items)) (rw so_many at above);
        below = to_none (pos count *ℤ greatest_known known) (total (take count known.responses.items)) (rw so_many at below);
      }

  pub medians_within : LiesWithin known 2 (twice_median (take count known.responses.items))
  medians_within =
      let ordered = in_order (take count known.responses.items) in
      let size : length ordered ≡ count = length_in_order (take count known.responses.items) ∙ so_many in
      let low : (length ordered - 1) / 2 < length ordered = omega arith in
      let high : length ordered / 2 < length ordered = omega arith in
      let above = all_in_order (λ delay. least_known known ≤ℤ delay) (take count known.responses.items) all_above in
      let below = all_in_order (λ delay. delay ≤ℤ greatest_known known) (take count known.responses.items) all_below in
      record {
        some = omega arith;
        above = rw (twice (least_known known)) (both_above (least_known known) _ _
            (All-get_or (λ delay. least_known known ≤ℤ delay) ordered ((length ordered - 1) / 2) (pos 0) low above)
            (All-get_or (λ delay. least_known known ≤ℤ delay) ordered (length ordered / 2) (pos 0) high above));
        below = rw (twice (greatest_known known)) (both_below (greatest_known known) _ _
            (All-get_or (λ delay. delay ≤ℤ greatest_known known) ordered ((length ordered - 1) / 2) (pos 0) low below)
            (All-get_or (λ delay. delay ≤ℤ greatest_known known) ordered (length ordered / 2) (pos 0) high below));
      }
