-- Quotients: what a dividend and its divisor are by the quotient and the remainder.
use Rattle.std.proofs.Common.{◌≡◌, ◌∙◌, ℕ, zero, suc, ◌+◌, ◌-◌, ◌*◌, ◌/◌, ◌%◌, ◌^◌, ◌<◌, ◌≤◌, sym, ap, subst, arith}
use Rattle.std.specs.Prelude.{ℤ, pos, negsuc, ◌+ℤ◌, ◌-ℤ◌, ◌*ℤ◌}
use Rattle.std.proofs.Math.Nat.{add-mul, mul_assoc, mul_comm, mul-le-mul_right, le_of_mul-le-mul_right, div-mul-le_self}
use Rattle.std.proofs.lemmas.Nat.{div-mul-add, mod-mul-add}
use Rattle.std.proofs.lemmas.Int.{ints}
use Rattle.tap_sums.specs.Rounded.{floor, remainder, next_to, rounded}

floor_up : (m k rest divisor : ℕ) → rest < divisor → m ≡ k * divisor + rest
    → (floor (pos m) divisor ≡ pos k) × (remainder (pos m) divisor ≡ rest)
floor_up m k rest divisor below is = (
  ap (λ (x : ℕ). pos (x / divisor)) is ∙ ap pos (div-mul-add k divisor rest below),
  ap (λ (x : ℕ). x % divisor) is ∙ mod-mul-add k divisor rest below,
)

floor_down : (m k rest divisor : ℕ) → rest < divisor → m ≡ k * divisor + (divisor - 1 - rest)
    → (floor (negsuc m) divisor ≡ negsuc k) × (remainder (negsuc m) divisor ≡ rest)
floor_down m k rest divisor below is =
    let small : divisor - 1 - rest < divisor = omega arith in
    let left : m % divisor ≡ divisor - 1 - rest = ap (λ (x : ℕ). x % divisor) is ∙ mod-mul-add k divisor (divisor - 1 - rest) small in (
      ap (λ (x : ℕ). negsuc (x / divisor)) is ∙ ap negsuc (div-mul-add k divisor (divisor - 1 - rest) small),
      omega (arith, left),
    )

abbrev HasFloor : (n : ℤ) (raised whole rest divisor : ℕ) → Type 0
HasFloor n raised whole rest divisor = (floor n divisor ≡ pos whole -ℤ pos raised) × (remainder n divisor ≡ rest)

-- the whole number is so much above what it is raised by, or so much below
above : (n : ℤ) (raised k rest divisor : ℕ) → rest < divisor → n +ℤ pos (raised * divisor) ≡ pos ((raised + k) * divisor + rest)
    → HasFloor n raised (raised + k) rest divisor
above (pos m) raised k rest divisor below is =
    let split : (raised + k) * divisor ≡ raised * divisor + k * divisor = add-mul raised k divisor in
    let up = floor_up m k rest divisor below (omega (arith, ints, split, is)) in
    (up.0 ∙ omega (arith, ints), up.1)
above (negsuc m) raised k rest divisor below is =
    let split : (raised + k) * divisor ≡ raised * divisor + k * divisor = add-mul raised k divisor in
    absurd (omega (arith, ints, split, is))

beneath : (n : ℤ) (whole k rest divisor : ℕ) → rest < divisor → n +ℤ pos ((whole + suc k) * divisor) ≡ pos (whole * divisor + rest)
    → HasFloor n (whole + suc k) whole rest divisor
beneath (pos m) whole k rest divisor below is =
    let split : (whole + suc k) * divisor ≡ whole * divisor + suc k * divisor = add-mul whole (suc k) divisor in
    let more : suc k * divisor ≡ divisor + k * divisor = grind (arith, add-mul 1 k divisor) in
    absurd (omega (arith, ints, split, more, is))
beneath (negsuc m) whole k rest divisor below is =
    let split : (whole + suc k) * divisor ≡ whole * divisor + suc k * divisor = add-mul whole (suc k) divisor in
    let more : suc k * divisor ≡ divisor + k * divisor = grind (arith, add-mul 1 k divisor) in
    let down = floor_down m k rest divisor below (omega (arith, ints, split, more, is)) in
    (down.0 ∙ omega (arith, ints), down.1)

data Compared (a b : ℕ) : Type 0 where
  Above : (k : ℕ) → a ≡ b + k → Compared a b
  Below : (k : ℕ) → b ≡ a + suc k → Compared a b

compared : (a b : ℕ) → Compared a b
compared a zero = Above a (omega arith)
compared zero (suc b) = Below b (omega arith)
compared (suc a) (suc b) = elim (compared a b) [ Above k is ↦ Above k (omega arith) | Below k is ↦ Below k (omega arith) ]

has_floor : (n : ℤ) (raised whole rest divisor : ℕ) → rest < divisor → n +ℤ pos (raised * divisor) ≡ pos (whole * divisor + rest)
    → HasFloor n raised whole rest divisor
has_floor n raised whole rest divisor below is = elim (compared whole raised) [
  | Above k same ↦
      subst (λ (w : ℕ). HasFloor n raised w rest divisor) (sym same)
      (above n raised k rest divisor below (subst (λ (w : ℕ). n +ℤ pos (raised * divisor) ≡ pos (w * divisor + rest)) same is))
  | Below k same ↦
      subst (λ (r : ℕ). HasFloor n r whole rest divisor) (sym same)
      (beneath n whole k rest divisor below (subst (λ (r : ℕ). n +ℤ pos (r * divisor) ≡ pos (whole * divisor + rest)) same is))
]

-- a quotient of which these are the whole number, raised, and the remainder, is rounded by these
pub rounded_by : (n : ℤ) (raised whole rest divisor : ℕ) → rest < divisor
    → n +ℤ pos (raised * divisor) ≡ pos (whole * divisor + rest)
    → rounded n divisor ≡ next_to (pos whole -ℤ pos raised) rest divisor
rounded_by n raised whole rest divisor below is =
    let (at, left) = has_floor n raised whole rest divisor below is in
    ap (λ (w : ℤ). next_to w (remainder n divisor) divisor) at ∙ ap (λ (r : ℕ). next_to (pos whole -ℤ pos raised) r divisor) left

-- so many times a number that was raised
pub times_raised : (n : ℤ) (t w k : ℕ) → pos t ≡ n +ℤ pos w → n *ℤ pos k +ℤ pos (w * k) ≡ pos (t * k)
times_raised (pos m) t w k is =
    let same : t ≡ m + w = omega (arith, ints, is) in
    let split : t * k ≡ m * k + w * k = ap (λ (x : ℕ). x * k) same ∙ add-mul m w k in
    omega (arith, ints, split)
times_raised (negsuc m) t w k is =
    let same : w ≡ t + suc m = omega (arith, ints, is) in
    let split : w * k ≡ t * k + suc m * k = ap (λ (x : ℕ). x * k) same ∙ add-mul t (suc m) k in
    omega (arith, ints, split)

-- (a * c + r) * o, by the product of c and o
grouped : (a c r o : ℕ) → (a * c + r) * o ≡ a * (c * o) + r * o
grouped a c r o = add-mul (a * c) r o ∙ ap (λ (x : ℕ). x + r * o) (mul_assoc a c o)

-- the two sums of a difference or a half of a sum, by one divisor
record AreRaised (x y : ℤ) (raised a b r s divisor : ℕ) : Type 0 where
  one : x +ℤ pos (raised * divisor) ≡ pos (a * divisor + r)
  other : y +ℤ pos (raised * divisor) ≡ pos (b * divisor + s)

are_raised : (n m : ℤ) (raised a b c o r s : ℕ) → pos (a * c + r) ≡ n +ℤ pos (raised * c) → pos (b * o + s) ≡ m +ℤ pos (raised * o)
    → AreRaised (n *ℤ pos o) (m *ℤ pos c) raised a b (r * o) (s * c) (c * o)
are_raised n m raised a b c o r s one other = record {
  one = rw (sym (mul_assoc raised c o), sym (grouped a c r o)) (times_raised n (a * c + r) (raised * c) o one);
  other =
      rw (mul_comm c o, sym (mul_assoc raised o c), sym (grouped b o s c)) (times_raised m (b * o + s) (raised * o) c other);
}

differ : (x y : ℤ) (raised a b r s divisor : ℕ) → AreRaised x y raised a b r s divisor → s ≤ r → r < divisor
    → rounded (x -ℤ y) divisor ≡ next_to (pos a -ℤ pos b) (r - s) divisor
differ x y raised a b r s divisor are less below =
    rounded_by (x -ℤ y) b a (r - s) divisor (omega arith) (omega (arith, ints, are.one, are.other))

differ_below : (x y : ℤ) (raised a b r s divisor : ℕ) → AreRaised x y raised a b r s divisor → r < s → s < divisor
    → rounded (x -ℤ y) divisor ≡ next_to ((pos a -ℤ pos b) -ℤ pos 1) (divisor - (s - r)) divisor
differ_below x y raised a b r s divisor are less below =
    let more : suc b * divisor ≡ divisor + b * divisor = grind (arith, add-mul 1 b divisor) in
    let whole : pos a -ℤ pos (suc b) ≡ (pos a -ℤ pos b) -ℤ pos 1 = omega (arith, ints) in
    rounded_by (x -ℤ y) (suc b) a (divisor - (s - r)) divisor (omega arith) (omega (arith, ints, more, are.one, are.other))
    ∙ ap (λ (w : ℤ). next_to w (divisor - (s - r)) divisor) whole

-- the remainder of one, times the divisor of the other, is below both together
below_both : (r c o : ℕ) → r < c → zero < o → r * o < c * o
below_both r c o less some =
    let most : suc r * o ≤ c * o = mul-le-mul_right o less in
    let more : suc r * o ≡ o + r * o = grind (arith, add-mul 1 r o) in
    omega (arith, most, more)

pub difference_up : (n m : ℤ) (raised a b c o r s : ℕ) → pos (a * c + r) ≡ n +ℤ pos (raised * c)
    → pos (b * o + s) ≡ m +ℤ pos (raised * o) → r < c → s < o → s * c ≤ r * o
    → rounded (n *ℤ pos o -ℤ m *ℤ pos c) (c * o) ≡ next_to (pos a -ℤ pos b) (r * o - s * c) (c * o)
difference_up n m raised a b c o r s one other rest others less =
    differ (n *ℤ pos o) (m *ℤ pos c) raised a b (r * o) (s * c) (c * o) (are_raised n m raised a b c o r s one other) less
    (below_both r c o rest (omega arith))

pub difference_down : (n m : ℤ) (raised a b c o r s : ℕ) → pos (a * c + r) ≡ n +ℤ pos (raised * c)
    → pos (b * o + s) ≡ m +ℤ pos (raised * o) → r < c → s < o → r * o < s * c
    → rounded (n *ℤ pos o -ℤ m *ℤ pos c) (c * o)
    ≡ next_to ((pos a -ℤ pos b) -ℤ pos 1) (c * o - (s * c - r * o)) (c * o)
difference_down n m raised a b c o r s one other rest others less =
    differ_below (n *ℤ pos o) (m *ℤ pos c) raised a b (r * o) (s * c) (c * o) (are_raised n m raised a b c o r s one other) less
    (subst (λ (x : ℕ). s * c < x) (mul_comm o c) (below_both s o c others (omega arith)))

-- ---- half of a sum
halves : (x y : ℤ) (raised a b r s divisor h e : ℕ) → AreRaised x y raised a b r s divisor → a + b ≡ 2 * h + e
    → (x +ℤ y) +ℤ pos (raised * (2 * divisor)) ≡ pos (h * (2 * divisor) + (e * divisor + (r + s)))
halves x y raised a b r s divisor h e are both =
    let raised_twice : raised * (2 * divisor) ≡ 2 * (raised * divisor) =
    sym (mul_assoc raised 2 divisor) ∙ ap (λ (k : ℕ). k * divisor) (mul_comm raised 2) ∙ mul_assoc 2 raised divisor in
    let half_twice : h * (2 * divisor) ≡ 2 * (h * divisor) =
    sym (mul_assoc h 2 divisor) ∙ ap (λ (k : ℕ). k * divisor) (mul_comm h 2) ∙ mul_assoc 2 h divisor in
    let left : (a + b) * divisor ≡ a * divisor + b * divisor = add-mul a b divisor in
    let right : (2 * h + e) * divisor ≡ 2 * (h * divisor) + e * divisor = grouped 2 h e divisor in
    let same : (a + b) * divisor ≡ (2 * h + e) * divisor = ap (λ (k : ℕ). k * divisor) both in
    omega (arith, ints, raised_twice, half_twice, left, right, same, are.one, are.other)

pub half_down : (n m : ℤ) (raised a b c o r s h e : ℕ) → pos (a * c + r) ≡ n +ℤ pos (raised * c)
    → pos (b * o + s) ≡ m +ℤ pos (raised * o) → a + b ≡ 2 * h + e → e * (c * o) + (r * o + s * c) < 2 * (c * o)
    → rounded (n *ℤ pos o +ℤ m *ℤ pos c) (2 * (c * o))
    ≡ next_to (pos h -ℤ pos raised) (e * (c * o) + (r * o + s * c)) (2 * (c * o))
half_down n m raised a b c o r s h e one other both below =
    rounded_by (n *ℤ pos o +ℤ m *ℤ pos c) raised h (e * (c * o) + (r * o + s * c)) (2 * (c * o)) below
    (halves (n *ℤ pos o) (m *ℤ pos c) raised a b (r * o) (s * c) (c * o) h e (are_raised n m raised a b c o r s one other) both)

pub half_up : (n m : ℤ) (raised a b c o r s h e : ℕ) → pos (a * c + r) ≡ n +ℤ pos (raised * c)
    → pos (b * o + s) ≡ m +ℤ pos (raised * o) → a + b ≡ 2 * h + e → e < 2 → r < c → s < o
    → 2 * (c * o) ≤ e * (c * o) + (r * o + s * c)
    → rounded (n *ℤ pos o +ℤ m *ℤ pos c) (2 * (c * o))
    ≡ next_to ((pos h -ℤ pos raised) +ℤ pos 1) (e * (c * o) + (r * o + s * c) - 2 * (c * o)) (2 * (c * o))
half_up n m raised a b c o r s h e one other both few rest others over =
    let first : r * o < c * o = below_both r c o rest (omega arith) in
    let second : s * c < c * o = subst (λ (x : ℕ). s * c < x) (mul_comm o c) (below_both s o c others (omega arith)) in
    let third : e * (c * o) ≤ 1 * (c * o) = mul-le-mul_right (c * o) (omega arith) in
    let single : 1 * (c * o) ≡ c * o = omega arith in
    let more : suc h * (2 * (c * o)) ≡ 2 * (c * o) + h * (2 * (c * o)) = grind (arith, add-mul 1 h (2 * (c * o))) in
    let whole : pos (suc h) -ℤ pos raised ≡ (pos h -ℤ pos raised) +ℤ pos 1 = omega (arith, ints) in
    let is = halves (n *ℤ pos o) (m *ℤ pos c) raised a b (r * o) (s * c) (c * o) h e (are_raised n m raised a b c o r s one other) both in
    rounded_by (n *ℤ pos o +ℤ m *ℤ pos c) raised (suc h) (e * (c * o) + (r * o + s * c) - 2 * (c * o)) (2 * (c * o)) (omega arith)
    (is ∙ omega (arith, ints, more))
    ∙ ap (λ (w : ℤ). next_to w (e * (c * o) + (r * o + s * c) - 2 * (c * o)) (2 * (c * o))) whole

-- what came of a quotient, by the numbers that it was rounded by
pub rounds_by : (n r w : ℤ) (raised whole rest divisor : ℕ) → r ≡ next_to w rest divisor → w ≡ pos whole -ℤ pos raised
    → rest < divisor → pos (whole * divisor + rest) ≡ n +ℤ pos (raised * divisor) → r ≡ rounded n divisor
rounds_by n r w raised whole rest divisor is same below sum =
    is ∙ ap (λ (v : ℤ). next_to v rest divisor) same ∙ sym (rounded_by n raised whole rest divisor below (sym sum))

pub next_is : (r w v : ℤ) (rest divisor : ℕ) → r ≡ next_to w rest divisor → w ≡ v → r ≡ next_to v rest divisor
next_is r w v rest divisor is same = is ∙ ap (λ (u : ℤ). next_to u rest divisor) same

-- ---- how great a quotient is
quotient_up_to : (x n k : ℕ) → zero < n → x ≤ k * n → x / n ≤ k
quotient_up_to x n k some most = le_of_mul-le-mul_right (omega (arith, div-mul-le_self x n)) some

pub whole_below : (high low n : ℕ) → zero < n → high ≤ 17179869184 * n → low ≤ 18446744073709551616 * n
    → (high + low / 18446744073709551616) / n * 18446744073709551616
    + ((high + low / 18446744073709551616) % n * 18446744073709551616 + low % 18446744073709551616) / n
    < 2 ^ 99
whole_below high low n some top bottom =
    let first = quotient_up_to (high + low / 18446744073709551616) n 17179869185 some (omega arith) in
    let rest : (high + low / 18446744073709551616) % n < n = omega arith in
    let second = quotient_up_to ((high + low / 18446744073709551616) % n * 18446744073709551616 + low % 18446744073709551616) n
    18446744073709551616 some (omega arith) in
    omega (arith, first, second)
