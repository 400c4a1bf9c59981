-- A number has one text.
use Rattle.std.proofs.Common.{◌≡◌, ◌∙◌, ◌==◌, ◌&&◌, ◌+◌, ◌*◌, ◌^◌, ◌<◌, ◌≤◌, ℕ, zero, suc, ℤ, pos, negsuc, neg_ℤ, nat_lt, Bool, true, false, List, [], ◌∷◌, length, drop, slice_index, codes, Option, Some, None, IfSome, option_map, if◌then◌else◌, bytes_eq, refl, sym, ap, subst, inl, inr, arith}
use Rattle.std.specs.Char.{digit_value}
use Rattle.std.specs.Str.{all_ascii_digits}
use Rattle.std.specs.Str.Parse.{AllDigits, digits_value_after, digits_value}
use Rattle.std.proofs.Math.Nat.{mul-le-mul_right, mul_assoc, one-le-pow, pow-succ', pow-le-pow_right}
use Rattle.std.proofs.lemmas.Bool.{cases_order}
use Rattle.std.proofs.lemmas.Bool.Decides.{nat_tests}
use Rattle.std.proofs.lemmas.Slice.Eq.{bytes_eq-Decides}
use Rattle.std.proofs.lemmas.Str.{digit_value_digit}
use Rattle.std.proofs.lemmas.Str.Parse.{digit_from_value}
use Rattle.std.proofs.lemmas.Int.Digits.{digits_value-lt}
use Rattle.schedule_lines.specs.Json.{positive_of, difference_of}
use Rattle.schedule_lines.specs.Keys.{NumbersHaveOneText}
use Rattle.schedule_lines.proofs.Digits.{own}
use Rattle.network_model.proofs.Options.{mapped, either}

-- ---- digits

-- as many digits behind two numbers make one number only where the numbers are the same, and the digits
same_behind : (m n : ℕ) (cs ds : List ℕ) → AllDigits 10 cs → AllDigits 10 ds → length cs ≡ length ds
    → digits_value_after 10 m cs ≡ digits_value_after 10 n ds → (m ≡ n) × (cs ≡ ds)
same_behind m n [] [] c d long e = (e, refl)
same_behind m n [] (y ∷ ds) c d long e = absurd (omega arith)
same_behind m n (x ∷ cs) [] c d long e = absurd (omega arith)
same_behind m n (x ∷ cs) (y ∷ ds) c d long e =
    let rest = same_behind (m * 10 + digit_value x) (n * 10 + digit_value y) cs ds c.1 d.1 (omega arith) e in
    let one = digit_value_digit x (digit_from_value x c.0) in
    let other = digit_value_digit y (digit_from_value y d.0) in
    let fronts : m ≡ n = omega (arith, rest.0, c.0, d.0) in
    let digits : x ≡ y = omega (arith, rest.0, c.0, d.0, one, other) in
    (fronts, λ i. digits i ∷ rest.1 i)

-- each digit behind a number multiplies it
at_least : (m : ℕ) (cs : List ℕ) → m * 10 ^ length cs ≤ digits_value_after 10 m cs
at_least m [] = omega arith
at_least m (c ∷ cs) =
    let more : m * 10 * 10 ^ length cs ≤ (m * 10 + digit_value c) * 10 ^ length cs = mul-le-mul_right (10 ^ length cs) (omega arith) in
    let same : m * 10 ^ suc (length cs) ≡ m * 10 * 10 ^ length cs = ap (λ p. m * p) (pow-succ' 10 (length cs)) ∙ sym (mul_assoc m 10 (10 ^ length cs)) in
    let rest = at_least (m * 10 + digit_value c) cs in
    let le : m * 10 ^ suc (length cs) ≤ digits_value_after 10 (m * 10 + digit_value c) cs = omega arith in le

-- digits of this number that begin above `0`
record IsPositive (n : ℕ) (ds : List ℕ) : Type 0 where
  first : 48 < slice_index ds 0
  digits : AllDigits 10 ds
  value : digits_value 10 ds ≡ n

-- the first digit is 1 or more, and the others multiply it
large : (n c : ℕ) (cs : List ℕ) → IsPositive n (c ∷ cs) → 10 ^ length cs ≤ n
large n c cs h =
    let first = digit_value_digit c (digit_from_value c h.digits.0) in
    let some : 1 ≤ 0 * 10 + digit_value c = omega (arith, first, h.first) in
    let once = mul-le-mul_right (10 ^ length cs) some in
    let rest = at_least (0 * 10 + digit_value c) cs in
    omega (arith, once, rest, h.value)

positive : (n : ℕ) (ds : List ℕ) → IsPositive n ds → 0 < n
positive n [] h = absurd (omega (arith, h.first))
positive n (c ∷ cs) h =
    let first = digit_value_digit c (digit_from_value c h.digits.0) in
    let rest = large n c cs h in
    let one : 1 ≤ 10 ^ length cs = one-le-pow (length cs) 10 (omega arith) in
    omega arith

not_longer : (n : ℕ) (cs ds : List ℕ) → IsPositive n cs → IsPositive n ds → length cs < length ds → ⊥
not_longer n cs [] a b longer = omega arith
not_longer n cs (d ∷ ds) a b longer =
    let small = digits_value-lt 10 cs a.digits in
    let powers : 10 ^ length cs ≤ 10 ^ length ds = pow-le-pow_right (omega arith) (omega arith) in
    omega (arith, small, powers, large n d ds b, a.value)

positive_same : (n : ℕ) (cs ds : List ℕ) → IsPositive n cs → IsPositive n ds → cs ≡ ds
positive_same n cs ds a b =
    let same : length cs ≡ length ds → cs ≡ ds = λ e. (same_behind 0 0 cs ds a.digits b.digits e (a.value ∙ sym b.value)).1 in
    elim (cases_order (length cs) (length ds)) [ inl e ↦ same e | inr o ↦ elim o [ inl l ↦ absurd (not_longer n cs ds a b l) | inr g ↦ absurd (not_longer n ds cs b a g) ] ]

-- ---- texts

positive_parts : (b c : Bool) (n k : ℕ) → (if b && c then Some k else None) ≡ Some n → (b ≡ true) × (c ≡ true) × (k ≡ n)
positive_parts true true n k e = (refl, refl, cc)
positive_parts true false n k e = absurd (cc)
positive_parts false c n k e = absurd (cc)

IsPositive-from : (n : ℕ) (ds : List ℕ) → positive_of ds ≡ Some n → IsPositive n ds
IsPositive-from n ds e =
    let parts = positive_parts (nat_lt 48 (slice_index ds 0)) (all_ascii_digits ds) n (digits_value 10 ds) e in
    let above : 48 < slice_index ds 0 = grind (arith, nat_tests, parts.0) in
    record { first = above; digits = own.to ds parts.1; value = parts.2 }

-- the one form of a number's text
abbrev IsTextOf : ℤ → List ℕ → Type 0
IsTextOf (pos zero) text = text ≡ codes "0"
IsTextOf (pos (suc n)) text = IsPositive (suc n) text
IsTextOf (negsuc n) text = (slice_index text 0 ≡ 45) × IsPositive (suc n) (drop 1 text)

each_some : {A : Type 0} (P : A → Type 0) (o : Option A) → ((a : A) → o ≡ Some a → P a) → IfSome o P
each_some P None each = tt
each_some P (Some a) each = each a refl

unsigned : (n : ℕ) (text : List ℕ) → IsPositive n text → IsTextOf (pos n) text
unsigned zero text h = absurd (omega (arith, positive 0 text h))
unsigned (suc n) text h = h

negative : (n : ℕ) (text : List ℕ) → slice_index text 0 ≡ 45 → IsPositive n (drop 1 text) → IsTextOf (neg_ℤ (pos n)) text
negative zero text minus h = absurd (omega (arith, positive 0 (drop 1 text) h))
negative (suc n) text minus h = (minus, h)

text_of : (text : List ℕ) → IfSome (difference_of text) (λ z. IsTextOf z text)
text_of text =
    let P : ℤ → Type 0 = λ z. IsTextOf z text in
    either P (bytes_eq text (codes "0")) (Some (pos 0)) _ (λ same. (bytes_eq-Decides text (codes "0")).0 same) (λ _.
    either P (nat_lt 32 (length text)) None _ (λ _. tt) (λ _.
    either P (slice_index text 0 == 45) (option_map (λ n. neg_ℤ (pos n)) (positive_of (drop 1 text))) (option_map pos (positive_of text))
    (λ minus. let signed : slice_index text 0 ≡ 45 = grind (arith, nat_tests, minus) in
    mapped P (λ n. neg_ℤ (pos n)) (positive_of (drop 1 text)) (each_some _ (positive_of (drop 1 text)) (λ n e. negative n text signed (IsPositive-from n (drop 1 text) e))))
    (λ _. mapped P pos (positive_of text) (each_some _ (positive_of text) (λ n e. unsigned n text (IsPositive-from n text e))))))

signed_same : (one other : List ℕ) → slice_index one 0 ≡ 45 → slice_index other 0 ≡ 45 → drop 1 one ≡ drop 1 other → one ≡ other
signed_same [] other a b e = absurd (omega arith)
signed_same (x ∷ xs) [] a b e = absurd (omega arith)
signed_same (x ∷ xs) (y ∷ ys) a b e = let first : x ≡ y = a ∙ sym b in λ i. first i ∷ e i

one_form : (z : ℤ) (one other : List ℕ) → IsTextOf z one → IsTextOf z other → one ≡ other
one_form (pos zero) one other a b = a ∙ sym b
one_form (pos (suc n)) one other a b = positive_same (suc n) one other a b
one_form (negsuc n) one other a b = signed_same one other a.0 b.0 (positive_same (suc n) (drop 1 one) (drop 1 other) a.1 b.1)

-- texts that are read as one number are the same
pub numbers_have_one_text : NumbersHaveOneText
numbers_have_one_text z one other a b =
    let Q : (text : List ℕ) → Option ℤ → Type 0 = λ text o. IfSome o (λ y. IsTextOf y text) in
    one_form z one other (subst (Q one) a (text_of one)) (subst (Q other) b (text_of other))
