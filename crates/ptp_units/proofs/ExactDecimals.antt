-- The decimals of long division are exact, and no more than are needed.
use Rattle.std.proofs.Common.{◌≡◌, ◌≢◌, ℕ, zero, suc, ◌+◌, ◌-◌, ◌*◌, ◌/◌, ◌%◌, ◌^◌, ◌<◌, ◌≤◌, true, List, [], ◌∷◌}
use Rattle.std.proofs.Common.{◌++◌, length, refl, ap, sym, arith, rules}
use Rattle.std.specs.List.{list_all}
use Rattle.std.specs.Char.{is_ascii_digit}
use Rattle.std.proofs.lemmas.Str.Parse.{IsNumeralModel, numerals_by_weight}
use Rattle.std.proofs.lemmas.Bool.Decides.{nat_tests}
use Rattle.ptp_units.specs.Nanoseconds.{decimals, size_text, ShowsExactly}
use Rattle.ptp_units.proofs.LongDivision.{decimals-nothing, decimals-no_places, decimals-step}

-- each digit with the weight of its place
abbrev weigh : List ℕ → ℕ
weigh [] = 0
weigh (c ∷ cs) = (c - 48) * 10 ^ length cs + weigh cs

own : IsNumeralModel (λ ds. list_all is_ascii_digit ds ≡ true) weigh
own = numerals_by_weight _ (search rules) weigh (search rules)

length_decimals : (places rest : ℕ) → length (decimals places rest) ≤ places
length_decimals zero rest = rw (decimals-no_places rest) (omega arith)
length_decimals (suc places) zero = rw (decimals-nothing (suc places)) (omega arith)
length_decimals (suc places) (suc rest) =
    let fewer = length_decimals places (suc rest * 10 % 131072) in
    rw (decimals-step places (suc rest) (omega arith)) (omega arith)

-- what long division leaves is a part of the rest, twice as coarse
leaves : (rest q r p k : ℕ) → rest * 10 ≡ q * 131072 + r → rest * (2 * p) ≡ k * 131072
    → r * p ≡ (5 * k - q * p) * 131072
leaves rest q r p k division even =
    let times = ap (λ x. x * p) division in
    omega arith

-- one digit and the decimals after it
weighed : (rest q r e v : ℕ) → rest * 10 ≡ q * 131072 + r → v * 131072 ≡ r * e → (q * e + v) * 131072 ≡ rest * (10 * e)
weighed rest q r e v division after =
    let times = ap (λ x. x * e) division in
    omega arith

-- decimals that are exactly this rest, with no 0 at their end
record AreExact (rest : ℕ) (ds : List ℕ) : Type 0 where
  digits : list_all is_ascii_digit ds ≡ true
  exact : weigh ds * 131072 ≡ rest * 10 ^ length ds
  shortest : (front : List ℕ) → ds ≢ front ++ 48 ∷ []

no_decimals : (front : List ℕ) → [] ≢ front ++ 48 ∷ []
no_decimals [] e = cc
no_decimals (x ∷ front) e = cc

exact_nothing : (rest : ℕ) (ds : List ℕ) → rest ≡ 0 → ds ≡ [] → AreExact rest ds
exact_nothing rest ds none empty =
    let nothing : AreExact 0 [] = record { digits = refl; exact = refl; shortest = no_decimals } in
    rw (none, empty) nothing

shortest_after : (rest : ℕ) (ds : List ℕ) → 0 < rest → AreExact (rest * 10 % 131072) ds → (front : List ℕ)
    → (48 + rest * 10 / 131072) ∷ ds ≢ front ++ 48 ∷ []
shortest_after rest ds some after [] e =
    let empty : ds ≡ [] = cc in
    let digit : 48 + rest * 10 / 131072 ≡ 48 = cc in
    let none = rw empty at after.exact in
    omega arith
shortest_after rest ds some after (x ∷ front) e = let same : ds ≡ front ++ 48 ∷ [] = cc in after.shortest front same

exact_after : (rest : ℕ) (ds : List ℕ) → 0 < rest → rest < 131072 → AreExact (rest * 10 % 131072) ds
    → AreExact rest ((48 + rest * 10 / 131072) ∷ ds)
exact_after rest ds some below after =
    let digit : is_ascii_digit (48 + rest * 10 / 131072) ≡ true = grind (arith, nat_tests) in
    let value : 48 + rest * 10 / 131072 - 48 ≡ rest * 10 / 131072 = omega arith in
    let power : 10 ^ suc (length ds) ≡ 10 * 10 ^ length ds = omega arith in
    record {
      digits = rw (digit, after.digits);
      exact = rw (value, power)
          (weighed rest (rest * 10 / 131072) (rest * 10 % 131072) (10 ^ length ds) (weigh ds)
          (omega arith) after.exact);
      shortest = shortest_after rest ds some after;
    }

-- the decimals of a rest that is whole after so many halvings
exact_decimals : (places rest k : ℕ) → rest < 131072 → rest * 2 ^ places ≡ k * 131072
    → AreExact rest (decimals places rest)
exact_decimals zero rest k below even = exact_nothing rest (decimals 0 rest) (omega arith) (decimals-no_places rest)
exact_decimals (suc places) zero k below even =
    exact_nothing 0 (decimals (suc places) 0) refl (decimals-nothing (suc places))
exact_decimals (suc places) (suc rest) k below even =
    let power : 2 ^ suc places ≡ 2 * 2 ^ places = omega arith in
    let halved = leaves (suc rest) (suc rest * 10 / 131072) (suc rest * 10 % 131072) (2 ^ places) k (omega arith)
    (rw power at even) in
    let after = exact_decimals places (suc rest * 10 % 131072) _ (omega arith) halved in
    rw (decimals-step places (suc rest) (omega arith))
    (exact_after (suc rest) (decimals places (suc rest * 10 % 131072)) (omega arith) below after)

-- a whole number before exact decimals
joined : (size whole rest e v : ℕ) → size ≡ whole * 131072 + rest → v * 131072 ≡ rest * e
    → (whole * e + v) * 131072 ≡ size * e
joined size whole rest e v parts exact =
    let times = ap (λ x. x * e) parts in
    omega arith

pub shows_exactly : (size : ℕ) → ShowsExactly size (size_text size)
shows_exactly size =
    let rest = size % 131072 in
    let are = exact_decimals 17 rest rest (omega arith) refl in
    record {
      whole = size / 131072;
      fraction = decimals 17 rest;
      text = refl;
      digits = are.digits;
      exact = rw (sym (own.same (decimals 17 rest) (own.to (decimals 17 rest) are.digits)))
          (joined size (size / 131072) rest (10 ^ length (decimals 17 rest)) (weigh (decimals 17 rest))
          (omega arith) are.exact);
      at_most = length_decimals 17 rest;
      shortest = are.shortest;
    }
