-- Quotients that are rounded in two steps.
use Rattle.std.proofs.Common.{◌≡◌, ◌∙◌, ℕ, ◌+◌, ◌*◌, ◌/◌, ◌^◌, ◌<◌, sym, ap, arith}
use Rattle.std.proofs.Math.Nat.{add-mul, add-mul-div_right, div-div-eq-div-mul, mul_comm, mul_right_comm}
use Rattle.std.proofs.lemmas.Nat.{div-mul-add}

pub rounded_once : (a c : ℕ) → 0 < c → (a / c + 65536) / 131072 ≡ (a + 65536 * c) / (131072 * c)
rounded_once a c p =
    ap (λ n. n / 131072) (sym (add-mul-div_right a 65536 p)) ∙ div-div-eq-div-mul (a + 65536 * c) c 131072
    ∙ ap (λ n. (a + 65536 * c) / n) (mul_comm c 131072)

-- a number of two digits, so many times
times_digits : (one two d : ℕ) → (one * 2 ^ 64 + two) * d ≡ one * d * 2 ^ 64 + two * d
times_digits one two d = add-mul (one * 2 ^ 64) two d ∙ ap (λ n. n + two * d) (mul_right_comm one (2 ^ 64) d)

-- a number of four digits, the highest first
abbrev digits_of : (one two three four : ℕ) → ℕ
digits_of one two three four = three * 2 ^ 64 + four + (one * 2 ^ 64 + two) * 2 ^ 128

-- and so many times
times_all : (one two three four d : ℕ)
    → digits_of one two three four * d ≡ (one * d * 2 ^ 64 + two * d) * 2 ^ 128 + (three * d * 2 ^ 64 + four * d)
times_all one two three four d =
    let all = add-mul (three * 2 ^ 64 + four) ((one * 2 ^ 64 + two) * 2 ^ 128) d in
    let low = times_digits three four d in
    let high = times_digits one two d in
    let moved = mul_right_comm (one * 2 ^ 64 + two) (2 ^ 128) d in
    omega (arith, all, low, high, moved)

-- a number is divided digit by digit, the highest first
pub divided : (first second third fourth one two three four a b c left d : ℕ) → 0 + first ≡ one * d + a → a * 2 ^ 64 + second ≡ two * d + b
    → b * 2 ^ 64 + third ≡ three * d + c → c * 2 ^ 64 + fourth ≡ four * d + left → left < d
    → three * 2 ^ 64 + four + (one * 2 ^ 64 + two) * 2 ^ 128 ≡ (third * 2 ^ 64 + fourth + (first * 2 ^ 64 + second) * 2 ^ 128) / d
divided first second third fourth one two three four a b c left d p q r s below =
    let all = times_all one two three four d in
    let whole : (third * 2 ^ 64 + fourth + (first * 2 ^ 64 + second) * 2 ^ 128 ≡ digits_of one two three four * d + left) =
    omega (arith, all, p, q, r, s) in
    sym (ap (λ n. n / d) whole ∙ div-mul-add (digits_of one two three four) d left below)
