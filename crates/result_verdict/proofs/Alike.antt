-- A result in units of 2^-16 ns shows as `ptp_units` shows it.
use Rattle.std.proofs.Common.{◌≡◌, ◌∙◌, ℕ, zero, suc, ◌*◌, ◌/◌, ◌%◌, ◌^◌, ℤ, pos, negsuc, neg_ℤ, ◌++◌, codes, refl, ap, sym, arith}
use Rattle.std.proofs.Math.IntN.{negsuc-*ℤ-pos}
use Rattle.ptp_units.specs.Nanoseconds as units
use Rattle.ptp_units.proofs.LongDivision as halves
use Rattle.result_verdict.specs.Exact.{nanosecond, of_twice, decimals, size_text, exact_text}
use Rattle.result_verdict.proofs.Division.{decimals-nothing, decimals-no_places, decimals-step}

-- 2^-17 ns
abbrev unit : ℕ
unit = 5 ^ 17

decimals_alike : (places rest : ℕ) → decimals places (rest * unit) ≡ units.decimals places rest
decimals_alike zero rest = decimals-no_places (rest * unit) ∙ sym (halves.decimals-no_places rest)
decimals_alike (suc places) zero = decimals-nothing (suc places) ∙ sym (halves.decimals-nothing (suc places))
decimals_alike (suc places) (suc rest) =
    let digit : suc rest * unit * 10 / nanosecond ≡ suc rest * 10 / 131072 = omega arith in
    let after : suc rest * unit * 10 % nanosecond ≡ suc rest * 10 % 131072 * unit = omega arith in
    decimals-step places (suc rest * unit) (omega arith)
    ∙ rw (digit, after, decimals_alike places (suc rest * 10 % 131072)) (sym (halves.decimals-step places (suc rest) (omega arith)))

size_alike : (size : ℕ) → size_text (size * unit) ≡ units.size_text size
size_alike size =
    let whole : size * unit / nanosecond ≡ size / 131072 = omega arith in
    let rest : size * unit % nanosecond ≡ size % 131072 * unit = omega arith in
    rw (whole, rest, decimals_alike 17 (size % 131072)) refl

below_alike : (size : ℕ) (z : ℤ) (n : ℕ) → z ≡ neg_ℤ (pos n) → n ≡ suc size * unit → exact_text z ≡ codes "-" ++ units.size_text (suc size)
below_alike size z zero is many = absurd (omega arith)
below_alike size z (suc n) is many = ap exact_text is ∙ ap (λ text. codes "-" ++ text) (ap size_text many ∙ size_alike (suc size))

pub shows_alike : (twice : ℤ) → exact_text (of_twice twice) ≡ units.nanoseconds_text twice
shows_alike (pos n) = size_alike n
shows_alike (negsuc n) = below_alike n (of_twice (negsuc n)) (suc n * unit) (negsuc-*ℤ-pos n unit) refl
