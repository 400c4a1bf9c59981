-- Texts that need no escape in JSON: names, numbers, octets in hexadecimal.
use Rattle.std.proofs.Common.{◌≡◌, ◌∙◌, ℕ, zero, suc, ℤ, pos, negsuc, ◌+◌, ◌/◌, ◌%◌, ◌^◌, ◌<◌, ◌==◌, true, false}
use Rattle.std.proofs.Common.{◌&&◌, nat_lt, List, [], ◌∷◌, ◌++◌, length, slice_index, refl, arith}
use Rattle.std.specs.Fmt.{decimal, signed_decimal}
use Rattle.std.specs.List.{list_all}
use mir.Val.{SFits}
use mir.Syntax.{w128}
use Rattle.std.proofs.lemmas.Bool.{and_parts}
use Rattle.std.proofs.lemmas.Bool.Decides.{nat_tests}
use Rattle.std.proofs.lemmas.Fmt.{decimal_by_steps_wide}
use Rattle.std.proofs.lemmas.List.Concat.{flat_map-cons}
use Rattle.std.proofs.lemmas.List.Folds.{list_all-append}
use Rattle.std.proofs.lemmas.List.Sums.{list_all-from_AllPass}
use Rattle.hex.specs.Hex.{IsBytes, encode_lower, encode_with, lower_digits}
use Rattle.json.specs.Print.{escape_byte, escape}
use Rattle.network_model.specs.Name.{IsName, is_name_octet}

-- an octet of a name stands for itself
octet_alone : (x : ℕ) → is_name_octet x ≡ true → escape_byte x ≡ x ∷ []
unfolding escape_byte
octet_alone x name =
    let a : (x == 34) ≡ false = grind (arith, nat_tests, name) in
    let b : (x == 92) ≡ false = grind (arith, nat_tests, name) in
    let c : (x == 8) ≡ false = grind (arith, nat_tests, name) in
    let d : (x == 12) ≡ false = grind (arith, nat_tests, name) in
    let e : (x == 10) ≡ false = grind (arith, nat_tests, name) in
    let f : (x == 13) ≡ false = grind (arith, nat_tests, name) in
    let g : (x == 9) ≡ false = grind (arith, nat_tests, name) in
    let high : nat_lt x 32 ≡ false = grind (arith, nat_tests, name) in
    rw (a, b, c, d, e, f, g, high)

pub escape_plain : (s : List ℕ) → list_all is_name_octet s ≡ true → escape s ≡ s
escape_plain [] h = refl
escape_plain (x ∷ s) h =
    let parts : (is_name_octet x ≡ true) × (list_all is_name_octet s ≡ true) = and_parts (is_name_octet x) (list_all is_name_octet s) h in
    flat_map-cons escape_byte x s ∙ (λ i. octet_alone x parts.0 i ++ escape_plain s parts.1 i)

pub escape_name : (text : List ℕ) → IsName text → escape text ≡ text
escape_name text h = escape_plain text (list_all-from_AllPass is_name_octet text h.octets)

-- ---- numbers

digit_alone : (n : ℕ) → n < 10 → list_all is_name_octet ((48 + n) ∷ []) ≡ true
digit_alone n small =
    let test : is_name_octet (48 + n) ≡ true = grind (arith, nat_tests) in
    rw test

more_digits : (n : ℕ) (ds : List ℕ) → list_all is_name_octet ds ≡ true → list_all is_name_octet (ds ++ ((48 + n % 10) ∷ [])) ≡ true
more_digits n ds h =
    let last : list_all is_name_octet ((48 + n % 10) ∷ []) ≡ true = digit_alone (n % 10) (omega arith) in
    list_all-append is_name_octet ds ((48 + n % 10) ∷ []) ∙ (λ i. h i && last i)

plain_decimal : (n : ℕ) → n < 10 ^ 64 → list_all is_name_octet (decimal n) ≡ true
plain_decimal n small = decimal_by_steps_wide (λ m ds. list_all is_name_octet ds ≡ true) digit_alone (λ m ds _ h. more_digits m ds h) n small

-- a number whose text is no longer than that of any of 128 bits
abbrev pub IsWide : ℤ → Type 0
IsWide (pos n) = n < 10 ^ 63
IsWide (negsuc n) = n < 10 ^ 63

plain_signed : (z : ℤ) → IsWide z → list_all is_name_octet (signed_decimal z) ≡ true
plain_signed (pos n) small = plain_decimal n (omega (arith, small))
plain_signed (negsuc n) small = plain_decimal (suc n) (omega (arith, small))

pub escape_signed : (z : ℤ) → IsWide z → escape (signed_decimal z) ≡ signed_decimal z
escape_signed z small = escape_plain (signed_decimal z) (plain_signed z small)

-- ---- octets in hexadecimal

plain_at : (xs : List ℕ) (k : ℕ) → list_all is_name_octet xs ≡ true → k < length xs → is_name_octet (slice_index xs k) ≡ true
plain_at [] k h within = absurd (omega arith)
plain_at (x ∷ xs) zero h within = (and_parts (is_name_octet x) (list_all is_name_octet xs) h).0
plain_at (x ∷ xs) (suc k) h within = plain_at xs k (and_parts (is_name_octet x) (list_all is_name_octet xs) h).1 (omega arith)

plain_hex : (k : ℕ) → k < 16 → is_name_octet (slice_index lower_digits k) ≡ true
plain_hex k small = plain_at lower_digits k refl (omega (arith, small))

plain_octets : (octets : List ℕ) → IsBytes octets → list_all is_name_octet (encode_lower octets) ≡ true
unfolding encode_with
plain_octets [] bytes = refl
plain_octets (b ∷ rest) bytes =
    let first : b < 256 = bytes 0 in
    let high = plain_hex (b / 16) (omega (arith, first)) in
    let low = plain_hex (b % 16) (omega (arith, first)) in
    let others = plain_octets rest (λ i. bytes (suc i)) in
    λ i. high i && (low i && others i)

pub escape_octets : (octets : List ℕ) → IsBytes octets → escape (encode_lower octets) ≡ encode_lower octets
escape_octets octets bytes = escape_plain (encode_lower octets) (plain_octets octets bytes)

pub IsWide-from_fits : (z : ℤ) → SFits w128 z → IsWide z
IsWide-from_fits (pos n) fits = omega (arith, fits.sfits)
IsWide-from_fits (negsuc n) fits = omega (arith, fits.sfits)
