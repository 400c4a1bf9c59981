-- Digits, points and signs, which stand for themselves in JSON.
use Rattle.std.proofs.Common.{◌≡◌, ◌∙◌, ℕ, zero, suc, ℤ, pos, negsuc, ◌+◌, ◌*◌, ◌/◌, ◌%◌, ◌^◌, ◌<◌, ◌==◌, Bool, true, false}
use Rattle.std.proofs.Common.{◌&&◌, ◌||◌, nat_lt, List, [], ◌∷◌, ◌++◌, ◌-◌, length, replicate, codes, refl, arith}
use Rattle.std.specs.Char.{is_ascii_digit}
use Rattle.std.specs.Fmt.{decimal, signed_decimal}
use Rattle.std.specs.List.{list_all}
use Rattle.std.proofs.lemmas.Bool.{and_parts}
use Rattle.std.proofs.lemmas.Bool.Decides.{nat_tests}
use Rattle.std.proofs.lemmas.Fmt.{decimal_by_steps_wide}
use Rattle.std.proofs.lemmas.List.Concat.{flat_map-cons}
use Rattle.std.proofs.lemmas.List.Folds.{list_all-append}
use Rattle.json.specs.Print.{escape_byte, escape}
use Rattle.ptp_units.specs.Nanoseconds.{decimals, pointed, size_text, nanoseconds_text}
use Rattle.ptp_units.proofs.LongDivision.{decimals-nothing, decimals-no_places, decimals-step}
use Rattle.ptp_units.specs.Moment.{bound, stamp_of, fraction_of}
use Rattle.datagram_text.specs.Shown.{nine_digits, stamp_text}
use Rattle.recording_lines.specs.Timed.{is_time_octet}
use Rattle.recording_measure.specs.Moment.{moment_text}
use Rattle.explain_laws.specs.Measurements.{IsOf128Bits, is_printed}

-- a digit, a sign or a point
abbrev pub is_figure : ℕ → Bool
is_figure x = is_ascii_digit x || x == 45 || x == 46

-- what holds of each octet of one kind holds of each of another
pub all_of : (p q : ℕ → Bool) → ((x : ℕ) → p x ≡ true → q x ≡ true) → (xs : List ℕ) → list_all p xs ≡ true
    → list_all q xs ≡ true
all_of p q each [] h = refl
all_of p q each (x ∷ xs) h =
    let parts : (p x ≡ true) × (list_all p xs ≡ true) = and_parts (p x) (list_all p xs) h in
    let first : q x ≡ true = each x parts.0 in
    let others : list_all q xs ≡ true = all_of p q each xs parts.1 in
    λ i. first i && others i

-- ---- they need no escape
figure_alone : (x : ℕ) → is_figure x ≡ true → escape_byte x ≡ x ∷ []
unfolding escape_byte
figure_alone x figure =
    let a : (x == 34) ≡ false = grind (arith, nat_tests, figure) in
    let b : (x == 92) ≡ false = grind (arith, nat_tests, figure) in
    let c : (x == 8) ≡ false = grind (arith, nat_tests, figure) in
    let d : (x == 12) ≡ false = grind (arith, nat_tests, figure) in
    let e : (x == 10) ≡ false = grind (arith, nat_tests, figure) in
    let f : (x == 13) ≡ false = grind (arith, nat_tests, figure) in
    let g : (x == 9) ≡ false = grind (arith, nat_tests, figure) in
    let high : nat_lt x 32 ≡ false = grind (arith, nat_tests, figure) in
    rw (a, b, c, d, e, f, g, high)

pub escape_figures : (s : List ℕ) → list_all is_figure s ≡ true → escape s ≡ s
escape_figures [] h = refl
escape_figures (x ∷ s) h =
    let parts : (is_figure x ≡ true) × (list_all is_figure s ≡ true) = and_parts (is_figure x) (list_all is_figure s) h in
    flat_map-cons escape_byte x s ∙ (λ i. figure_alone x parts.0 i ++ escape_figures s parts.1 i)

figure_printed : (x : ℕ) → is_figure x ≡ true → is_printed x ≡ true
figure_printed x figure =
    let low : nat_lt 31 x ≡ true = grind (arith, nat_tests, figure) in
    let high : nat_lt x 127 ≡ true = grind (arith, nat_tests, figure) in
    λ i. low i && high i

pub printed_figures : (s : List ℕ) → list_all is_figure s ≡ true → list_all is_printed s ≡ true
printed_figures s h = all_of is_figure is_printed figure_printed s h

-- ---- numbers
one_digit : (n : ℕ) → n < 10 → list_all is_figure ((48 + n) ∷ []) ≡ true
one_digit n small =
    let test : is_figure (48 + n) ≡ true = grind (arith, nat_tests) in
    rw test

more_digits : (n : ℕ) (ds : List ℕ) → list_all is_figure ds ≡ true → list_all is_figure (ds ++ ((48 + n % 10) ∷ [])) ≡ true
more_digits n ds h =
    let last : list_all is_figure ((48 + n % 10) ∷ []) ≡ true = one_digit (n % 10) (omega arith) in
    list_all-append is_figure ds ((48 + n % 10) ∷ []) ∙ (λ i. h i && last i)

pub figures_decimal : (n : ℕ) → n < 10 ^ 64 → list_all is_figure (decimal n) ≡ true
figures_decimal n small =
    decimal_by_steps_wide (λ m ds. list_all is_figure ds ≡ true) one_digit (λ m ds _ h. more_digits m ds h) n small

pub figures_signed : (z : ℤ) → IsOf128Bits z → list_all is_figure (signed_decimal z) ≡ true
figures_signed (pos n) small = figures_decimal n (omega (arith, small))
figures_signed (negsuc n) small = figures_decimal (suc n) (omega (arith, small))

-- ---- nanoseconds
digit_figure : (x : ℕ) → is_ascii_digit x ≡ true → is_figure x ≡ true
digit_figure x digit = grind (arith, nat_tests, digit)

digits_decimals : (places rest : ℕ) → rest < 131072 → list_all is_ascii_digit (decimals places rest) ≡ true
digits_decimals zero rest below = rw (decimals-no_places rest) refl
digits_decimals (suc places) zero below = rw (decimals-nothing (suc places)) refl
digits_decimals (suc places) (suc rest) below =
    let digit : is_ascii_digit (48 + suc rest * 10 / 131072) ≡ true = grind (arith, nat_tests) in
    let more : list_all is_ascii_digit (decimals places (suc rest * 10 % 131072)) ≡ true =
    digits_decimals places (suc rest * 10 % 131072) (omega arith) in
    rw (decimals-step places (suc rest) (omega arith)) (λ i. digit i && more i)

figures_pointed : (ds : List ℕ) → list_all is_ascii_digit ds ≡ true → list_all is_figure (pointed ds) ≡ true
figures_pointed [] h = refl
figures_pointed (d ∷ ds) h = all_of is_ascii_digit is_figure digit_figure (d ∷ ds) h

figures_size : (n : ℕ) → n < 2 ^ 128 → list_all is_figure (size_text n) ≡ true
figures_size n small =
    let whole : list_all is_figure (decimal (n / 131072)) ≡ true = figures_decimal (n / 131072) (omega (arith, small)) in
    let parts : list_all is_figure (pointed (decimals 17 (n % 131072))) ≡ true =
    figures_pointed (decimals 17 (n % 131072)) (digits_decimals 17 (n % 131072) (omega arith)) in
    list_all-append is_figure (decimal (n / 131072)) (pointed (decimals 17 (n % 131072))) ∙ (λ i. whole i && parts i)

pub figures_nanoseconds : (z : ℤ) → IsOf128Bits z → list_all is_figure (nanoseconds_text z) ≡ true
figures_nanoseconds (pos n) small = figures_size n (omega (arith, small))
figures_nanoseconds (negsuc n) small = figures_size (suc n) (omega (arith, small))

-- ---- times
time_figure : (x : ℕ) → is_time_octet x ≡ true → is_figure x ≡ true
time_figure x time = grind (arith, nat_tests, time)

pub figures_time : (s : List ℕ) → list_all is_time_octet s ≡ true → list_all is_figure s ≡ true
figures_time s h = all_of is_time_octet is_figure time_figure s h

-- ---- moments
zeros : (count : ℕ) → list_all is_figure (replicate count 48) ≡ true
zeros zero = refl
zeros (suc count) = zeros count

figures_nine : (n : ℕ) → n < 2 ^ 64 → list_all is_figure (nine_digits n) ≡ true
figures_nine n small =
    let front : list_all is_figure (replicate (9 - length (decimal n)) 48) ≡ true = zeros (9 - length (decimal n)) in
    let digits : list_all is_figure (decimal n) ≡ true = figures_decimal n (omega (arith, small)) in
    list_all-append is_figure (replicate (9 - length (decimal n)) 48) (decimal n) ∙ (λ i. front i && digits i)

figures_decimals : (rest : ℕ) → rest < 131072 → list_all is_figure (decimals 17 rest) ≡ true
figures_decimals rest below = all_of is_ascii_digit is_figure digit_figure (decimals 17 rest) (digits_decimals 17 rest below)

figures_stamp : (seconds nanos : ℕ) → seconds < 2 ^ 64 → nanos < 2 ^ 64
    → list_all is_figure (decimal seconds ++ codes "." ++ nine_digits nanos) ≡ true
figures_stamp seconds nanos few small =
    let whole : list_all is_figure (decimal seconds) ≡ true = figures_decimal seconds (omega (arith, few)) in
    let nine : list_all is_figure (nine_digits nanos) ≡ true = figures_nine nanos small in
    let front : list_all is_figure (decimal seconds ++ codes ".") ≡ true =
    list_all-append is_figure (decimal seconds) (codes ".") ∙ (λ i. whole i && true) in
    list_all-append is_figure (decimal seconds ++ codes ".") (nine_digits nanos) ∙ (λ i. front i && nine i)

pub figures_moment : (time : ℕ) → time < bound → list_all is_figure (moment_text time) ≡ true
unfolding moment_text
figures_moment time within =
    let stamp : list_all is_figure (stamp_text (stamp_of time)) ≡ true =
    figures_stamp (time / 65536 / 1000000000) (time / 65536 % 1000000000) (omega (arith, within)) (omega arith) in
    let rest : list_all is_figure (decimals 17 (2 * fraction_of time)) ≡ true =
    figures_decimals (2 * fraction_of time) (omega arith) in
    list_all-append is_figure (stamp_text (stamp_of time)) (decimals 17 (2 * fraction_of time)) ∙ (λ i. stamp i && rest i)
