-- What the digits and the parts of a time are.
use Rattle.std.proofs.Common.{◌≡◌, ℕ, ◌+◌, ◌-◌, ◌*◌, ◌^◌, ◌<◌, ◌≤◌, nat_le, nat_lt, slice_index, true, false, ◌&&◌}
use Rattle.std.proofs.Common.{◌==◌, add-one, List, [], ◌∷◌, ◌++◌, length, take, drop, get_or, Result, Option, Some}
use Rattle.std.proofs.Common.{None, IfSome, option_map, option_and_then, Bool, if◌then◌else◌, refl, ap, sym, arith}
use Rattle.std.proofs.Common.{rules, ◌∙◌}
use Rattle.std.specs.Result.{result_ok}
use Rattle.std.specs.List.{list_all, position}
use Rattle.std.specs.Char.{is_ascii_digit}
use Rattle.std.specs.Str.{IsAscii, IsUtf8}
use Rattle.std.specs.Str.Parse.{digits_value, ParsesUnsigned}
use Rattle.std.proofs.lemmas.Str.Parse.{IsNumeralModel, numerals_by_value, digits_value_short, parse_gives}
use Rattle.std.proofs.lemmas.Bool.{and_parts}
use Rattle.std.proofs.lemmas.Bool.Decides.{nat_tests}
use Rattle.std.proofs.lemmas.Nat.{pow-add}
use Rattle.std.proofs.Math.Nat.{mul-lt-mul_of_pos_right, one-le-pow}
use Rattle.std.proofs.Math.Seq.{drop-cons}
use Rattle.std.proofs.lemmas.List.{take-append-drop}
use Rattle.std.proofs.lemmas.List.Folds.{list_all-append}
use Rattle.std.proofs.lemmas.List.Quantifiers.{position-Some}
use Rattle.std.proofs.lemmas.Str.{IsUtf8-from_ascii}
use Rattle.std.proofs.lemmas.Str.Ascii.{IsAscii-nil, IsAscii-cons}
use Rattle.recording_lines.specs.Timed.{are_digits, number_in, seconds_in, nanoseconds_in, time_of, time_in, moment_at}
use Rattle.recording_lines.specs.Timed.{is_time_octet}

pub own : IsNumeralModel (λ ds. list_all is_ascii_digit ds ≡ true) (digits_value 10)
own = numerals_by_value _ (search rules)

-- at least one digit, at most so many, and nothing else
pub record AreDigits (most : ℕ) (text : List ℕ) : Type 0 where
  pub some : 0 < length text
  pub fit : length text ≤ most
  pub digits : list_all is_ascii_digit text ≡ true

AreDigits-from_test : (most : ℕ) (text : List ℕ) → are_digits most text ≡ true → AreDigits most text
AreDigits-from_test most text h =
    let first = and_parts (nat_le 1 (length text) && nat_le (length text) most) (list_all is_ascii_digit text) h in
    let lengths = and_parts (nat_le 1 (length text)) (nat_le (length text) most) first.0 in
    record { some = grind (arith, nat_tests, lengths.0); fit = grind (arith, nat_tests, lengths.1); digits = first.1 }

-- what `parse` gives of digits
pub parsed : {E : Type 0} (most : ℕ) (text : List ℕ) (r : Result ℕ E) → ParsesUnsigned 64 10 text r
    → are_digits most text ≡ true → most ≤ 15
    → (result_ok r ≡ number_in most text) × IfSome (result_ok r) (λ n. n < 10 ^ length text)
parsed most text r given digits short =
    let are = AreDigits-from_test most text digits in
    let below = digits_value_short own text (length text) are.digits (omega arith) in
    let wide = digits_value_short own text 15 are.digits (omega (arith, are.fit)) in
    let is = parse_gives own 64 text r given are.digits are.some (omega arith) in
    (rw (digits, is), rw is below)

-- the nanoseconds of at most nine digits are less than a second
scaled : (n k : ℕ) → k ≤ 9 → n < 10 ^ k → n * 10 ^ (9 - k) < 10 ^ 9
scaled n k short below =
    let all : k + (9 - k) ≡ 9 = omega arith in
    let power : 10 ^ k * 10 ^ (9 - k) ≡ 10 ^ 9 = sym (pow-add 10 k (9 - k)) ∙ ap (λ e. 10 ^ e) all in
    rw power at (mul-lt-mul_of_pos_right {k = 10 ^ (9 - k)} below (one-le-pow (9 - k) 10 (omega arith)))

-- the digits that a number is of
some_if : {X : Type 0} (test : Bool) (x y : X) → (if test then Some x else None) ≡ Some y → test ≡ true
some_if true x y h = refl
some_if false x y h = absurd cc

pub digits_of : (most : ℕ) (text : List ℕ) (n : ℕ) → number_in most text ≡ Some n → AreDigits most text
digits_of most text n h = AreDigits-from_test most text (some_if (are_digits most text) (digits_value 10 text) n h)

pub below_second : (text : List ℕ) (n : ℕ) → Some n ≡ number_in 9 text → n < 10 ^ length text
    → n * 10 ^ (9 - length text) < 10 ^ 9
below_second text n is below = scaled n (length text) (digits_of 9 text n (sym is)).fit below

pub digits_are : (text : List ℕ) → list_all is_ascii_digit text ≡ true → list_all is_time_octet text ≡ true
digits_are [] h = refl
digits_are (x ∷ xs) h =
    let parts = and_parts (is_ascii_digit x) (list_all is_ascii_digit xs) h in
    rw (parts.0, digits_are xs parts.1)

-- the octet at which a text is parted, and what stands round it
pub parted_at : (octet i : ℕ) (text : List ℕ) → position (λ other. other == octet) text ≡ Some i
    → text ≡ take i text ++ octet ∷ drop (i + 1) text
parted_at octet i text h =
    let at = position-Some (λ other. other == octet) text i 0 h in
    let here : get_or text i 0 ≡ octet = grind (arith, nat_tests, at.1) in
    sym (take-append-drop i text) ∙ ap (λ rest. take i text ++ rest) (drop-cons text i 0 at.0 ∙ rw (here, add-one) refl)

pub some_of_map : {X Y : Type 0} (f : X → Y) (o : Option X) (y : Y) → option_map f o ≡ Some y
    → (x : X) × (o ≡ Some x) × (f x ≡ y)
some_of_map f (Some x) y h = (x, refl, cc)
some_of_map f None y h = absurd cc

pub some_of_then : {X Y : Type 0} (f : X → Option Y) (o : Option X) (y : Y) → option_and_then f o ≡ Some y
    → (x : X) × (o ≡ Some x) × (f x ≡ Some y)
some_of_then f (Some x) y h = (x, refl, h)
some_of_then f None y h = absurd cc

pub unless : {X : Type 0} (test : Bool) (o : Option X) (y : X) → (if test then None else o) ≡ Some y → o ≡ Some y
unless true o y h = absurd cc
unless false o y h = h

-- seconds are digits, and so are nanoseconds
seconds_are : (text : List ℕ) (s : ℕ) → seconds_in text ≡ Some s → list_all is_time_octet text ≡ true
seconds_are text s h =
    let zeros = slice_index text 0 == 48 && nat_lt 1 (length text) in
    digits_are text (digits_of 15 text s (unless zeros (number_in 15 text) s h)).digits

nanoseconds_are : (text : List ℕ) (n : ℕ) → nanoseconds_in text ≡ Some n → list_all is_time_octet text ≡ true
nanoseconds_are text n h =
    let number = some_of_map (λ number. number * 10 ^ (9 - length text)) (number_in 9 text) n h in
    digits_are text (digits_of 9 text number.0 number.1).digits

octets_of : (text : List ℕ) (at : Option ℕ) (time : ℕ) → position (λ other. other == 46) text ≡ at
    → time_of text (option_map (λ i. (take i text, drop (i + 1) text)) at) ≡ Some time
    → list_all is_time_octet text ≡ true
octets_of text None time is h =
    seconds_are text _ (some_of_then (λ seconds. moment_at seconds 0) (seconds_in text) time h).1
octets_of text (Some i) time is h =
    let seconds = some_of_then (λ seconds. option_and_then (moment_at seconds) (nanoseconds_in (drop (i + 1) text)))
    (seconds_in (take i text)) time h in
    let nanoseconds = some_of_then (moment_at seconds.0) (nanoseconds_in (drop (i + 1) text)) time seconds.2 in
    let front = seconds_are (take i text) seconds.0 seconds.1 in
    let rest = nanoseconds_are (drop (i + 1) text) nanoseconds.0 nanoseconds.1 in
    rw (parted_at 46 i text is, list_all-append is_time_octet (take i text) (46 ∷ drop (i + 1) text), front) rest

-- a time's text is digits and points
pub time_octets : (text : List ℕ) (time : ℕ) → time_in text ≡ Some time → list_all is_time_octet text ≡ true
time_octets text time h = octets_of text (position (λ other. other == 46) text) time refl h

ascii : (text : List ℕ) → list_all is_time_octet text ≡ true → IsAscii text
ascii [] h = IsAscii-nil
ascii (x ∷ xs) h =
    let parts = and_parts (is_time_octet x) (list_all is_time_octet xs) h in
    IsAscii-cons x xs (grind (arith, nat_tests, parts.0)) (ascii xs parts.1)

no_time : (text : List ℕ) (read : Option ℕ) → time_in text ≡ read → ¬ (IsUtf8 text) → read ≡ None
no_time text None is bad = refl
no_time text (Some time) is bad = absurd (bad (IsUtf8-from_ascii text (ascii text (time_octets text time is))))

-- what isn't text is no time
pub not_text : (text : List ℕ) → ¬ (IsUtf8 text) → time_in text ≡ None
not_text text bad = no_time text (time_in text) refl bad
