-- A time's text is spelled by its digits, and each spelling is read.
use Rattle.std.proofs.Common.{◌≡◌, ℕ, zero, suc, ◌+◌, ◌-◌, ◌*◌, ◌^◌, ◌<◌, ◌≤◌, nat_lt, nat_le, slice_index, true}
use Rattle.std.proofs.Common.{false, ◌&&◌, ◌==◌, List, [], ◌∷◌, ◌++◌, length, take, drop, get_or, Option, Some, None}
use Rattle.std.proofs.Common.{option_map, option_and_then, Bool, if◌then◌else◌, refl, ap, sym, arith, append-nil}
use Rattle.std.proofs.Common.{length-append, ◌∙◌}
use Rattle.std.specs.Fmt.{decimal}
use Rattle.std.specs.List.{list_all, position, position_or_len}
use Rattle.std.specs.Char.{is_ascii_digit}
use Rattle.std.specs.Str.Parse.{digits_value}
use Rattle.std.proofs.lemmas.Str.Parse.{digits_value_short}
use Rattle.std.proofs.lemmas.Fmt.{decimal-digits_value, digits_decimal, digits_value-decimal, decimal_digit}
use Rattle.std.proofs.lemmas.Fmt.{decimal_nonempty, first_decimal, length-decimal-le}
use Rattle.std.proofs.lemmas.Bool.{and_parts}
use Rattle.std.proofs.lemmas.Bool.Decides.{nat_tests}
use Rattle.std.proofs.lemmas.Nat.{pow-add}
use Rattle.std.proofs.Math.Nat.{eq_of_mul-eq-mul_right, one-le-pow}
use Rattle.std.proofs.Math.Seq.{take-append_seam, drop-append-add}
use Rattle.ptp_units.specs.Moment.{stamp, moment}
use Rattle.ptp_units.specs.Nanoseconds.{pointed}
use Rattle.recording_lines.specs.Timed.{are_digits, number_in, seconds_in, nanoseconds_in, moment_at, time_of, time_in}
use Rattle.recording_lines.specs.Timed.{TellsExactly}
use Rattle.recording_lines.proofs.Times.{own, digits_of, parted_at, unless, some_of_map, some_of_then}

-- ---- what a test that passed says
kept : {X : Type 0} (test : Bool) (x y : X) → (if test then Some x else None) ≡ Some y → (test ≡ true) × (x ≡ y)
kept true x y h = (refl, cc)
kept false x y h = absurd cc

not_dropped : {X : Type 0} (test : Bool) (o : Option X) (y : X) → (if test then None else o) ≡ Some y → test ≡ false
not_dropped true o y h = absurd cc
not_dropped false o y h = refl

-- ---- from a time to its spelling
value_of : (most : ℕ) (text : List ℕ) (n : ℕ) → number_in most text ≡ Some n → digits_value 10 text ≡ n
value_of most text n h = (kept (are_digits most text) (digits_value 10 text) n h).1

seconds_spelled : (text : List ℕ) (s : ℕ) → seconds_in text ≡ Some s → text ≡ decimal s
seconds_spelled text s h =
    let zeros = slice_index text 0 == 48 && nat_lt 1 (length text) in
    let number = unless zeros (number_in 15 text) s h in
    let some_zeros : (slice_index text 0 == 48 && nat_lt 1 (length text)) ≡ false =
    not_dropped zeros (number_in 15 text) s h in
    let are = digits_of 15 text s number in
    let alone : get_or text 0 0 ≡ 48 → length text ≡ 1 =
    λ zero_first. grind (arith, nat_tests, are.some, some_zeros, zero_first) in
    let small = digits_value_short own text 15 are.digits are.fit in
    sym (decimal-digits_value own text are.digits are.some alone (omega arith)) ∙ ap decimal (value_of 15 text s number)

-- the powers of ten of whole and of decimals
powers : (k : ℕ) → k ≤ 9 → 10 ^ (9 - k) * 10 ^ k ≡ 10 ^ 9
powers k fits = let all : (9 - k) + k ≡ 9 = omega arith in sym (pow-add 10 (9 - k) k) ∙ ap (λ e. 10 ^ e) all

scale : (s v p q : ℕ) → p * q ≡ 1000000000
    → ((s * 1000000000 + v * p) * 65536 + 0) * q ≡ (s * q + v) * (1000000000 * 65536)
scale s v p q ten =
    let times = ap (λ x. v * x) ten in
    omega arith

pointed_some : (ds : List ℕ) → 0 < length ds → pointed ds ≡ 46 ∷ ds
pointed_some [] some = absurd (omega arith)
pointed_some (d ∷ ds) some = refl

exact_whole : (time s : ℕ) → moment (stamp s 0) 0 ≡ time → time * 1 ≡ (s * 1 + 0) * (1000000000 * 65536)
exact_whole time s is = omega arith

exact_parts : (time s n v k : ℕ) → k ≤ 9 → moment (stamp s n) 0 ≡ time → v * 10 ^ (9 - k) ≡ n
    → time * 10 ^ k ≡ (s * 10 ^ k + v) * (1000000000 * 65536)
exact_parts time s n v k fits is scaled = rw (← is, ← scaled) (scale s v (10 ^ (9 - k)) (10 ^ k) (powers k fits))

told_at : (text : List ℕ) (at : Option ℕ) (time : ℕ) → position (λ other. other == 46) text ≡ at
    → time_of text (option_map (λ i. (take i text, drop (i + 1) text)) at) ≡ Some time → TellsExactly text time
told_at text None time is h =
    let seconds = some_of_then (λ seconds. moment_at seconds 0) (seconds_in text) time h in
    let s = seconds.0 in
    let moment_is = kept (nat_lt s (2 ^ 48)) (moment (stamp s 0) 0) time seconds.2 in
    record {
      seconds = s;
      fraction = [];
      spelled = seconds_spelled text s seconds.1 ∙ sym (append-nil (decimal s));
      below = grind (arith, nat_tests, moment_is.0);
      digits = refl;
      at_most = omega arith;
      exact = exact_whole time s moment_is.1;
    }
told_at text (Some i) time is h =
    let after = drop (i + 1) text in
    let seconds = some_of_then (λ seconds. option_and_then (moment_at seconds) (nanoseconds_in after))
    (seconds_in (take i text)) time h in
    let s = seconds.0 in
    let nanoseconds = some_of_then (moment_at s) (nanoseconds_in after) time seconds.2 in
    let number = some_of_map (λ number. number * 10 ^ (9 - length after))
    (number_in 9 after) nanoseconds.0 nanoseconds.1 in
    let are = digits_of 9 after number.0 number.1 in
    let moment_is = kept (nat_lt s (2 ^ 48)) (moment (stamp s nanoseconds.0) 0) time nanoseconds.2 in
    record {
      seconds = s;
      fraction = after;
      spelled = parted_at 46 i text is ∙ ap (λ front. front ++ 46 ∷ after) (seconds_spelled (take i text) s seconds.1)
          ∙ ap (λ rest. decimal s ++ rest) (sym (pointed_some after are.some));
      below = grind (arith, nat_tests, moment_is.0);
      digits = are.digits;
      at_most = are.fit;
      exact = exact_parts time s nanoseconds.0 (digits_value 10 after) (length after) are.fit moment_is.1
          (ap (λ v. v * 10 ^ (9 - length after)) (value_of 9 after number.0 number.1) ∙ number.2);
    }

pub told : (text : List ℕ) (time : ℕ) → time_in text ≡ Some time → TellsExactly text time
told text time h = told_at text (position (λ other. other == 46) text) time refl h

-- ---- from a spelling to its time
test_of : (most : ℕ) (text : List ℕ) → 0 < length text → length text ≤ most → list_all is_ascii_digit text ≡ true
    → are_digits most text ≡ true
test_of most text some fit digits =
    let low : nat_le 1 (length text) ≡ true = grind (arith, nat_tests) in
    let high : nat_le (length text) most ≡ true = grind (arith, nat_tests) in
    rw (low, high, digits)

seconds_read : (s : ℕ) → s < 2 ^ 48 → seconds_in (decimal s) ≡ Some s
seconds_read zero below = rw (decimal_digit 0 (omega arith))
seconds_read (suc s) below =
    let digits : list_all is_ascii_digit (decimal (suc s)) ≡ true = digits_decimal own (suc s) (omega arith) in
    let some = decimal_nonempty (suc s) (omega arith) in
    let fit = length-decimal-le 15 (suc s) (omega arith) (omega arith) (omega arith) in
    let above = first_decimal (suc s) (omega arith) (omega arith) in
    let first : (slice_index (decimal (suc s)) 0 == 48) ≡ false = grind (arith, nat_tests) in
    rw (first, test_of 15 (decimal (suc s)) some fit digits) (ap Some (digits_value-decimal own (suc s) (omega arith)))

nanoseconds_read : (ds : List ℕ) → 0 < length ds → length ds ≤ 9 → list_all is_ascii_digit ds ≡ true
    → nanoseconds_in ds ≡ Some (digits_value 10 ds * 10 ^ (9 - length ds))
nanoseconds_read ds some fit digits = rw (test_of 9 ds some fit digits)

same_time : (time s v k : ℕ) → k ≤ 9 → time * 10 ^ k ≡ (s * 10 ^ k + v) * (1000000000 * 65536)
    → moment (stamp s (v * 10 ^ (9 - k))) 0 ≡ time
same_time time s v k fits exact =
    eq_of_mul-eq-mul_right (10 ^ k) (one-le-pow k 10 (omega arith)) _ _
    (scale s v (10 ^ (9 - k)) (10 ^ k) (powers k fits) ∙ sym exact)

past_digits : (ds rest : List ℕ) → list_all is_ascii_digit ds ≡ true
    → position_or_len (λ other. other == 46) (ds ++ rest) ≡ length ds + position_or_len (λ other. other == 46) rest
past_digits [] rest h = omega arith
past_digits (x ∷ xs) rest h =
    let parts = and_parts (is_ascii_digit x) (list_all is_ascii_digit xs) h in
    let other : (x == 46) ≡ false = grind (arith, nat_tests, parts.0) in
    rw other (omega (arith, past_digits xs rest parts.1))

no_point : (ds : List ℕ) → list_all is_ascii_digit ds ≡ true → position (λ other. other == 46) ds ≡ None
no_point ds h =
    let at : position_or_len (λ other. other == 46) ds ≡ length ds =
    sym (ap (position_or_len (λ other. other == 46)) (append-nil ds)) ∙ past_digits ds [] h ∙ omega arith in
    let test : nat_lt (length ds) (length ds) ≡ false = grind (arith, nat_tests) in
    rw (at, test)

point_at : (ds rest : List ℕ) → list_all is_ascii_digit ds ≡ true
    → position (λ other. other == 46) (ds ++ 46 ∷ rest) ≡ Some (length ds)
point_at ds rest h =
    let at : position_or_len (λ other. other == 46) (ds ++ 46 ∷ rest) ≡ length ds =
    past_digits ds (46 ∷ rest) h ∙ omega arith in
    let test : nat_lt (length ds) (length (ds ++ 46 ∷ rest)) ≡ true =
    grind (arith, nat_tests, length-append ds (46 ∷ rest)) in
    rw (at, test)

read_spelled : (s : ℕ) (fraction : List ℕ) (time : ℕ) → s < 2 ^ 48 → list_all is_ascii_digit fraction ≡ true
    → length fraction ≤ 9
    → time * 10 ^ length fraction ≡ (s * 10 ^ length fraction + digits_value 10 fraction) * (10 ^ 9 * 2 ^ 16)
    → time_in (decimal s ++ pointed fraction) ≡ Some time
read_spelled s [] time below digits at_most exact =
    let whole : list_all is_ascii_digit (decimal s) ≡ true = digits_decimal own s (omega arith) in
    let within : nat_lt s (2 ^ 48) ≡ true = grind (arith, nat_tests) in
    rw (append-nil (decimal s), no_point (decimal s) whole, seconds_read s below, within) (ap Some (omega arith))
read_spelled s (d ∷ ds) time below digits at_most exact =
    let whole : list_all is_ascii_digit (decimal s) ≡ true = digits_decimal own s (omega arith) in
    let within : nat_lt s (2 ^ 48) ≡ true = grind (arith, nat_tests) in
    rw (
      point_at (decimal s) (d ∷ ds) whole,
      take-append_seam (decimal s) (46 ∷ d ∷ ds),
      drop-append-add (decimal s) (46 ∷ d ∷ ds) 1,
      seconds_read s below,
      nanoseconds_read (d ∷ ds) (omega arith) at_most digits,
      within,
    )
    (ap Some (same_time time s (digits_value 10 (d ∷ ds)) (length (d ∷ ds)) at_most exact))

pub read : (text : List ℕ) (time : ℕ) → TellsExactly text time → time_in text ≡ Some time
read text time tells = rw tells.spelled
    (read_spelled tells.seconds tells.fraction time tells.below tells.digits tells.at_most tells.exact)
