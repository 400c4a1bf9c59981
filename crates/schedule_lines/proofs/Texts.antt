-- Fields that were written, read again.
use Rattle.std.proofs.Common.{◌≡◌, ℕ, zero, suc, ◌+◌, ◌^◌, ◌<◌, ◌≤◌, ℤ, pos, negsuc, nat_lt, ◌==◌, List, [], ◌∷◌, length, get_or, slice_index, codes, true, false, Option, Some, None, bytes_eq, refl, ap, arith, ◌/◌, ◌%◌, length-append}
use Rattle.std.proofs.Math.ListN.{get_or-append}
use Rattle.std.specs.Fmt.{decimal}
use Rattle.std.specs.Str.{all_ascii_digits}
use Rattle.std.specs.Str.Parse.{digits_value}
use Rattle.std.proofs.lemmas.Str.Parse.{IsNumeralModel, numerals_by_value, tells_all_ascii_digits}
use Rattle.std.proofs.lemmas.Fmt.{decimal_digit, decimal_is_IsNumeral_wide, decimal_by_steps_wide, length-decimal-le_wide}
use Rattle.std.proofs.lemmas.Bool.Decides.{nat_tests}
use Rattle.hex.specs.Hex.{IsBytes, encode_lower, lower_digits}
use Rattle.hex.proofs.HexLemmas.{length-encode_with, decode_of-encode_lower}
use Rattle.serde_json.specs.Data.{string}
use Rattle.ptp_units.specs.Moment.{bound, stamp_of, fraction_of, moment}
use Rattle.network_model.specs.Name.{IsName}
use Rattle.slave_port.specs.declared.heard.Report.{Report}
use Rattle.schedule_lines.specs.Json.{whole_below, name_in, octets_in, moment_in, positive_of, difference_of, difference_in}
use Rattle.schedule_lines.specs.TranscriptLine.{follow_in, report_of}
use Rattle.schedule_lines.specs.Written.{whole, moment_data, difference_data, octets_data, follow_data, tags_data}
use Rattle.schedule_lines.specs.Ranges.{IsShort}
use Rattle.schedule_lines.proofs.Names.{test-from_IsName}

own : IsNumeralModel (λ ds. all_ascii_digits ds ≡ true) (digits_value 10)
own = numerals_by_value _ tells_all_ascii_digits

first_above : (n : ℕ) → 0 < n → n < 10 ^ 64 → 48 < get_or (decimal n) 0 0
first_above n some small =
    (decimal_by_steps_wide (λ m ds. (0 < length ds) × (0 < m → 48 < get_or ds 0 0)) (λ m l. (omega arith, λ a. omega arith))
    (λ m ds l h. (omega (arith, length-append ds ((48 + m % 10) ∷ [])), λ a. omega (arith, get_or-append ds ((48 + m % 10) ∷ []) 0 0 h.0, h.1 (omega arith)))) n small).1 some

positive_back : (n : ℕ) → 0 < n → n < 10 ^ 64 → positive_of (decimal n) ≡ Some n
positive_back n some small =
    let above = first_above n some small in
    let test : nat_lt 48 (slice_index (decimal n) 0) ≡ true = grind (arith, nat_tests) in
    let numeral = decimal_is_IsNumeral_wide n small in
    rw (test, own.from (decimal n) numeral.0.1) (ap Some numeral.1)

not_nothing : (ds : List ℕ) → 48 < get_or ds 0 0 → bytes_eq ds (codes "0") ≡ false
not_nothing [] h = refl
not_nothing (d ∷ ds) h = let test : (d == 48) ≡ false = grind (arith, nat_tests) in rw test

unsigned_back : (n : ℕ) → n < 10 ^ 32 → difference_of (decimal n) ≡ Some (pos n)
unsigned_back zero h = rw (decimal_digit 0 (omega arith))
unsigned_back (suc n) h =
    let above = first_above (suc n) (omega arith) (omega arith) in
    let fits : nat_lt 32 (length (decimal (suc n))) ≡ false = grind (arith, nat_tests, length-decimal-le_wide 32 (suc n) (omega arith) h (omega arith)) in
    let unsigned : (slice_index (decimal (suc n)) 0 == 45) ≡ false = grind (arith, nat_tests) in
    rw (not_nothing (decimal (suc n)) above, fits, unsigned, positive_back (suc n) (omega arith) (omega arith))

pub difference_back : (z : ℤ) → IsShort z → difference_in (difference_data z) ≡ Some z
difference_back (pos n) h = unsigned_back n h
difference_back (negsuc n) h =
    let fits : nat_lt 32 (suc (length (decimal (suc n)))) ≡ false = grind (arith, nat_tests, length-decimal-le_wide 31 (suc n) (omega arith) (omega arith) (omega arith)) in
    rw (fits, positive_back (suc n) (omega arith) (omega arith))

pub name_back : (text : List ℕ) → IsName text → name_in (string text) ≡ Some text
name_back text h = rw (test-from_IsName text h)

pub below_back : (m n : ℕ) → n < m → whole_below m (whole n) ≡ Some n
below_back m n h = let test : nat_lt n m ≡ true = grind (arith, nat_tests) in rw test

pub octets_back : (octets : List ℕ) → length octets ≤ 54 → IsBytes octets → octets_in (octets_data octets) ≡ Some octets
octets_back octets fits bytes =
    let test : nat_lt 108 (length (encode_lower octets)) ≡ false = grind (arith, nat_tests, length-encode_with lower_digits octets) in
    rw (test, decode_of-encode_lower octets bytes)

pub moment_back : (time : ℕ) → time < bound → moment_in (moment_data time) ≡ Some time
moment_back time h =
    let seconds = below_back 281474976710656 (time / 65536 / 1000000000) (omega arith) in
    let nanos = below_back 1000000000 (time / 65536 % 1000000000) (omega arith) in
    let fraction = below_back 65536 (time % 65536) (omega arith) in
    let same : moment (stamp_of time) (fraction_of time) ≡ time = omega arith in
    rw (seconds, nanos, fraction) (ap Some same)

follow_back : (tag : Option ℕ) → follow_in (follow_data tag) ≡ Some tag
follow_back None = refl
follow_back (Some tag) = refl

pub report_back : (report : Report) → report_of report.offset2 report.path2 (tags_data report) ≡ Some report
report_back report = rw (follow_back report.follow_tag)
