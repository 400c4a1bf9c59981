-- A line is one line, short enough, and one with a time is read back.
use Rattle.std.proofs.Common.{◌≡◌, ◌∙◌, ℕ, zero, suc, ◌+◌, ◌-◌, ◌*◌, ◌^◌, ◌/◌, ◌%◌, ◌<◌, ◌≤◌, nat_lt, Bool, true, false}
use Rattle.std.proofs.Common.{◌==◌, ◌&&◌, not, slice_index}
use Rattle.std.proofs.Common.{List, [], ◌∷◌, ◌++◌, length, replicate, Some, refl, sym, ap, arith, append_assoc, length-append}
use Rattle.std.specs.Fmt.{decimal}
use Rattle.std.specs.List.{list_all, position, position_or_len}
use Rattle.std.specs.Char.{is_ascii_digit}
use Rattle.std.specs.Io.BufRead.{ends_with_byte}
use Rattle.std.specs.Str.Parse.{digits_value}
use Rattle.hex.specs.Hex.{encode_lower, encode_with, lower_digits}
use Rattle.hex.proofs.HexLemmas.{length-encode_with}
use Rattle.std.proofs.lemmas.Fmt.{digits_decimal, digits_value-decimal, length-decimal-le, length-decimal-le_succ}
use Rattle.std.proofs.lemmas.Bool.{and_parts}
use Rattle.std.proofs.lemmas.Bool.Decides.{nat_tests}
use Rattle.std.proofs.lemmas.List.{length-replicate}
use Rattle.std.proofs.lemmas.List.Folds.{list_all-append}
use Rattle.std.proofs.Math.Seq.{take-append_seam, drop-append-add}
use Rattle.ptp_units.specs.Moment.{Stamp, IsStamp, moment}
use Rattle.ptp_units.specs.Nanoseconds.{pointed}
use Rattle.datagram_text.specs.Shown.{nine_digits, stamp_text}
use Rattle.text_lines.specs.Lines.{line_limit, lines_of, without_cr}
use Rattle.capture_frame.specs.Found.{datagram_limit}
use Rattle.capture_extract.specs.declared.line.ExtractForm.{ExtractForm}
use Rattle.capture_extract.specs.declared.line.ExtractForm.TheVariants.{Octets, Timed}
use Rattle.capture_extract.specs.Line.{line_of, line_text}
use Rattle.recording_lines.specs.Timed.{TellsExactly, is_time_octet, line_parts, time_in, timed_in}
use Rattle.recording_lines.proofs.Times.{own, time_octets}
use Rattle.recording_lines.proofs.SpelledTimes.{read}

-- ---- nine digits of nanoseconds
zeros_write : (k : ℕ) (ds : List ℕ) → digits_value 10 (replicate k 48 ++ ds) ≡ digits_value 10 ds
zeros_write zero ds = refl
zeros_write (suc k) ds = zeros_write k ds

zeros_are : (k : ℕ) → list_all is_ascii_digit (replicate k 48) ≡ true
zeros_are zero = refl
zeros_are (suc k) = zeros_are k

-- they are nine, and write the number
record AreNine (n : ℕ) : Type 0 where
  pub count : length (nine_digits n) ≡ 9
  pub digits : list_all is_ascii_digit (nine_digits n) ≡ true
  pub value : digits_value 10 (nine_digits n) ≡ n

fit : (n : ℕ) → n < 10 ^ 9 → length (decimal n) ≤ 9
fit zero below = omega (arith, length-decimal-le_succ 0 (omega arith))
fit (suc n) below = length-decimal-le 9 (suc n) (omega arith) (omega arith) (omega arith)

are_nine : (n : ℕ) → n < 10 ^ 9 → AreNine n
are_nine n below =
    let short = fit n below in
    let zeros = 9 - length (decimal n) in
    let digits : list_all is_ascii_digit (decimal n) ≡ true = digits_decimal own n (omega arith) in record {
      count = length-append (replicate zeros 48) (decimal n) ∙ omega (arith, length-replicate {A = ℕ} zeros 48);
      digits = list_all-append is_ascii_digit (replicate zeros 48) (decimal n) ∙ rw (zeros_are zeros, digits) refl;
      value = zeros_write zeros (decimal n) ∙ digits_value-decimal own n (omega arith);
    }

-- ---- the text of a time
pointed_some : (ds : List ℕ) → 0 < length ds → pointed ds ≡ 46 ∷ ds
pointed_some [] some = absurd (omega arith)
pointed_some (d ∷ ds) some = refl

exact : (s n : ℕ) → ((s * 1000000000 + n) * 65536 + 0) * 1000000000 ≡ (s * 1000000000 + n) * (1000000000 * 65536)
exact s n = omega arith

tells : (time : Stamp) → IsStamp time → TellsExactly (stamp_text time) (moment time 0)
tells time is =
    let nine = are_nine time.nanos is.nanos in record {
      seconds = time.seconds;
      fraction = nine_digits time.nanos;
      spelled = append_assoc (decimal time.seconds) (46 ∷ []) (nine_digits time.nanos)
          ∙ ap (λ (rest : List ℕ). decimal time.seconds ++ rest)
          (sym (pointed_some (nine_digits time.nanos) (omega (arith, nine.count))));
      below = is.seconds;
      digits = nine.digits;
      at_most = omega (arith, nine.count);
      exact = rw (nine.count, nine.value) (exact time.seconds time.nanos);
    }

-- ---- the line of a time
past_octets : (ds rest : List ℕ) → list_all is_time_octet ds ≡ true
    → position_or_len (λ other. other == 32) (ds ++ rest) ≡ length ds + position_or_len (λ other. other == 32) rest
past_octets [] rest h = omega arith
past_octets (x ∷ xs) rest h =
    let parts = and_parts (is_time_octet x) (list_all is_time_octet xs) h in
    let other : (x == 32) ≡ false = grind (arith, nat_tests, parts.0) in
    rw other (omega (arith, past_octets xs rest parts.1))

blank_at : (ds rest : List ℕ) → list_all is_time_octet ds ≡ true
    → position (λ other. other == 32) (ds ++ 32 ∷ rest) ≡ Some (length ds)
blank_at ds rest h =
    let at : position_or_len (λ other. other == 32) (ds ++ 32 ∷ rest) ≡ length ds =
    past_octets ds (32 ∷ rest) h ∙ omega arith in
    let test : nat_lt (length ds) (length (ds ++ 32 ∷ rest)) ≡ true =
    grind (arith, nat_tests, length-append ds (32 ∷ rest)) in
    rw (at, test)

read_parts : (text digits : List ℕ) (time : ℕ) → time_in text ≡ Some time
    → timed_in (text ++ 32 ∷ digits) ≡ Some (line_parts text time digits)
read_parts text digits time is = rw (
  blank_at text digits (time_octets text time is),
  take-append_seam text (32 ∷ digits),
  drop-append-add text (32 ∷ digits) 1,
  is,
)

time_read : (time : Stamp) → IsStamp time → time_in (stamp_text time) ≡ Some (moment time 0)
time_read time is = read (stamp_text time) (moment time 0) (tells time is)

pub read_back : (time : Stamp) (digits : List ℕ) → IsStamp time
    → timed_in (stamp_text time ++ 32 ∷ [] ++ digits) ≡ Some (line_parts (stamp_text time) (moment time 0) digits)
read_back time digits is = rw (append_assoc (stamp_text time) (32 ∷ []) digits)
    (read_parts (stamp_text time) digits (moment time 0) (time_read time is))

-- ---- a line has neither LF nor CR
abbrev is_plain : ℕ → Bool
is_plain octet = not (octet == 10) && not (octet == 13)

plain_at : (xs : List ℕ) (k : ℕ) → list_all is_plain xs ≡ true → is_plain (slice_index xs k) ≡ true
plain_at [] k h = refl
plain_at (x ∷ xs) zero h = (and_parts (is_plain x) (list_all is_plain xs) h).0
plain_at (x ∷ xs) (suc k) h = plain_at xs k (and_parts (is_plain x) (list_all is_plain xs) h).1

plain_digits : (t xs : List ℕ) → list_all is_plain t ≡ true → list_all is_plain (encode_with t xs) ≡ true
unfolding encode_with
plain_digits t [] h = refl
plain_digits t (x ∷ xs) h = rw (plain_at t (x / 16) h, plain_at t (x % 16) h, plain_digits t xs h)

plain_time : (xs : List ℕ) → list_all is_time_octet xs ≡ true → list_all is_plain xs ≡ true
plain_time [] h = refl
plain_time (x ∷ xs) h =
    let parts = and_parts (is_time_octet x) (list_all is_time_octet xs) h in
    let no_lf : (x == 10) ≡ false = grind (arith, nat_tests, parts.0) in
    let no_cr : (x == 13) ≡ false = grind (arith, nat_tests, parts.0) in
    rw (no_lf, no_cr, plain_time xs parts.1)

plain_line : (form : ExtractForm) (time : Stamp) (datagram : List ℕ) → IsStamp time
    → list_all is_plain (line_of form (stamp_text time) datagram) ≡ true
plain_line Octets time datagram is = plain_digits lower_digits datagram refl
plain_line Timed time datagram is =
    let front = plain_time (stamp_text time) (time_octets (stamp_text time) (moment time 0) (time_read time is)) in
    list_all-append is_plain (stamp_text time ++ 32 ∷ []) (encode_lower datagram)
    ∙ rw (list_all-append is_plain (stamp_text time) (32 ∷ []), front, plain_digits lower_digits datagram refl) refl

alone : (xs : List ℕ) → list_all is_plain xs ≡ true → lines_of (xs ++ 10 ∷ []) ≡ xs ∷ []
alone [] h = refl
alone (x ∷ xs) h =
    let parts = and_parts (is_plain x) (list_all is_plain xs) h in
    let no_lf : (x == 10) ≡ false = grind (arith, nat_tests, parts.0) in
    rw (no_lf, alone xs parts.1)

pub line_alone : (form : ExtractForm) (time : Stamp) (datagram : List ℕ) → IsStamp time
    → lines_of (line_text form (stamp_text time) datagram) ≡ line_of form (stamp_text time) datagram ∷ []
line_alone form time datagram is = alone (line_of form (stamp_text time) datagram) (plain_line form time datagram is)

no_cr_at_end : (xs : List ℕ) → list_all is_plain xs ≡ true → ends_with_byte 13 xs ≡ false
no_cr_at_end xs h =
    let last = plain_at xs (length xs - 1) h in
    let no_cr : (slice_index xs (length xs - 1) == 13) ≡ false = grind (arith, nat_tests, last) in
    grind (arith, nat_tests, no_cr)

pub line_whole : (form : ExtractForm) (time : Stamp) (datagram : List ℕ) → IsStamp time
    → without_cr (line_of form (stamp_text time) datagram) ≡ line_of form (stamp_text time) datagram
line_whole form time datagram is = rw (no_cr_at_end (line_of form (stamp_text time) datagram) (plain_line form time datagram is))

-- ---- a line is short enough
seconds_fit : (n : ℕ) → n < 2 ^ 48 → length (decimal n) ≤ 15
seconds_fit zero below = omega (arith, length-decimal-le_succ 0 (omega arith))
seconds_fit (suc n) below = length-decimal-le 15 (suc n) (omega arith) (omega arith) (omega arith)

pub line_fits : (form : ExtractForm) (time : Stamp) (datagram : List ℕ) → IsStamp time → length datagram ≤ datagram_limit
    → length (line_of form (stamp_text time) datagram) ≤ line_limit
line_fits Octets time datagram is short = omega (arith, length-encode_with lower_digits datagram)
line_fits Timed time datagram is short =
    let nine = are_nine time.nanos is.nanos in
    omega (
      arith,
      length-append (stamp_text time ++ 32 ∷ []) (encode_lower datagram),
      length-append (stamp_text time) (32 ∷ []),
      length-append (decimal time.seconds ++ 46 ∷ []) (nine_digits time.nanos),
      length-append (decimal time.seconds) (46 ∷ []),
      length-encode_with lower_digits datagram,
      seconds_fit time.seconds is.seconds,
      nine.count,
    )
