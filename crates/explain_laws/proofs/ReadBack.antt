-- The JSON of a judged report, read again.
use Rattle.std.proofs.Common.{◌≡◌, ◌∙◌, ℕ, ℤ, pos, negsuc, ◌+ℤ◌, ◌-ℤ◌, ◌<◌, ◌^◌, ◌==◌, Bool, true, false, ◌&&◌, nat_lt, List, [], ◌∷◌, ◌++◌, codes, Option, Some, None, IfSome}
use Rattle.std.proofs.Common.{refl, ap, sym, arith, append_assoc}
use Rattle.std.specs.Prelude.{if◌then◌else◌, option_map}
use Rattle.std.specs.Fmt.{decimal, signed_decimal}
use Rattle.std.specs.List.{list_all, flat_map}
use Rattle.std.proofs.lemmas.Bool.{and_parts}
use Rattle.std.proofs.lemmas.Bool.Decides.{nat_tests}
use Rattle.std.proofs.lemmas.List.Concat.{flat_map-cons}
use Rattle.std.proofs.lemmas.List.Sums.{list_all-from_AllPass}
use Rattle.std.proofs.lemmas.Str.{IsUtf8-from_ascii}
use Rattle.json.specs.Tree as tree
use Rattle.json.specs.Tree.{ItemsHaveNumbers}
use Rattle.json.specs.Print.{escape_byte, escape}
use Rattle.json.proofs.Printed.Decimals.{IsNumber-decimal}
use Rattle.serde_json.specs.Data.{string, array}
use Rattle.serde_json.specs.Read.{read, of_items}
use Rattle.serde_json.specs.Written.{compact_text, items_outline, items_text}
use Rattle.ptp_units.specs.Moment.{bound, stamp_of, fraction_of}
use Rattle.ptp_units.specs.Nanoseconds.{nanoseconds_text}
use Rattle.slave_port.specs.declared.heard.Report.{Report}
use Rattle.network_model.specs.Name.{is_name_octet}
use Rattle.trace_model.specs.declared.judgement.Results.{Results}
use Rattle.trace_model.specs.declared.verdict.Why.{Why}
use Rattle.trace_model.specs.declared.verdict.Why.TheVariants.{NoSuchLine, OtherNumber, OtherMaster, BrokenJourney}
use Rattle.trace_model.specs.declared.verdict.Why.TheVariants.{WrongReading, WrongValue, TooBig, Bytes}
use Rattle.trace_model.specs.Refusal.{code_of}
use Rattle.schedule_lines.specs.Ranges.{IsTag}
use Rattle.schedule_lines.specs.Written.{whole, difference_data, follow_data, tags_data}
use Rattle.schedule_lines.proofs.Compact.{IsReadable, AreReadableFields, read_object, text_readable, whole_readable}
use Rattle.schedule_lines.proofs.Compact.{members_readable, members_ascending}
use Rattle.schedule_lines.proofs.Keys.{Field, members_of}
use Rattle.schedule_lines.proofs.Printed.{moment_readable}
use Rattle.schedule_lines.proofs.Values.{value_read}
use Rattle.schedule_reading.specs.declared.transcript.Judged.{Judged}
use Rattle.explain_laws.specs.Measurements.{IsOf128Bits, is_printed}
use Rattle.explain_laws.proofs.Figures.{all_of, escape_figures, printed_figures, figures_signed, figures_nanoseconds}
use Rattle.explain_laws.proofs.Measurements.{tags_readable, ArePrinted, both, word, number_printed, ascii}
use Rattle.explain_transcript.specs.declared.details.Details.{Details}
use Rattle.explain_transcript.specs.declared.details.Moments.{Moments}
use Rattle.explain_transcript.specs.declared.details.Octets.{Octets}
use Rattle.explain_transcript.specs.declared.details.Octets.TheVariants.{Told, Other}
use Rattle.explain_transcript.specs.Judged.{results_text, of_128_bits, difference, both_differences, errors_against, errors_text}
use Rattle.explain_transcript.specs.Judged.{are_known, both_brackets, brackets_text, error_text, codes_text, event_text}
use Rattle.explain_transcript.specs.Judged.{moments_text, octets_text, time_text, owed_text, reported_text, sum}
use Rattle.explain_laws.specs.ReadBack.{AreMoments, AreOf128Bits, IsWithinRange, results_data, errors_data, error_data, time_data}
use Rattle.explain_laws.specs.ReadBack.{both_brackets_data, brackets_data, codes_data, event_data, octets_data, judged_data}
use Rattle.explain_laws.specs.ReadBack.{EachJudgementIsJson}

-- ---- the compact text of the value is read as the value

code_small : (why : Why) → code_of why < 2 ^ 64
code_small NoSuchLine = omega arith
code_small OtherNumber = omega arith
code_small OtherMaster = omega arith
code_small BrokenJourney = omega arith
code_small WrongReading = omega arith
code_small WrongValue = omega arith
code_small TooBig = omega arith
code_small Bytes = omega arith

codes_same : (whys : List Why) → of_items (items_outline (codes_data whys)) ≡ Some (codes_data whys)
codes_same [] = refl
codes_same (why ∷ others) =
    let first = (whole_readable (code_of why) (code_small why)).same in
    let more = codes_same others in
    rw (first, more) refl

codes_numbers : (whys : List Why) → ItemsHaveNumbers (items_outline (codes_data whys))
codes_numbers [] = tt
codes_numbers (why ∷ others) = (IsNumber-decimal (code_of why) (code_small why), codes_numbers others)

codes_flat : (whys : List Why) → tree.items_depth (items_outline (codes_data whys)) ≡ 0
codes_flat [] = refl
codes_flat (why ∷ others) = let more = codes_flat others in omega arith

codes_readable : (whys : List Why) → IsReadable (array (codes_data whys))
codes_readable whys = record {
  same = ap (option_map array) (codes_same whys);
  numbers = codes_numbers whys;
  shallow = let flat = codes_flat whys in omega arith;
}

results_readable : (results : Option Results) → IsReadable (results_data results)
results_readable None = record { same = refl; numbers = tt; shallow = omega arith }
results_readable (Some results) = record { same = refl; numbers = (tt, (tt, tt)); shallow = omega arith }

both_brackets_readable : (a2 b2 : Option ℤ) → IsReadable (both_brackets_data a2 b2)
both_brackets_readable None b2 = record { same = refl; numbers = tt; shallow = omega arith }
both_brackets_readable (Some a2) None = record { same = refl; numbers = tt; shallow = omega arith }
both_brackets_readable (Some a2) (Some b2) = record { same = refl; numbers = (tt, (tt, tt)); shallow = omega arith }

brackets_readable : (results : Option Results) → IsReadable (brackets_data results)
brackets_readable None = record { same = refl; numbers = tt; shallow = omega arith }
brackets_readable (Some results) = both_brackets_readable (sum results.path2 results.offset2) (difference results.path2 results.offset2)

error_readable : (stands : Bool) (by_messages by_readings : Option Results)
    → IsReadable (error_data stands by_messages by_readings)
error_readable false by_messages by_readings = record { same = refl; numbers = tt; shallow = omega arith }
error_readable true None None = record { same = refl; numbers = (tt, (tt, tt)); shallow = omega arith }
error_readable true None (Some by_readings) =
    record { same = refl; numbers = (tt, ((tt, (tt, tt)), tt)); shallow = omega arith }
error_readable true (Some by_messages) None =
    record { same = refl; numbers = ((tt, (tt, tt)), (tt, tt)); shallow = omega arith }
error_readable true (Some by_messages) (Some by_readings) =
    record { same = refl; numbers = ((tt, (tt, tt)), ((tt, (tt, tt)), tt)); shallow = omega arith }

octets_readable : (octets : Option Octets) → IsReadable (octets_data octets)
octets_readable None = record { same = refl; numbers = tt; shallow = omega arith }
octets_readable (Some Told) = text_readable (codes "told")
octets_readable (Some Other) = text_readable (codes "other")

time_readable : (time : Option ℕ) → IfSome time (λ time. time < bound) → IsReadable (time_data time)
time_readable None h = record { same = refl; numbers = tt; shallow = omega arith }
time_readable (Some time) h = moment_readable time h

event_readable : (event : Option ℕ) → IfSome event (λ event. event < 2 ^ 64) → IsReadable (event_data event)
event_readable None h = record { same = refl; numbers = tt; shallow = omega arith }
event_readable (Some event) h = whole_readable event h

-- one of four moments is one, where there are any
one_of_moments : (one : Moments → ℕ) → ((moments : Moments) → AreMoments moments → one moments < bound) → (moments : Option Moments)
    → IfSome moments AreMoments → IfSome (option_map one moments) (λ time. time < bound)
one_of_moments one small None h = tt
one_of_moments one small (Some moments) h = small moments h

moment_readable_of : (one : Moments → ℕ) → ((moments : Moments) → AreMoments moments → one moments < bound) → (moments : Option Moments)
    → IfSome moments AreMoments → IsReadable (time_data (option_map one moments))
moment_readable_of one small moments h = time_readable (option_map one moments) (one_of_moments one small moments h)

abbrev error_of : Judged → Details → (Bool × (Option Results × Option Results))
error_of judged details = (
  are_known judged.judgement.by_readings,
  (errors_against judged.report details.by_messages, errors_against judged.report judged.judgement.by_readings),
)

-- the members of a judgement from its moments on, and all of them
abbrev behind : Judged → Details → List Field
behind judged details =
    (codes "t1", Some (time_data (option_map (λ (m : Moments). m.t1) details.moments)))
    ∷ (codes "t2", Some (time_data (option_map (λ (m : Moments). m.t2) details.moments)))
    ∷ (codes "t3", Some (time_data (option_map (λ (m : Moments). m.t3) details.moments)))
    ∷ (codes "t4", Some (time_data (option_map (λ (m : Moments). m.t4) details.moments)))
    ∷ (codes "tags", Some (tags_data judged.report))
    ∷ (codes "time", Some (time_data details.time))
    ∷ []

abbrev fields : Judged → Details → List Field
fields judged details =
    (codes "brackets", Some (brackets_data judged.judgement.by_readings))
    ∷ (codes "by_messages", Some (results_data details.by_messages))
    ∷ (codes "by_readings", Some (results_data judged.judgement.by_readings))
    ∷ (codes "error", Some (error_data (error_of judged details).0 (error_of judged details).1.0 (error_of judged details).1.1))
    ∷ (codes "event", Some (whole judged.event))
    ∷ (codes "line", Some (whole judged.line))
    ∷ (codes "node", Some (string judged.node))
    ∷ (codes "octets", Some (octets_data details.octets))
    ∷ (codes "offset2", Some (difference_data judged.report.offset2))
    ∷ (codes "otherwise", Some (event_data details.otherwise))
    ∷ (codes "path2", Some (difference_data judged.report.path2))
    ∷ (codes "reasons", Some (array (codes_data judged.judgement.reasons)))
    ∷ behind judged details

behind_readable : (judged : Judged) (details : Details) → IsWithinRange judged details → AreReadableFields (behind judged details)
behind_readable judged details h = (
  moment_readable_of (λ (m : Moments). m.t1) (λ m small. small.t1) details.moments h.moments,
  (
    moment_readable_of (λ (m : Moments). m.t2) (λ m small. small.t2) details.moments h.moments,
    (
      moment_readable_of (λ (m : Moments). m.t3) (λ m small. small.t3) details.moments h.moments,
      (
        moment_readable_of (λ (m : Moments). m.t4) (λ m small. small.t4) details.moments h.moments,
        (tags_readable judged.report h.tags, (time_readable details.time h.time, tt)),
      ),
    ),
  ),
)

fields_readable : (judged : Judged) (details : Details) → IsWithinRange judged details
    → AreReadableFields (fields judged details)
fields_readable judged details h = (
  brackets_readable judged.judgement.by_readings,
  (
    results_readable details.by_messages,
    (
      results_readable judged.judgement.by_readings,
      (
        error_readable _ _ _,
        (
          whole_readable judged.event h.event,
          (
            whole_readable judged.line h.line,
            (
              text_readable _,
              (
                octets_readable details.octets,
                (
                  text_readable _,
                  (
                    event_readable details.otherwise h.otherwise,
                    (
                      text_readable _,
                      (
                        codes_readable judged.judgement.reasons,
                        behind_readable judged details h,
                      ),
                    ),
                  ),
                ),
              ),
            ),
          ),
        ),
      ),
    ),
  ),
)

read_back : (judged : Judged) (details : Details) → IsWithinRange judged details
    → read (compact_text (judged_data judged details)) ≡ Some (judged_data judged details)
read_back judged details h =
    read_object (members_of (fields judged details))
    (members_readable (fields judged details) (fields_readable judged details h)) (members_ascending (fields judged details))

-- ---- which is what is written

-- a letter, a digit, `_` or `-` needs no escape
name_alone : (x : ℕ) → is_name_octet x ≡ true → escape_byte x ≡ x ∷ []
unfolding escape_byte
name_alone x name =
    let a : (x == 34) ≡ false = grind (arith, nat_tests, name) in
    let b : (x == 92) ≡ false = grind (arith, nat_tests, name) in
    let c : (x == 8) ≡ false = grind (arith, nat_tests, name) in
    let d : (x == 12) ≡ false = grind (arith, nat_tests, name) in
    let e : (x == 10) ≡ false = grind (arith, nat_tests, name) in
    let f : (x == 13) ≡ false = grind (arith, nat_tests, name) in
    let g : (x == 9) ≡ false = grind (arith, nat_tests, name) in
    let high : nat_lt x 32 ≡ false = grind (arith, nat_tests, name) in
    rw (a, b, c, d, e, f, g, high)

escape_name : (s : List ℕ) → list_all is_name_octet s ≡ true → escape s ≡ s
escape_name [] h = refl
escape_name (x ∷ s) h =
    let parts : (is_name_octet x ≡ true) × (list_all is_name_octet s ≡ true) = and_parts (is_name_octet x) (list_all is_name_octet s) h in
    flat_map-cons escape_byte x s ∙ (λ i. name_alone x parts.0 i ++ escape_name s parts.1 i)

name_printed : (x : ℕ) → is_name_octet x ≡ true → is_printed x ≡ true
name_printed x name =
    let low : nat_lt 31 x ≡ true = grind (arith, nat_tests, name) in
    let high : nat_lt x 127 ≡ true = grind (arith, nat_tests, name) in
    λ i. low i && high i

-- the numbers of reasons behind the first, each behind a comma, and what ends them
codes_more : (whys : List Why)
    → items_text true (codes_data whys) ≡ flat_map (λ why. codes "," ++ decimal (code_of why)) whys ++ 93 ∷ []
codes_more [] = refl
codes_more (why ∷ others) =
    ap (λ (t : List ℕ). 44 ∷ (decimal (code_of why) ++ t)) (codes_more others)
    ∙ sym (ap (λ (t : List ℕ). t ++ 93 ∷ []) (flat_map-cons (λ (why : Why). codes "," ++ decimal (code_of why)) why others)
    ∙ simp append_assoc)

codes_are : (whys : List Why) → compact_text (array (codes_data whys)) ≡ 91 ∷ (codes_text whys ++ 93 ∷ [])
codes_are [] = refl
codes_are (why ∷ others) =
    ap (λ (t : List ℕ). 91 ∷ (decimal (code_of why) ++ t)) (codes_more others)
    ∙ sym (ap (λ (t : List ℕ). 91 ∷ t) (append_assoc (decimal (code_of why)) _ (93 ∷ [])))

abbrev both_pieces : (offset2 path2 : List ℕ) → List ℕ
both_pieces offset2 path2 =
    codes "{\"offset2\":" ++ ((34 ∷ (offset2 ++ 34 ∷ [])) ++ (codes ",\"path2\":" ++ ((34 ∷ (path2 ++ 34 ∷ [])) ++ codes "}")))

both_same : (offset2 path2 : List ℕ)
    → both_pieces offset2 path2 ≡ codes "{\"offset2\":\"" ++ offset2 ++ codes "\",\"path2\":\"" ++ path2 ++ codes "\"}"
both_same offset2 path2 = simp append_assoc

results_are : (results : Option Results) → IfSome results AreOf128Bits → compact_text (results_data results) ≡ results_text results
unfolding escape_byte
results_are None h = refl
results_are (Some results) h =
    let offset2 = escape_figures (signed_decimal results.offset2) (figures_signed results.offset2 h.0) in
    let path2 = escape_figures (signed_decimal results.path2) (figures_signed results.path2 h.1) in
    (λ i. both_pieces (offset2 i) (path2 i)) ∙ both_same (signed_decimal results.offset2) (signed_decimal results.path2)

-- ---- errors, which have 128 bits

fits_by : (fits : Bool) (z : ℤ) → (fits ≡ true → IsOf128Bits z) → IfSome (if fits then Some z else None) IsOf128Bits
fits_by false z h = tt
fits_by true z h = h refl

difference_fits : (z : ℤ) → IfSome (of_128_bits z) IsOf128Bits
difference_fits (pos n) = fits_by (nat_lt n (2 ^ 127)) (pos n) (λ test. grind (arith, nat_tests, test))
difference_fits (negsuc n) = fits_by (nat_lt n (2 ^ 127)) (negsuc n) (λ test. grind (arith, nat_tests, test))

both_fit : (offset2 path2 : Option ℤ) → IfSome offset2 IsOf128Bits → IfSome path2 IsOf128Bits
    → IfSome (both_differences offset2 path2) AreOf128Bits
both_fit None path2 o p = tt
both_fit (Some offset2) None o p = tt
both_fit (Some offset2) (Some path2) o p = (o, p)

errors_fit : (report : Report) (results : Option Results) → IfSome (errors_against report results) AreOf128Bits
errors_fit report None = tt
errors_fit report (Some results) =
    both_fit (difference report.offset2 results.offset2) (difference report.path2 results.path2)
    (difference_fits (report.offset2 -ℤ results.offset2)) (difference_fits (report.path2 -ℤ results.path2))

abbrev errors_pieces : (offset path : List ℕ) → List ℕ
errors_pieces offset path =
    codes "{\"offset\":" ++ ((34 ∷ (offset ++ 34 ∷ [])) ++ (codes ",\"path\":" ++ ((34 ∷ (path ++ 34 ∷ [])) ++ codes "}")))

errors_same : (offset path : List ℕ)
    → errors_pieces offset path ≡ codes "{\"offset\":\"" ++ offset ++ codes "\",\"path\":\"" ++ path ++ codes "\"}"
errors_same offset path = simp append_assoc

errors_are : (errors : Option Results) → IfSome errors AreOf128Bits → compact_text (errors_data errors) ≡ errors_text errors
unfolding escape_byte
errors_are None h = refl
errors_are (Some errors) h =
    let offset = escape_figures (nanoseconds_text errors.offset2) (figures_nanoseconds errors.offset2 h.0) in
    let path = escape_figures (nanoseconds_text errors.path2) (figures_nanoseconds errors.path2 h.1) in
    (λ i. errors_pieces (offset i) (path i)) ∙ errors_same (nanoseconds_text errors.offset2) (nanoseconds_text errors.path2)

abbrev error_pieces : (by_messages by_readings : List ℕ) → List ℕ
error_pieces by_messages by_readings =
    codes "{\"by_messages\":" ++ (by_messages ++ (codes ",\"by_readings\":" ++ (by_readings ++ codes "}")))

error_same : (by_messages by_readings : List ℕ) → error_pieces by_messages by_readings
    ≡ codes "{\"by_messages\":" ++ by_messages ++ codes ",\"by_readings\":" ++ by_readings ++ codes "}"
error_same by_messages by_readings = simp append_assoc

error_is : (stands : Bool) (by_messages by_readings : Option Results) → IfSome by_messages AreOf128Bits
    → IfSome by_readings AreOf128Bits → compact_text (error_data stands by_messages by_readings) ≡ error_text stands by_messages by_readings
unfolding escape_byte
error_is false by_messages by_readings m r = refl
error_is true by_messages by_readings m r =
    (λ i. error_pieces (errors_are by_messages m i) (errors_are by_readings r i))
    ∙ error_same (errors_text by_messages) (errors_text by_readings)

-- ---- brackets

abbrev brackets_pieces : (a b : List ℕ) → List ℕ
brackets_pieces a b =
    codes "{\"a\":" ++ ((34 ∷ (a ++ 34 ∷ [])) ++ (codes ",\"b\":" ++ ((34 ∷ (b ++ 34 ∷ [])) ++ codes "}")))

brackets_same : (a b : List ℕ) → brackets_pieces a b ≡ codes "{\"a\":\"" ++ a ++ codes "\",\"b\":\"" ++ b ++ codes "\"}"
brackets_same a b = simp append_assoc

both_brackets_are : (a2 b2 : Option ℤ) → IfSome a2 IsOf128Bits → IfSome b2 IsOf128Bits
    → compact_text (both_brackets_data a2 b2) ≡ both_brackets a2 b2
unfolding escape_byte
both_brackets_are None b2 h k = refl
both_brackets_are (Some a2) None h k = refl
both_brackets_are (Some a2) (Some b2) h k =
    let a = escape_figures (nanoseconds_text a2) (figures_nanoseconds a2 h) in
    let b = escape_figures (nanoseconds_text b2) (figures_nanoseconds b2 k) in
    (λ i. brackets_pieces (a i) (b i)) ∙ brackets_same (nanoseconds_text a2) (nanoseconds_text b2)

brackets_are : (results : Option Results) → compact_text (brackets_data results) ≡ brackets_text results
unfolding escape_byte
brackets_are None = refl
brackets_are (Some results) =
    both_brackets_are (sum results.path2 results.offset2) (difference results.path2 results.offset2)
    (difference_fits (results.path2 +ℤ results.offset2)) (difference_fits (results.path2 -ℤ results.offset2))

-- ---- tags and the time

follow_is : (tag : Option ℕ) → compact_text (follow_data tag) ≡ event_text tag
follow_is None = refl
follow_is (Some tag) = refl

event_is : (event : Option ℕ) → compact_text (event_data event) ≡ event_text event
event_is None = refl
event_is (Some event) = refl

abbrev time_pieces : (seconds nanos fraction : List ℕ) → List ℕ
time_pieces seconds nanos fraction = 91 ∷ (seconds ++ (44 ∷ (nanos ++ (44 ∷ (fraction ++ 93 ∷ [])))))

time_same : (seconds nanos fraction : List ℕ) → time_pieces seconds nanos fraction
    ≡ codes "[" ++ seconds ++ codes "," ++ nanos ++ codes "," ++ fraction ++ codes "]"
time_same seconds nanos fraction = simp append_assoc

time_is : (time : Option ℕ) → compact_text (time_data time) ≡ time_text time
time_is None = refl
time_is (Some time) =
    time_same (decimal (stamp_of time).seconds) (decimal (stamp_of time).nanos) (decimal (fraction_of time))

-- four moments, each behind its key
abbrev times_front : (t1 t2 t3 t4 : List ℕ) → List ℕ
times_front t1 t2 t3 t4 = codes "\"t1\":" ++ t1 ++ codes ",\"t2\":" ++ t2 ++ codes ",\"t3\":" ++ t3 ++ codes ",\"t4\":" ++ t4

abbrev one_text : (Moments → ℕ) → Option Moments → List ℕ
one_text one moments = time_text (option_map one moments)

moments_are : (moments : Option Moments)
    → times_front (one_text (λ (m : Moments). m.t1) moments) (one_text (λ (m : Moments). m.t2) moments)
    (one_text (λ (m : Moments). m.t3) moments) (one_text (λ (m : Moments). m.t4) moments) ≡ moments_text moments
moments_are None = refl
moments_are (Some moments) = refl

octets_are : (octets : Option Octets) → compact_text (octets_data octets) ≡ octets_text octets
unfolding escape_byte
octets_are None = refl
octets_are (Some Told) = refl
octets_are (Some Other) = refl

-- ---- the pieces of the text as a value's, by the texts of its members, and as they are written
abbrev owed_pieces : (brackets by_messages by_readings error rest : List ℕ) → List ℕ
owed_pieces brackets by_messages by_readings error rest =
    codes "{\"brackets\":" ++ (brackets
    ++ (codes ",\"by_messages\":" ++ (by_messages
    ++ (codes ",\"by_readings\":" ++ (by_readings
    ++ (codes ",\"error\":" ++ (error ++ rest)))))))

abbrev owed_front : (brackets by_messages by_readings error : List ℕ) → List ℕ
owed_front brackets by_messages by_readings error =
    codes "{\"brackets\":" ++ brackets ++ codes ",\"by_messages\":" ++ by_messages ++ codes ",\"by_readings\":" ++ by_readings
    ++ codes ",\"error\":" ++ error

same_owed : (brackets by_messages by_readings error rest : List ℕ)
    → owed_pieces brackets by_messages by_readings error rest ≡ owed_front brackets by_messages by_readings error ++ rest
same_owed brackets by_messages by_readings error rest = simp append_assoc

abbrev reported_pieces : (event line node octets offset2 otherwise path2 rest : List ℕ) → List ℕ
reported_pieces event line node octets offset2 otherwise path2 rest =
    codes ",\"event\":" ++ (event
    ++ (codes ",\"line\":" ++ (line
    ++ (codes ",\"node\":" ++ ((34 ∷ (node ++ 34 ∷ []))
    ++ (codes ",\"octets\":" ++ (octets
    ++ (codes ",\"offset2\":" ++ ((34 ∷ (offset2 ++ 34 ∷ []))
    ++ (codes ",\"otherwise\":" ++ (otherwise
    ++ (codes ",\"path2\":" ++ ((34 ∷ (path2 ++ 34 ∷ [])) ++ rest)))))))))))))

abbrev reported_front : (event line node octets offset2 otherwise path2 : List ℕ) → List ℕ
reported_front event line node octets offset2 otherwise path2 =
    codes ",\"event\":" ++ event
    ++ codes ",\"line\":" ++ line
    ++ codes ",\"node\":\"" ++ node
    ++ codes "\",\"octets\":" ++ octets
    ++ codes ",\"offset2\":\"" ++ offset2
    ++ codes "\",\"otherwise\":" ++ otherwise
    ++ codes ",\"path2\":\"" ++ path2 ++ codes "\""

same_reported : (event line node octets offset2 otherwise path2 rest : List ℕ)
    → reported_pieces event line node octets offset2 otherwise path2 rest
    ≡ reported_front event line node octets offset2 otherwise path2 ++ rest
same_reported event line node octets offset2 otherwise path2 rest = simp append_assoc

abbrev reasons_pieces : (reasons t1 t2 t3 t4 sync follow request response time : List ℕ) → List ℕ
reasons_pieces reasons t1 t2 t3 t4 sync follow request response time =
    codes ",\"reasons\":" ++ (reasons
    ++ (codes ",\"t1\":" ++ (t1 ++ (codes ",\"t2\":" ++ (t2 ++ (codes ",\"t3\":" ++ (t3 ++ (codes ",\"t4\":" ++ (t4
    ++ (codes ",\"tags\":" ++ ((91 ∷ (sync ++ (44 ∷ (follow ++ (44 ∷ (request ++ (44 ∷ (response ++ 93 ∷ []))))))))
    ++ (codes ",\"time\":" ++ (time ++ codes "}")))))))))))))

abbrev reasons_front : (reasons times sync follow request response time : List ℕ) → List ℕ
reasons_front reasons times sync follow request response time =
    codes ",\"reasons\":[" ++ reasons
    ++ codes "]," ++ times
    ++ codes ",\"tags\":[" ++ sync
    ++ codes "," ++ follow
    ++ codes "," ++ request
    ++ codes "," ++ response
    ++ codes "],\"time\":" ++ time

abbrev tags_behind : (sync follow request response time : List ℕ) → List ℕ
tags_behind sync follow request response time =
    codes ",\"tags\":" ++ ((91 ∷ (sync ++ (44 ∷ (follow ++ (44 ∷ (request ++ (44 ∷ (response ++ 93 ∷ []))))))))
    ++ (codes ",\"time\":" ++ (time ++ codes "}")))

same_times : (t1 t2 t3 t4 rest : List ℕ)
    → codes "\"t1\":" ++ (t1 ++ (codes ",\"t2\":" ++ (t2 ++ (codes ",\"t3\":" ++ (t3 ++ (codes ",\"t4\":" ++ (t4 ++ rest)))))))
    ≡ times_front t1 t2 t3 t4 ++ rest
same_times t1 t2 t3 t4 rest = simp append_assoc

same_tags : (reasons times sync follow request response time : List ℕ)
    → codes ",\"reasons\":" ++ ((91 ∷ (reasons ++ 93 ∷ [])) ++ (44 ∷ (times ++ tags_behind sync follow request response time)))
    ≡ reasons_front reasons times sync follow request response time ++ codes "}"
same_tags reasons times sync follow request response time = simp append_assoc

same_reasons : (reasons t1 t2 t3 t4 sync follow request response time : List ℕ)
    → reasons_pieces (91 ∷ (reasons ++ 93 ∷ [])) t1 t2 t3 t4 sync follow request response time
    ≡ reasons_front reasons (times_front t1 t2 t3 t4) sync follow request response time ++ codes "}"
same_reasons reasons t1 t2 t3 t4 sync follow request response time =
    ap (λ (behind : List ℕ). codes ",\"reasons\":" ++ ((91 ∷ (reasons ++ 93 ∷ [])) ++ (44 ∷ behind)))
    (same_times t1 t2 t3 t4 (tags_behind sync follow request response time))
    ∙ same_tags reasons (times_front t1 t2 t3 t4) sync follow request response time

abbrev reasons_with : (times : List ℕ) → Judged → Details → List ℕ
reasons_with times judged details = reasons_front (codes_text judged.judgement.reasons) times (decimal judged.report.sync_tag)
    (event_text judged.report.follow_tag) (decimal judged.report.request_tag) (decimal judged.report.response_tag)
    (time_text details.time)

abbrev reasons_of : Judged → Details → List ℕ
reasons_of judged details = reasons_with (moments_text details.moments) judged details

abbrev error_text_of : Judged → Details → List ℕ
error_text_of judged details = error_text (are_known judged.judgement.by_readings)
    (errors_against judged.report details.by_messages) (errors_against judged.report judged.judgement.by_readings)

abbrev line_of : Judged → Details → List ℕ
line_of judged details = owed_text judged details ++ (reported_text judged details ++ (reasons_of judged details ++ codes "}"))

compact_is : (judged : Judged) (details : Details) → IsWithinRange judged details
    → compact_text (judged_data judged details) ≡ line_of judged details
unfolding escape_byte
compact_is judged details h =
    let brackets = brackets_are judged.judgement.by_readings in
    let by_messages = results_are details.by_messages h.by_messages in
    let by_readings = results_are judged.judgement.by_readings h.by_readings in
    let error = error_is (are_known judged.judgement.by_readings) (errors_against judged.report details.by_messages)
    (errors_against judged.report judged.judgement.by_readings) (errors_fit judged.report details.by_messages)
    (errors_fit judged.report judged.judgement.by_readings) in
    let node = escape_name judged.node (list_all-from_AllPass is_name_octet judged.node h.node.octets) in
    let offset2 = escape_figures (signed_decimal judged.report.offset2) (figures_signed judged.report.offset2 h.offset2) in
    let path2 = escape_figures (signed_decimal judged.report.path2) (figures_signed judged.report.path2 h.path2) in
    let reasons : List ℕ = reasons_of judged details ++ codes "}" in
    (λ i. owed_pieces (brackets i) (by_messages i) (by_readings i) (error i)
    (reported_pieces (decimal judged.event) (decimal judged.line) (node i) (octets_are details.octets i) (offset2 i)
    (event_is details.otherwise i) (path2 i)
    (reasons_pieces (codes_are judged.judgement.reasons i) (time_is (option_map (λ (m : Moments). m.t1) details.moments) i)
    (time_is (option_map (λ (m : Moments). m.t2) details.moments) i) (time_is (option_map (λ (m : Moments). m.t3) details.moments) i)
    (time_is (option_map (λ (m : Moments). m.t4) details.moments) i)
    (decimal judged.report.sync_tag) (follow_is judged.report.follow_tag i)
    (decimal judged.report.request_tag) (decimal judged.report.response_tag) (time_is details.time i))))
    ∙ ap (λ (r : List ℕ). owed_pieces (brackets_text judged.judgement.by_readings) (results_text details.by_messages)
    (results_text judged.judgement.by_readings) (error_text_of judged details)
    (reported_pieces (decimal judged.event) (decimal judged.line) judged.node (octets_text details.octets)
    (signed_decimal judged.report.offset2) (event_text details.otherwise)
    (signed_decimal judged.report.path2) r))
    (same_reasons (codes_text judged.judgement.reasons) (one_text (λ (m : Moments). m.t1) details.moments)
    (one_text (λ (m : Moments). m.t2) details.moments) (one_text (λ (m : Moments). m.t3) details.moments)
    (one_text (λ (m : Moments). m.t4) details.moments) (decimal judged.report.sync_tag) (event_text judged.report.follow_tag)
    (decimal judged.report.request_tag) (decimal judged.report.response_tag) (time_text details.time)
    ∙ ap (λ (times : List ℕ). reasons_with times judged details ++ codes "}") (moments_are details.moments))
    ∙ ap (owed_pieces (brackets_text judged.judgement.by_readings) (results_text details.by_messages)
    (results_text judged.judgement.by_readings) (error_text_of judged details))
    (same_reported (decimal judged.event) (decimal judged.line) judged.node (octets_text details.octets)
    (signed_decimal judged.report.offset2) (event_text details.otherwise)
    (signed_decimal judged.report.path2) reasons)
    ∙ same_owed (brackets_text judged.judgement.by_readings) (results_text details.by_messages)
    (results_text judged.judgement.by_readings) (error_text_of judged details)
    (reported_text judged details ++ reasons)

-- ---- in octets that are printed
signed_printed : (z : ℤ) → IsOf128Bits z → ArePrinted (signed_decimal z)
signed_printed z small = word (signed_decimal z) (printed_figures (signed_decimal z) (figures_signed z small))

nanoseconds_printed : (z : ℤ) → IsOf128Bits z → ArePrinted (nanoseconds_text z)
nanoseconds_printed z small = word (nanoseconds_text z) (printed_figures (nanoseconds_text z) (figures_nanoseconds z small))

results_printed : (results : Option Results) → IfSome results AreOf128Bits → ArePrinted (results_text results)
results_printed None h = word (results_text None) refl
results_printed (Some results) h =
    both (both (both (both (word (codes "{\"offset2\":\"") refl) (signed_printed results.offset2 h.0))
    (word (codes "\",\"path2\":\"") refl)) (signed_printed results.path2 h.1)) (word (codes "\"}") refl)

errors_printed : (errors : Option Results) → IfSome errors AreOf128Bits → ArePrinted (errors_text errors)
errors_printed None h = word (errors_text None) refl
errors_printed (Some errors) h =
    both (both (both (both (word (codes "{\"offset\":\"") refl) (nanoseconds_printed errors.offset2 h.0))
    (word (codes "\",\"path\":\"") refl)) (nanoseconds_printed errors.path2 h.1)) (word (codes "\"}") refl)

error_printed : (stands : Bool) (by_messages by_readings : Option Results) → IfSome by_messages AreOf128Bits
    → IfSome by_readings AreOf128Bits → ArePrinted (error_text stands by_messages by_readings)
error_printed false by_messages by_readings m r = word (codes "null") refl
error_printed true by_messages by_readings m r =
    both (both (both (both (word (codes "{\"by_messages\":") refl) (errors_printed by_messages m))
    (word (codes ",\"by_readings\":") refl)) (errors_printed by_readings r)) (word (codes "}") refl)

more_printed : (whys : List Why) → ArePrinted (flat_map (λ why. codes "," ++ decimal (code_of why)) whys)
more_printed [] = word [] refl
more_printed (why ∷ others) =
    let whole = both (both (word (codes ",") refl) (number_printed (code_of why) (code_small why))) (more_printed others) in
    record { all = ap (list_all is_printed) (flat_map-cons (λ (why : Why). codes "," ++ decimal (code_of why)) why others) ∙ whole.all }

codes_printed : (whys : List Why) → ArePrinted (codes_text whys)
codes_printed [] = word [] refl
codes_printed (why ∷ others) = both (number_printed (code_of why) (code_small why)) (more_printed others)

follow_printed : (tag : Option ℕ) → IfSome tag IsTag → ArePrinted (event_text tag)
follow_printed None h = word (event_text None) refl
follow_printed (Some tag) h = number_printed tag h

time_printed : (time : Option ℕ) → IfSome time (λ time. time < bound) → ArePrinted (time_text time)
time_printed None h = word (time_text None) refl
time_printed (Some time) h =
    both (both (both (both (both (both (word (codes "[") refl) (number_printed (stamp_of time).seconds (omega (arith, h))))
    (word (codes ",") refl)) (number_printed (stamp_of time).nanos (omega arith)))
    (word (codes ",") refl)) (number_printed (fraction_of time) (omega arith))) (word (codes "]") refl)

event_printed : (event : Option ℕ) → IfSome event (λ event. event < 2 ^ 64) → ArePrinted (event_text event)
event_printed None h = word (event_text None) refl
event_printed (Some event) h = number_printed event h

moments_printed : (moments : Option Moments) → IfSome moments AreMoments → ArePrinted (moments_text moments)
moments_printed None h = word (moments_text None) refl
moments_printed (Some moments) h =
    both (both (both (both (both (both (both (word (codes "\"t1\":") refl) (time_printed (Some moments.t1) h.t1))
    (word (codes ",\"t2\":") refl)) (time_printed (Some moments.t2) h.t2))
    (word (codes ",\"t3\":") refl)) (time_printed (Some moments.t3) h.t3))
    (word (codes ",\"t4\":") refl)) (time_printed (Some moments.t4) h.t4)

both_brackets_printed : (a2 b2 : Option ℤ) → IfSome a2 IsOf128Bits → IfSome b2 IsOf128Bits → ArePrinted (both_brackets a2 b2)
both_brackets_printed None b2 h k = word (codes "null") refl
both_brackets_printed (Some a2) None h k = word (codes "null") refl
both_brackets_printed (Some a2) (Some b2) h k =
    both (both (both (both (word (codes "{\"a\":\"") refl) (nanoseconds_printed a2 h))
    (word (codes "\",\"b\":\"") refl)) (nanoseconds_printed b2 k)) (word (codes "\"}") refl)

brackets_printed : (results : Option Results) → ArePrinted (brackets_text results)
brackets_printed None = word (codes "null") refl
brackets_printed (Some results) =
    both_brackets_printed (sum results.path2 results.offset2) (difference results.path2 results.offset2)
    (difference_fits (results.path2 +ℤ results.offset2)) (difference_fits (results.path2 -ℤ results.offset2))

owed_printed : (brackets by_messages by_readings error : List ℕ) → ArePrinted brackets → ArePrinted by_messages → ArePrinted by_readings
    → ArePrinted error → ArePrinted (owed_front brackets by_messages by_readings error)
owed_printed brackets by_messages by_readings error b m r e =
    both (both (both (both (both (both (both (word (codes "{\"brackets\":") refl) b) (word (codes ",\"by_messages\":") refl)) m) (word (codes ",\"by_readings\":") refl)) r) (word (codes ",\"error\":") refl)) e

octets_printed : (octets : Option Octets) → ArePrinted (octets_text octets)
octets_printed None = word (octets_text None) refl
octets_printed (Some Told) = word (octets_text (Some Told)) refl
octets_printed (Some Other) = word (octets_text (Some Other)) refl

reported_printed : (event line node octets offset2 otherwise path2 : List ℕ)
    → ArePrinted event → ArePrinted line → ArePrinted node → ArePrinted octets → ArePrinted offset2 → ArePrinted otherwise → ArePrinted path2
    → ArePrinted (reported_front event line node octets offset2 otherwise path2)
reported_printed event line node octets offset2 otherwise path2 e l n t o w p =
    both (both (both (both (both (both (both (both (both (both (both (both (both (both (word (codes ",\"event\":") refl) e) (word (codes ",\"line\":") refl)) l) (word (codes ",\"node\":\"") refl)) n) (word (codes "\",\"octets\":") refl)) t) (word (codes ",\"offset2\":\"") refl)) o) (word (codes "\",\"otherwise\":") refl)) w) (word (codes ",\"path2\":\"") refl)) p) (word (codes "\"") refl)

reasons_printed : (reasons times sync follow request response time : List ℕ)
    → ArePrinted reasons → ArePrinted times → ArePrinted sync → ArePrinted follow → ArePrinted request → ArePrinted response → ArePrinted time
    → ArePrinted (reasons_front reasons times sync follow request response time)
reasons_printed reasons times sync follow request response time c m s f q r t =
    both (both (both (both (both (both (both (both (both (both (both (both (both (word (codes ",\"reasons\":[") refl) c) (word (codes "],") refl)) m) (word (codes ",\"tags\":[") refl)) s) (word (codes ",") refl)) f) (word (codes ",") refl)) q) (word (codes ",") refl)) r) (word (codes "],\"time\":") refl)) t

line_printed : (judged : Judged) (details : Details) → IsWithinRange judged details → ArePrinted (line_of judged details)
line_printed judged details h =
    both (owed_printed _ _ _ _ (brackets_printed judged.judgement.by_readings) (results_printed details.by_messages h.by_messages)
    (results_printed judged.judgement.by_readings h.by_readings)
    (error_printed (are_known judged.judgement.by_readings) _ _ (errors_fit judged.report details.by_messages)
    (errors_fit judged.report judged.judgement.by_readings)))
    (both (reported_printed _ _ _ _ _ _ _ (number_printed judged.event h.event) (number_printed judged.line h.line)
    (word _ (all_of is_name_octet is_printed name_printed judged.node (list_all-from_AllPass is_name_octet judged.node h.node.octets)))
    (octets_printed details.octets) (signed_printed judged.report.offset2 h.offset2) (event_printed details.otherwise h.otherwise) (signed_printed judged.report.path2 h.path2))
    (both (reasons_printed _ _ _ _ _ _ _ (codes_printed judged.judgement.reasons) (moments_printed details.moments h.moments) (number_printed judged.report.sync_tag h.tags.sync)
    (follow_printed judged.report.follow_tag h.tags.follow) (number_printed judged.report.request_tag h.tags.request)
    (number_printed judged.report.response_tag h.tags.response) (time_printed details.time h.time)) (word (codes "}") refl)))

ended : (o r q e n : List ℕ) → o ++ (r ++ (q ++ (e ++ n))) ≡ (o ++ (r ++ (q ++ e))) ++ n
ended o r q e n = sym (append_assoc o (r ++ (q ++ e)) n
    ∙ ap (λ (s : List ℕ). o ++ s) (append_assoc r (q ++ e) n ∙ ap (λ (s : List ℕ). r ++ s) (append_assoc q e n)))

pub each_is_json : EachJudgementIsJson
each_is_json judged details h =
    let line : List ℕ = line_of judged details in
    let printed = (line_printed judged details h).all in (
      line,
      ended (owed_text judged details) (reported_text judged details) (reasons_of judged details) (codes "}") (codes "\n"),
      printed,
      value_read line (judged_data judged details) (IsUtf8-from_ascii line (ascii line printed))
          (ap read (sym (compact_is judged details h)) ∙ read_back judged details h),
    )
