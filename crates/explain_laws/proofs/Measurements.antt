-- The JSON of a measurement, read again.
use Rattle.std.proofs.Common.{◌≡◌, ◌∙◌, ℕ, ℤ, ◌<◌, ◌^◌, Bool, true, false, ◌&&◌, nat_lt, List, [], ◌∷◌, ◌++◌, codes, Option, Some, None, IfSome}
use Rattle.std.proofs.Common.{refl, ap, sym, arith, append_assoc}
use Rattle.std.specs.Fmt.{decimal, signed_decimal}
use Rattle.std.specs.List.{list_all}
use Rattle.std.specs.Str.{IsAscii}
use Rattle.std.proofs.lemmas.Bool.{and_parts}
use Rattle.std.proofs.lemmas.Bool.Decides.{nat_tests}
use Rattle.std.proofs.lemmas.List.Folds.{list_all-append}
use Rattle.std.proofs.lemmas.Str.{IsUtf8-from_ascii}
use Rattle.std.proofs.lemmas.Str.Ascii.{IsAscii-nil, IsAscii-cons}
use Rattle.json.specs.Print.{escape_byte, escape}
use Rattle.json.proofs.Printed.Decimals.{IsNumber-decimal}
use Rattle.serde_json.specs.Data.{string}
use Rattle.serde_json.specs.Read.{read}
use Rattle.serde_json.specs.Written.{compact_text}
use Rattle.serde_json.proofs.Numbers.{number_of-decimal}
use Rattle.ptp_units.specs.Nanoseconds.{nanoseconds_text}
use Rattle.slave_port.specs.declared.heard.Report.{Report}
use Rattle.schedule_lines.specs.Ranges.{HasTags, IsTag}
use Rattle.schedule_lines.specs.Written.{whole, follow_data, tags_data}
use Rattle.schedule_lines.proofs.Compact.{IsReadable, AreReadableFields, read_object, text_readable, whole_readable}
use Rattle.schedule_lines.proofs.Compact.{members_readable, members_ascending}
use Rattle.schedule_lines.proofs.Keys.{Field, members_of}
use Rattle.schedule_lines.proofs.Values.{value_read}
use Rattle.recording_lines.specs.declared.measurement.Half.{Half}
use Rattle.recording_lines.specs.declared.measurement.Half.TheVariants.{Sync, Response}
use Rattle.recording_lines.specs.Measurement.{Measured, by_text, follow_text}
use Rattle.explain_laws.specs.Measurements.{IsWithinRange, measured_data, is_printed, EachMeasurementIsJson}
use Rattle.explain_laws.proofs.Figures.{escape_figures, printed_figures, figures_decimal, figures_signed}
use Rattle.explain_laws.proofs.Figures.{figures_nanoseconds, figures_time}

-- ---- the compact text of the value is read as the value
tags_at : (sync request response : ℕ) (follow : Option ℕ) → IsTag sync → IfSome follow IsTag → IsTag request → IsTag response
    → (offset2 path2 : ℤ) → IsReadable (tags_data (record {
      offset2 = offset2;
      path2 = path2;
      sync_tag = sync;
      follow_tag = follow;
      request_tag = request;
      response_tag = response;
    }))
tags_at sync request response None s f q r offset2 path2 = record {
  same = rw (number_of-decimal sync s, number_of-decimal request q, number_of-decimal response r);
  numbers = (IsNumber-decimal sync s, (tt, (IsNumber-decimal request q, (IsNumber-decimal response r, tt))));
  shallow = omega arith;
}
tags_at sync request response (Some tag) s f q r offset2 path2 = record {
  same = rw (number_of-decimal sync s, number_of-decimal tag f, number_of-decimal request q, number_of-decimal response r);
  numbers = (IsNumber-decimal sync s, (IsNumber-decimal tag f, (IsNumber-decimal request q, (IsNumber-decimal response r, tt))));
  shallow = omega arith;
}

pub tags_readable : (report : Report) → HasTags report → IsReadable (tags_data report)
tags_readable report h = tags_at report.sync_tag report.request_tag report.response_tag report.follow_tag h.sync h.follow h.request
    h.response report.offset2 report.path2

abbrev fields : Measured → List Field
fields m =
    (codes "by", Some (string (by_text m.own m.by)))
    ∷ (codes "line", Some (whole m.line))
    ∷ (codes "offset", Some (string (nanoseconds_text m.report.offset2)))
    ∷ (codes "offset2", Some (string (signed_decimal m.report.offset2)))
    ∷ (codes "path", Some (string (nanoseconds_text m.report.path2)))
    ∷ (codes "path2", Some (string (signed_decimal m.report.path2)))
    ∷ (codes "tags", Some (tags_data m.report))
    ∷ (codes "time", Some (string m.time))
    ∷ []

fields_readable : (m : Measured) → IsWithinRange m → AreReadableFields (fields m)
fields_readable m h = (
  text_readable _,
  (
    whole_readable m.line h.line,
    (
      text_readable _,
      (text_readable _, (text_readable _, (text_readable _, (tags_readable m.report h.tags, (text_readable _, tt))))),
    ),
  ),
)

read_back : (m : Measured) → IsWithinRange m → read (compact_text (measured_data m)) ≡ Some (measured_data m)
read_back m h =
    read_object (members_of (fields m)) (members_readable (fields m) (fields_readable m h)) (members_ascending (fields m))

-- ---- which is what is written
pub by_alone : (own : Bool) (half : Half) → escape (by_text own half) ≡ by_text own half
unfolding escape_byte
by_alone false Sync = refl
by_alone false Response = refl
by_alone true Sync = refl
by_alone true Response = refl

pub follow_is : (tag : Option ℕ) → compact_text (follow_data tag) ≡ follow_text tag
follow_is None = refl
follow_is (Some tag) = refl

-- the pieces of the text as a value's, by the texts of its members
abbrev pieces : (by line offset offset2 path path2 sync follow request response time : List ℕ) → List ℕ
pieces by line offset offset2 path path2 sync follow request response time =
    codes "{\"by\":" ++ ((34 ∷ (by ++ 34 ∷ []))
    ++ (codes ",\"line\":" ++ (line
    ++ (codes ",\"offset\":" ++ ((34 ∷ (offset ++ 34 ∷ []))
    ++ (codes ",\"offset2\":" ++ ((34 ∷ (offset2 ++ 34 ∷ []))
    ++ (codes ",\"path\":" ++ ((34 ∷ (path ++ 34 ∷ []))
    ++ (codes ",\"path2\":" ++ ((34 ∷ (path2 ++ 34 ∷ []))
    ++ (codes ",\"tags\":" ++ ((91 ∷ (sync ++ (44 ∷ (follow ++ (44 ∷ (request ++ (44 ∷ (response ++ 93 ∷ []))))))))
    ++ (codes ",\"time\":" ++ ((34 ∷ (time ++ 34 ∷ [])) ++ codes "}")))))))))))))))

-- the same as they are written, but for what ends it
abbrev front : (by line offset offset2 path path2 sync follow request response time : List ℕ) → List ℕ
front by line offset offset2 path path2 sync follow request response time =
    codes "{\"by\":\"" ++ by
    ++ codes "\",\"line\":" ++ line
    ++ codes ",\"offset\":\"" ++ offset
    ++ codes "\",\"offset2\":\"" ++ offset2
    ++ codes "\",\"path\":\"" ++ path
    ++ codes "\",\"path2\":\"" ++ path2
    ++ codes "\",\"tags\":[" ++ sync
    ++ codes "," ++ follow
    ++ codes "," ++ request
    ++ codes "," ++ response
    ++ codes "],\"time\":\"" ++ time

same_pieces : (by line offset offset2 path path2 sync follow request response time : List ℕ)
    → pieces by line offset offset2 path path2 sync follow request response time
    ≡ front by line offset offset2 path path2 sync follow request response time ++ codes "\"}"
same_pieces by line offset offset2 path path2 sync follow request response time = simp append_assoc

abbrev front_of : Measured → List ℕ
front_of m = front (by_text m.own m.by) (decimal m.line) (nanoseconds_text m.report.offset2) (signed_decimal m.report.offset2)
    (nanoseconds_text m.report.path2) (signed_decimal m.report.path2) (decimal m.report.sync_tag)
    (follow_text m.report.follow_tag) (decimal m.report.request_tag) (decimal m.report.response_tag) m.time

compact_is : (m : Measured) → IsWithinRange m → compact_text (measured_data m) ≡ front_of m ++ codes "\"}"
unfolding escape_byte
compact_is m h =
    let by = by_alone m.own m.by in
    let offset = escape_figures (nanoseconds_text m.report.offset2) (figures_nanoseconds m.report.offset2 h.offset) in
    let offset2 = escape_figures (signed_decimal m.report.offset2) (figures_signed m.report.offset2 h.offset) in
    let path = escape_figures (nanoseconds_text m.report.path2) (figures_nanoseconds m.report.path2 h.path) in
    let path2 = escape_figures (signed_decimal m.report.path2) (figures_signed m.report.path2 h.path) in
    let time = escape_figures m.time (figures_time m.time h.time) in
    (λ i. pieces (by i) (decimal m.line) (offset i) (offset2 i) (path i) (path2 i) (decimal m.report.sync_tag)
    (follow_is m.report.follow_tag i) (decimal m.report.request_tag) (decimal m.report.response_tag) (time i))
    ∙ same_pieces (by_text m.own m.by) (decimal m.line) (nanoseconds_text m.report.offset2) (signed_decimal m.report.offset2)
    (nanoseconds_text m.report.path2) (signed_decimal m.report.path2) (decimal m.report.sync_tag)
    (follow_text m.report.follow_tag) (decimal m.report.request_tag) (decimal m.report.response_tag) m.time

-- ---- in octets that are printed
pub record ArePrinted (text : List ℕ) : Type 0 where
  pub all : list_all is_printed text ≡ true

pub both : {xs ys : List ℕ} → ArePrinted xs → ArePrinted ys → ArePrinted (xs ++ ys)
both {xs} {ys} first second = record {
  all = list_all-append is_printed xs ys ∙ (λ i. first.all i && second.all i);
}

pub word : (text : List ℕ) → list_all is_printed text ≡ true → ArePrinted text
word text printed = record { all = printed }

pub by_printed : (own : Bool) (half : Half) → ArePrinted (by_text own half)
by_printed false Sync = word (by_text false Sync) refl
by_printed false Response = word (by_text false Response) refl
by_printed true Sync = word (by_text true Sync) refl
by_printed true Response = word (by_text true Response) refl

pub number_printed : (n : ℕ) → n < 2 ^ 64 → ArePrinted (decimal n)
number_printed n small = word (decimal n) (printed_figures (decimal n) (figures_decimal n (omega (arith, small))))

pub follow_printed : (tag : Option ℕ) → IfSome tag IsTag → ArePrinted (follow_text tag)
follow_printed None h = word (follow_text None) refl
follow_printed (Some tag) h = number_printed tag h

front_printed : (by line offset offset2 path path2 sync follow request response time : List ℕ)
    → ArePrinted by → ArePrinted line → ArePrinted offset → ArePrinted offset2 → ArePrinted path → ArePrinted path2 → ArePrinted sync → ArePrinted follow → ArePrinted request → ArePrinted response → ArePrinted time
    → ArePrinted (front by line offset offset2 path path2 sync follow request response time)
front_printed by line offset offset2 path path2 sync follow request response time b l o o2 p p2 s f q r t =
    both (both (both (both (both (both (both (both (both (both (both (both (both (both (both (both (both (both (both (both (both (word (codes "{\"by\":\"") refl) b) (word (codes "\",\"line\":") refl)) l) (word (codes ",\"offset\":\"") refl)) o) (word (codes "\",\"offset2\":\"") refl)) o2) (word (codes "\",\"path\":\"") refl)) p) (word (codes "\",\"path2\":\"") refl)) p2) (word (codes "\",\"tags\":[") refl)) s) (word (codes ",") refl)) f) (word (codes ",") refl)) q) (word (codes ",") refl)) r) (word (codes "],\"time\":\"") refl)) t

line_printed : (m : Measured) → IsWithinRange m → ArePrinted (front_of m ++ codes "\"}")
line_printed m h = both
    (front_printed (by_text m.own m.by) (decimal m.line) (nanoseconds_text m.report.offset2) (signed_decimal m.report.offset2)
    (nanoseconds_text m.report.path2) (signed_decimal m.report.path2) (decimal m.report.sync_tag)
    (follow_text m.report.follow_tag) (decimal m.report.request_tag) (decimal m.report.response_tag) m.time
    (by_printed m.own m.by) (number_printed m.line h.line)
    (word _ (printed_figures (nanoseconds_text m.report.offset2) (figures_nanoseconds m.report.offset2 h.offset)))
    (word _ (printed_figures (signed_decimal m.report.offset2) (figures_signed m.report.offset2 h.offset)))
    (word _ (printed_figures (nanoseconds_text m.report.path2) (figures_nanoseconds m.report.path2 h.path)))
    (word _ (printed_figures (signed_decimal m.report.path2) (figures_signed m.report.path2 h.path)))
    (number_printed m.report.sync_tag h.tags.sync) (follow_printed m.report.follow_tag h.tags.follow)
    (number_printed m.report.request_tag h.tags.request) (number_printed m.report.response_tag h.tags.response)
    (word _ (printed_figures m.time (figures_time m.time h.time)))) (word (codes "\"}") refl)

pub low : (x : ℕ) → is_printed x ≡ true → x < 128
low x printed =
    let parts : (nat_lt 31 x ≡ true) × (nat_lt x 127 ≡ true) = and_parts (nat_lt 31 x) (nat_lt x 127) printed in
    grind (arith, nat_tests, parts.1)

pub ascii : (text : List ℕ) → list_all is_printed text ≡ true → IsAscii text
ascii [] h = IsAscii-nil
ascii (x ∷ xs) h =
    let parts = and_parts (is_printed x) (list_all is_printed xs) h in
    IsAscii-cons x xs (low x parts.0) (ascii xs parts.1)

pub each_is_json : EachMeasurementIsJson
each_is_json m h =
    let line : List ℕ = front_of m ++ codes "\"}" in
    let printed = (line_printed m h).all in (
      line,
      sym (append_assoc (front_of m) (codes "\"}") (codes "\n")),
      printed,
      value_read line (measured_data m) (IsUtf8-from_ascii line (ascii line printed))
          (ap read (sym (compact_is m h)) ∙ read_back m h),
    )
