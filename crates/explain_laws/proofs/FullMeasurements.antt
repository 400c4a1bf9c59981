-- The JSON of a measurement with its exchange, read again.
use Rattle.std.proofs.Common.{◌≡◌, ◌∙◌, ℕ, ℤ, ◌<◌, ◌^◌, true, List, [], ◌∷◌, ◌++◌, codes, Some}
use Rattle.std.proofs.Common.{refl, ap, sym, arith, append_assoc}
use Rattle.std.specs.Fmt.{decimal, signed_decimal}
use Rattle.std.specs.List.{list_all}
use Rattle.std.proofs.lemmas.Str.{IsUtf8-from_ascii}
use Rattle.json.specs.Print.{escape_byte, escape}
use Rattle.serde_json.specs.Data.{string}
use Rattle.serde_json.specs.Read.{read}
use Rattle.serde_json.specs.Written.{compact_text}
use Rattle.ptp_units.specs.Nanoseconds.{nanoseconds_text}
use Rattle.slave_port.specs.declared.exchange.LastExchange.{LastExchange}
use Rattle.schedule_lines.specs.Written.{whole, tags_data}
use Rattle.schedule_lines.proofs.Compact.{AreReadableFields, read_object, text_readable, whole_readable}
use Rattle.schedule_lines.proofs.Compact.{members_readable, members_ascending}
use Rattle.schedule_lines.proofs.Keys.{Field, members_of}
use Rattle.schedule_lines.proofs.Values.{value_read}
use Rattle.recording_lines.specs.Measurement.{Measured, by_text, follow_text}
use Rattle.recording_measure.specs.Moment.{moment_text}
use Rattle.recording_measure.specs.Exchange.{json_results, json_times, sync_correction2, delay_correction2, between2}
use Rattle.explain_laws.specs.Measurements.{IsOf128Bits, IsWithinRange}
use Rattle.explain_laws.specs.FullMeasurements.{IsExchangeWithinRange, full_data, EachFullMeasurementIsJson}
use Rattle.explain_laws.proofs.Figures.{escape_figures, printed_figures, figures_signed, figures_nanoseconds, figures_time, figures_moment}
use Rattle.explain_laws.proofs.Figures.{is_figure}
use Rattle.explain_laws.proofs.Measurements.{tags_readable, by_alone, follow_is, ArePrinted, both, word, by_printed}
use Rattle.explain_laws.proofs.Measurements.{number_printed, follow_printed, ascii}

-- ---- the compact text of the value is read as the value
abbrev fields : Measured → LastExchange → List Field
fields m x =
    (codes "by", Some (string (by_text m.own m.by)))
    ∷ (codes "delay_correction", Some (string (nanoseconds_text (delay_correction2 x))))
    ∷ (codes "line", Some (whole m.line))
    ∷ (codes "offset", Some (string (nanoseconds_text m.report.offset2)))
    ∷ (codes "offset2", Some (string (signed_decimal m.report.offset2)))
    ∷ (codes "path", Some (string (nanoseconds_text m.report.path2)))
    ∷ (codes "path2", Some (string (signed_decimal m.report.path2)))
    ∷ (codes "request_number", Some (whole x.request_number.0))
    ∷ (codes "sync_correction", Some (string (nanoseconds_text (sync_correction2 x))))
    ∷ (codes "sync_number", Some (whole x.sync_number.0))
    ∷ (codes "t1", Some (string (moment_text x.t1)))
    ∷ (codes "t2", Some (string (moment_text x.t2)))
    ∷ (codes "t2_to_t3", Some (string (nanoseconds_text (between2 x))))
    ∷ (codes "t3", Some (string (moment_text x.t3)))
    ∷ (codes "t4", Some (string (moment_text x.t4)))
    ∷ (codes "tags", Some (tags_data m.report))
    ∷ (codes "time", Some (string m.time))
    ∷ []

wide : (n : ℕ) → n < 2 ^ 16 → n < 2 ^ 64
wide n small = omega (arith, small)

fields_readable : (m : Measured) (x : LastExchange) → IsWithinRange m → IsExchangeWithinRange x → AreReadableFields (fields m x)
fields_readable m x h k = (
  text_readable _,
  (
    text_readable _,
    (
      whole_readable m.line h.line,
      (
        text_readable _,
        (
          text_readable _,
          (
            text_readable _,
            (
              text_readable _,
              (
                whole_readable x.request_number.0 (wide _ k.request_number),
                (
                  text_readable _,
                  (
                    whole_readable x.sync_number.0 (wide _ k.sync_number),
                    (
                      text_readable _,
                      (
                        text_readable _,
                        (
                          text_readable _,
                          (
                            text_readable _,
                            (
                              text_readable _,
                              (
                                tags_readable m.report h.tags,
                                (text_readable _, tt),
                              ),
                            ),
                          ),
                        ),
                      ),
                    ),
                  ),
                ),
              ),
            ),
          ),
        ),
      ),
    ),
  ),
)

read_back : (m : Measured) (x : LastExchange) → IsWithinRange m → IsExchangeWithinRange x
    → read (compact_text (full_data m x)) ≡ Some (full_data m x)
read_back m x h k =
    read_object (members_of (fields m x)) (members_readable (fields m x) (fields_readable m x h k)) (members_ascending (fields m x))

-- ---- which is what is written: the pieces of the text as a value's, by the texts of its members, and as they are written
abbrev results_pieces : (by delay line offset offset2 path path2 number sync own rest : List ℕ) → List ℕ
results_pieces by delay line offset offset2 path path2 number sync own rest =
    codes "{\"by\":" ++ ((34 ∷ (by ++ 34 ∷ []))
    ++ (codes ",\"delay_correction\":" ++ ((34 ∷ (delay ++ 34 ∷ []))
    ++ (codes ",\"line\":" ++ (line
    ++ (codes ",\"offset\":" ++ ((34 ∷ (offset ++ 34 ∷ []))
    ++ (codes ",\"offset2\":" ++ ((34 ∷ (offset2 ++ 34 ∷ []))
    ++ (codes ",\"path\":" ++ ((34 ∷ (path ++ 34 ∷ []))
    ++ (codes ",\"path2\":" ++ ((34 ∷ (path2 ++ 34 ∷ []))
    ++ (codes ",\"request_number\":" ++ (number
    ++ (codes ",\"sync_correction\":" ++ ((34 ∷ (sync ++ 34 ∷ []))
    ++ (codes ",\"sync_number\":" ++ (own
    ++ rest)))))))))))))))))))

abbrev results_front : (by delay line offset offset2 path path2 number sync own : List ℕ) → List ℕ
results_front by delay line offset offset2 path path2 number sync own =
    codes "{\"by\":\"" ++ by
    ++ codes "\",\"delay_correction\":\"" ++ delay
    ++ codes "\",\"line\":" ++ line
    ++ codes ",\"offset\":\"" ++ offset
    ++ codes "\",\"offset2\":\"" ++ offset2
    ++ codes "\",\"path\":\"" ++ path
    ++ codes "\",\"path2\":\"" ++ path2
    ++ codes "\",\"request_number\":" ++ number
    ++ codes ",\"sync_correction\":\"" ++ sync
    ++ codes "\",\"sync_number\":" ++ own

same_results : (by delay line offset offset2 path path2 number sync own rest : List ℕ)
    → results_pieces by delay line offset offset2 path path2 number sync own rest ≡ results_front by delay line offset offset2 path path2 number sync own ++ rest
same_results by delay line offset offset2 path path2 number sync own rest = simp append_assoc

abbrev times_pieces : (t1 t2 between t3 t4 rest : List ℕ) → List ℕ
times_pieces t1 t2 between t3 t4 rest =
    codes ",\"t1\":" ++ ((34 ∷ (t1 ++ 34 ∷ []))
    ++ (codes ",\"t2\":" ++ ((34 ∷ (t2 ++ 34 ∷ []))
    ++ (codes ",\"t2_to_t3\":" ++ ((34 ∷ (between ++ 34 ∷ []))
    ++ (codes ",\"t3\":" ++ ((34 ∷ (t3 ++ 34 ∷ []))
    ++ (codes ",\"t4\":" ++ ((34 ∷ (t4 ++ 34 ∷ []))
    ++ rest)))))))))

abbrev times_front : (t1 t2 between t3 t4 : List ℕ) → List ℕ
times_front t1 t2 between t3 t4 =
    codes ",\"t1\":\"" ++ t1
    ++ codes "\",\"t2\":\"" ++ t2
    ++ codes "\",\"t2_to_t3\":\"" ++ between
    ++ codes "\",\"t3\":\"" ++ t3
    ++ codes "\",\"t4\":\"" ++ t4
    ++ codes "\""

same_times : (t1 t2 between t3 t4 rest : List ℕ) → times_pieces t1 t2 between t3 t4 rest ≡ times_front t1 t2 between t3 t4 ++ rest
same_times t1 t2 between t3 t4 rest = simp append_assoc

abbrev tags_pieces : (sync follow request response time : List ℕ) → List ℕ
tags_pieces sync follow request response time =
    codes ",\"tags\":" ++ ((91 ∷ (sync ++ (44 ∷ (follow ++ (44 ∷ (request ++ (44 ∷ (response ++ 93 ∷ []))))))))
    ++ (codes ",\"time\":" ++ ((34 ∷ (time ++ 34 ∷ [])) ++ codes "}")))

abbrev tags_front : (sync follow request response time : List ℕ) → List ℕ
tags_front sync follow request response time =
    codes ",\"tags\":[" ++ sync
    ++ codes "," ++ follow
    ++ codes "," ++ request
    ++ codes "," ++ response
    ++ codes "],\"time\":\"" ++ time

same_tags : (sync follow request response time : List ℕ)
    → tags_pieces sync follow request response time ≡ tags_front sync follow request response time ++ codes "\"}"
same_tags sync follow request response time = simp append_assoc

abbrev tags_of : Measured → List ℕ
tags_of m = tags_front (decimal m.report.sync_tag) (follow_text m.report.follow_tag) (decimal m.report.request_tag)
    (decimal m.report.response_tag) m.time

abbrev line_of : Measured → LastExchange → List ℕ
line_of m x = json_results m x ++ (json_times x ++ (tags_of m ++ codes "\"}"))

quoted : (z : ℤ) → IsOf128Bits z → escape (nanoseconds_text z) ≡ nanoseconds_text z
quoted z small = escape_figures (nanoseconds_text z) (figures_nanoseconds z small)

moment_alone : (time : ℕ) → list_all is_figure (moment_text time) ≡ true → escape (moment_text time) ≡ moment_text time
moment_alone time figures = escape_figures (moment_text time) figures

compact_is : (m : Measured) (x : LastExchange) → IsWithinRange m → IsExchangeWithinRange x → compact_text (full_data m x) ≡ line_of m x
unfolding escape_byte
compact_is m x h k =
    let by = by_alone m.own m.by in
    let delay = quoted (delay_correction2 x) k.delay_correction in
    let offset = quoted m.report.offset2 h.offset in
    let offset2 = escape_figures (signed_decimal m.report.offset2) (figures_signed m.report.offset2 h.offset) in
    let path = quoted m.report.path2 h.path in
    let path2 = escape_figures (signed_decimal m.report.path2) (figures_signed m.report.path2 h.path) in
    let sync = quoted (sync_correction2 x) k.sync_correction in
    let t1 = moment_alone x.t1 (figures_moment x.t1 k.t1) in
    let t2 = moment_alone x.t2 (figures_moment x.t2 k.t2) in
    let between = quoted (between2 x) k.between in
    let t3 = moment_alone x.t3 (figures_moment x.t3 k.t3) in
    let t4 = moment_alone x.t4 (figures_moment x.t4 k.t4) in
    let time = escape_figures m.time (figures_time m.time h.time) in
    let tags : List ℕ = tags_of m ++ codes "\"}" in
    let times : List ℕ = json_times x ++ tags in
    (λ i. results_pieces (by i) (delay i) (decimal m.line) (offset i) (offset2 i) (path i) (path2 i) (decimal x.request_number.0) (sync i)
    (decimal x.sync_number.0)
    (times_pieces (t1 i) (t2 i) (between i) (t3 i) (t4 i)
    (tags_pieces (decimal m.report.sync_tag) (follow_is m.report.follow_tag i) (decimal m.report.request_tag)
    (decimal m.report.response_tag) (time i))))
    ∙ ap (λ (r : List ℕ). results_pieces (by_text m.own m.by) (nanoseconds_text (delay_correction2 x)) (decimal m.line)
    (nanoseconds_text m.report.offset2) (signed_decimal m.report.offset2) (nanoseconds_text m.report.path2)
    (signed_decimal m.report.path2) (decimal x.request_number.0) (nanoseconds_text (sync_correction2 x)) (decimal x.sync_number.0)
    (times_pieces (moment_text x.t1) (moment_text x.t2) (nanoseconds_text (between2 x)) (moment_text x.t3) (moment_text x.t4) r))
    (same_tags (decimal m.report.sync_tag) (follow_text m.report.follow_tag) (decimal m.report.request_tag)
    (decimal m.report.response_tag) m.time)
    ∙ ap (results_pieces (by_text m.own m.by) (nanoseconds_text (delay_correction2 x)) (decimal m.line)
    (nanoseconds_text m.report.offset2) (signed_decimal m.report.offset2) (nanoseconds_text m.report.path2)
    (signed_decimal m.report.path2) (decimal x.request_number.0) (nanoseconds_text (sync_correction2 x)) (decimal x.sync_number.0))
    (same_times (moment_text x.t1) (moment_text x.t2) (nanoseconds_text (between2 x)) (moment_text x.t3) (moment_text x.t4) tags)
    ∙ same_results (by_text m.own m.by) (nanoseconds_text (delay_correction2 x)) (decimal m.line)
    (nanoseconds_text m.report.offset2) (signed_decimal m.report.offset2) (nanoseconds_text m.report.path2)
    (signed_decimal m.report.path2) (decimal x.request_number.0) (nanoseconds_text (sync_correction2 x)) (decimal x.sync_number.0) times

-- ---- in octets that are printed
results_printed : (by delay line offset offset2 path path2 number sync own : List ℕ)
    → ArePrinted by → ArePrinted delay → ArePrinted line → ArePrinted offset → ArePrinted offset2 → ArePrinted path → ArePrinted path2 → ArePrinted number → ArePrinted sync → ArePrinted own
    → ArePrinted (results_front by delay line offset offset2 path path2 number sync own)
results_printed by delay line offset offset2 path path2 number sync own by_is delay_is line_is offset_is offset2_is path_is path2_is number_is sync_is own_is =
    both (both (both (both (both (both (both (both (both (both (both (both (both (both (both (both (both (both (both (word (codes "{\"by\":\"") refl) by_is) (word (codes "\",\"delay_correction\":\"") refl)) delay_is) (word (codes "\",\"line\":") refl)) line_is) (word (codes ",\"offset\":\"") refl)) offset_is) (word (codes "\",\"offset2\":\"") refl)) offset2_is) (word (codes "\",\"path\":\"") refl)) path_is) (word (codes "\",\"path2\":\"") refl)) path2_is) (word (codes "\",\"request_number\":") refl)) number_is) (word (codes ",\"sync_correction\":\"") refl)) sync_is) (word (codes "\",\"sync_number\":") refl)) own_is

times_printed : (t1 t2 between t3 t4 : List ℕ)
    → ArePrinted t1 → ArePrinted t2 → ArePrinted between → ArePrinted t3 → ArePrinted t4
    → ArePrinted (times_front t1 t2 between t3 t4)
times_printed t1 t2 between t3 t4 t1_is t2_is between_is t3_is t4_is =
    both (both (both (both (both (both (both (both (both (both (word (codes ",\"t1\":\"") refl) t1_is) (word (codes "\",\"t2\":\"") refl)) t2_is) (word (codes "\",\"t2_to_t3\":\"") refl)) between_is) (word (codes "\",\"t3\":\"") refl)) t3_is) (word (codes "\",\"t4\":\"") refl)) t4_is) (word (codes "\"") refl)

tags_printed : (sync follow request response time : List ℕ)
    → ArePrinted sync → ArePrinted follow → ArePrinted request → ArePrinted response → ArePrinted time
    → ArePrinted (tags_front sync follow request response time)
tags_printed sync follow request response time s f q r t =
    both (both (both (both (both (both (both (both (both (word (codes ",\"tags\":[") refl) s) (word (codes ",") refl)) f) (word (codes ",") refl)) q) (word (codes ",") refl)) r) (word (codes "],\"time\":\"") refl)) t

nanoseconds_printed : (z : ℤ) → IsOf128Bits z → ArePrinted (nanoseconds_text z)
nanoseconds_printed z small = word _ (printed_figures (nanoseconds_text z) (figures_nanoseconds z small))

signed_printed : (z : ℤ) → IsOf128Bits z → ArePrinted (signed_decimal z)
signed_printed z small = word _ (printed_figures (signed_decimal z) (figures_signed z small))

moment_printed : (time : ℕ) → list_all is_figure (moment_text time) ≡ true → ArePrinted (moment_text time)
moment_printed time figures = word _ (printed_figures (moment_text time) figures)

line_printed : (m : Measured) (x : LastExchange) → IsWithinRange m → IsExchangeWithinRange x → ArePrinted (line_of m x)
line_printed m x h k =
    both (results_printed _ _ _ _ _ _ _ _ _ _ (by_printed m.own m.by) (nanoseconds_printed (delay_correction2 x) k.delay_correction)
    (number_printed m.line h.line) (nanoseconds_printed m.report.offset2 h.offset) (signed_printed m.report.offset2 h.offset)
    (nanoseconds_printed m.report.path2 h.path) (signed_printed m.report.path2 h.path)
    (number_printed x.request_number.0 (wide _ k.request_number)) (nanoseconds_printed (sync_correction2 x) k.sync_correction)
    (number_printed x.sync_number.0 (wide _ k.sync_number)))
    (both (times_printed _ _ _ _ _ (moment_printed x.t1 (figures_moment x.t1 k.t1)) (moment_printed x.t2 (figures_moment x.t2 k.t2))
    (nanoseconds_printed (between2 x) k.between) (moment_printed x.t3 (figures_moment x.t3 k.t3))
    (moment_printed x.t4 (figures_moment x.t4 k.t4)))
    (both (tags_printed _ _ _ _ _ (number_printed m.report.sync_tag h.tags.sync) (follow_printed m.report.follow_tag h.tags.follow)
    (number_printed m.report.request_tag h.tags.request) (number_printed m.report.response_tag h.tags.response)
    (word _ (printed_figures m.time (figures_time m.time h.time)))) (word (codes "\"}") refl)))

ended : (r t g q n : List ℕ) → r ++ (t ++ (g ++ (q ++ n))) ≡ (r ++ (t ++ (g ++ q))) ++ n
ended r t g q n = sym (append_assoc r (t ++ (g ++ q)) n
    ∙ ap (λ (s : List ℕ). r ++ s) (append_assoc t (g ++ q) n ∙ ap (λ (s : List ℕ). t ++ s) (append_assoc g q n)))

pub each_is_json : EachFullMeasurementIsJson
each_is_json m x h k =
    let line : List ℕ = line_of m x in
    let printed = (line_printed m x h k).all in (
      line,
      ended (json_results m x) (json_times x) (tags_of m) (codes "\"}") (codes "\n"),
      printed,
      value_read line (full_data m x) (IsUtf8-from_ascii line (ascii line printed))
          (ap read (sym (compact_is m x h k)) ∙ read_back m x h k),
    )
