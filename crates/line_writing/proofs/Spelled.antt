-- The texts of lines, read again.
use Rattle.std.proofs.Common.{◌≡◌, ◌<◌, ◌≤◌, ℕ, length, zero, suc, true, nat_lt, List, [], ◌∷◌, Some, arith, refl}
use Rattle.std.specs.List.{list_all}
use Rattle.std.specs.Str.{IsAscii}
use Rattle.std.proofs.lemmas.Bool.{and_parts}
use Rattle.std.proofs.lemmas.Bool.Decides.{nat_tests}
use Rattle.std.proofs.lemmas.Str.{IsUtf8-from_ascii}
use Rattle.serde_json.specs.Data.{Data}
use Rattle.serde_json.specs.Read.{read}
use Rattle.serde_json.specs.Written.{compact_text}
use Rattle.ptp_units.specs.Moment.{bound}
use Rattle.network_model.specs.Name.{IsName}
use Rattle.network_model.specs.Run.{true_moment}
use Rattle.network_model.specs.Kinds.{named_master, named_difference, named_transit, named_copy}
use Rattle.network_model.specs.declared.event.Event.{Event}
use Rattle.schedule_lines.specs.declared.reading.schedule.Line.TheVariants as schedules
use Rattle.schedule_lines.specs.declared.reading.transcript.TranscriptLine.TheVariants as lines
use Rattle.schedule_lines.specs.Json.{value_in}
use Rattle.schedule_lines.specs.Written.{whole, moment_data, difference_data, scheduled_data}
use Rattle.serde_json.specs.Data.{string}
use Rattle.schedule_lines.specs.Ranges.{IsShort, IsTag}
use Rattle.schedule_lines.proofs.Compact.{IsReadable, AreReadableFields, read_object, text_readable, whole_readable}
use Rattle.schedule_lines.proofs.Compact.{field_readable, members_readable, members_ascending}
use Rattle.schedule_lines.proofs.Keys.{members_of, event_fields}
use Rattle.schedule_lines.proofs.LineTexts.{event_fits, node_fits, fits_event, shown_difference, shown_moment, shown_name}
use Rattle.schedule_lines.proofs.LineTexts.{shown_string, shown_whole}
use Rattle.schedule_lines.proofs.Lookup.{count_fields, members_len-members_of}
use Rattle.schedule_lines.proofs.Nodes.{nodes_back}
use Rattle.schedule_lines.proofs.Printed.{event_texts_back, node_texts_back, moment_readable}
use Rattle.schedule_lines.proofs.ReadBack.{always, reads_back, scheduled_reads_back}
use Rattle.schedule_lines.proofs.ShownTexts.{is_shown, Fits, AreShownFields, field_shown, fits_object, members_shown}
use Rattle.schedule_lines.proofs.Values.{value_read}
use Rattle.line_writing.specs.Spelled.{IsScheduled, LinesSpellThemselves}
use Rattle.line_writing.specs.Spelled.{TranscriptLinesSpellThemselves}

-- ---- octets that are shown are UTF-8

low : (x : ℕ) → is_shown x ≡ true → x < 127
low x shown =
    let parts : (nat_lt 31 x ≡ true) × (nat_lt x 127 ≡ true) = and_parts (nat_lt 31 x) (nat_lt x 127) shown in
    grind (arith, nat_tests, parts.1)

ascii : (text : List ℕ) → list_all is_shown text ≡ true → IsAscii text
ascii [] h zero = omega arith
ascii [] h (suc i) = omega arith
ascii (x ∷ xs) h zero = omega (arith, low x (and_parts (is_shown x) (list_all is_shown xs) h).0)
ascii (x ∷ xs) h (suc i) = ascii xs (and_parts (is_shown x) (list_all is_shown xs) h).1 i

value_of : (n : ℕ) (d : Data) → Fits n (compact_text d) → read (compact_text d) ≡ Some d → value_in (compact_text d) ≡ Some d
value_of n d fits is = value_read (compact_text d) d (IsUtf8-from_ascii (compact_text d) (ascii (compact_text d) fits.shown)) is

-- ---- an event of a schedule

tag_readable : (n : ℕ) → IsTag n → IsReadable (whole n)
tag_readable n small = whole_readable n small

scheduled_readable : (event : Event) → IsScheduled event → AreReadableFields (event_fields event [])
scheduled_readable event h = (
  field_readable moment_data (true_moment event) (λ time. time < bound) moment_readable h.in_range.moment,
  (
    field_readable whole (named_copy event) IsTag tag_readable h.copy,
    (
      field_readable difference_data (named_difference event) (λ _. Unit {0}) (λ z _. text_readable _) (always (named_difference event)),
      (
        text_readable _,
        (
          field_readable string (named_master event) (λ _. Unit {0}) (λ text _. text_readable text) (always (named_master event)),
          (
            text_readable _,
            (field_readable whole (named_transit event) IsTag tag_readable h.transit, tt),
          ),
        ),
      ),
    ),
  ),
)

scheduled_text_back : (event : Event) → IsScheduled event → read (compact_text (scheduled_data event)) ≡ Some (scheduled_data event)
scheduled_text_back event h =
    let fs = event_fields event [] in
    read_object (members_of fs) (members_readable fs (scheduled_readable event h)) (members_ascending fs)

pair : {A B : Type 0} → A → B → A × B
pair a b = (a, b)

scheduled_shown : (event : Event) → IsScheduled event → AreShownFields (event_fields event [])
scheduled_shown event h =
    pair (field_shown moment_data (true_moment event) (λ time. time < bound) shown_moment h.in_range.moment)
    (pair (field_shown whole (named_copy event) IsTag shown_whole h.copy)
    (pair (field_shown difference_data (named_difference event) IsShort shown_difference h.in_range.step)
    (pair (shown_string _ (fits_event event) (omega arith))
    (pair (field_shown string (named_master event) IsName shown_name h.in_range.master)
    (pair (shown_name _ h.in_range.node)
    (pair (field_shown whole (named_transit event) IsTag shown_whole h.transit) tt))))))

scheduled_fits : (event : Event) → IsScheduled event → Fits 4096 (compact_text (scheduled_data event))
scheduled_fits event h =
    let fs = event_fields event [] in
    let few : length fs ≤ 7 = omega arith in
    fits_object (members_of fs) (members_shown fs refl (scheduled_shown event h))
    (omega (arith, members_len-members_of fs refl, count_fields fs, few))

-- ---- lines

pub lines_back : LinesSpellThemselves
lines_back (schedules.Node node) h = (value_of 4096 _ (node_fits node h) (node_texts_back node h), (nodes_back node h).0)
lines_back (schedules.Event event) h =
    (value_of 4096 _ (scheduled_fits event h) (scheduled_text_back event h), scheduled_reads_back event h.in_range)

pub transcript_lines_back : TranscriptLinesSpellThemselves
transcript_lines_back (lines.Node node) h = (value_of 4096 _ (node_fits node h) (node_texts_back node h), (nodes_back node h).1)
transcript_lines_back (lines.Event n line) h =
    (value_of 4096 _ (event_fits n line h.0 h.1) (event_texts_back n line h.0 h.1), reads_back n line h.0)
