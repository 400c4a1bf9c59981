-- What is written of lines is the texts of reports that are exact.
use Rattle.std.proofs.Common.{◌≡◌, ◌∙◌, ◌≤◌, ◌+◌, ℕ, suc, Bool, true, false, List, [], ◌∷◌, ◌++◌, length}
use Rattle.std.proofs.Common.{Option, Some, None}
use Rattle.std.proofs.Common.{sym, ap, arith}
use Rattle.std.specs.Prelude.{⊤, not, nat_le, if◌then◌else◌, option_map, option_to_list}
use Rattle.std.specs.List.{All}
use Rattle.std.specs.Option.{option_map_or}
use Rattle.std.proofs.lemmas.List.{length-map}
use Rattle.std.proofs.lemmas.List.Elements.{All-nil, All-cons, All-head, All-tail}
use Rattle.slave_port.specs.declared.heard.Report.{Report}
use Rattle.recording_model.specs.declared.watched.Watched.{Watched}
use Rattle.recording_model.specs.Recorded.{Recorded}
use Rattle.recording_model.specs.Listening.{reports, report_at}
use Rattle.recording_model.specs.Told.{AreNumbered}
use Rattle.recording_model.specs.Exact.{IsExact, EachReportIsExact}
use Rattle.recording_measure.specs.Made.{Measured}
use Rattle.recording_measure.specs.declared.form.Form.{Form}
use Rattle.recording_measure.specs.declared.watch.WantedPorts.{WantedPorts}
use Rattle.recording_measure.specs.Watch.{watched_in}
use Rattle.recording_measure.specs.Row.{Row, datagrams, is_known, heard, kept_most}
use Rattle.recording_measure.specs.Measured.{texts_as, measurements, written}
use Rattle.recording_measure.specs.Places.{PlacedRow}
use Rattle.recording_measure.specs.Measure.{Recording, begun}
use Rattle.datagram_source.specs.Rules.{LinesRead, nothing_read}
use Rattle.recording_laws.specs.Alone.{rows_of}
use Rattle.recording_laws.proofs.Alone.{lines_written}
use Rattle.recording_laws.proofs.LinesRead as lines
use Rattle.recording_laws.proofs.LinesRead.{IsReadOn, begun_of_lines, begun_nameless, read_on}
use Rattle.recording_laws.specs.Exact.{EachMeasurementIsExact}

-- one more report, or none
all_with : (P : Report → Type 0) (report : Option Report) (rest : List Report) (make : Report → Measured)
    (ms : List Measured) → ((r : Report) → P r → P (make r).report)
    → (All P rest → All (λ m. P m.report) ms) → All P (option_to_list report ++ rest)
    → All (λ m. P m.report) (option_to_list (option_map make report) ++ ms)
all_with P (Some r) rest make ms same others all =
    All-cons (λ m. P m.report) (make r) ms (same r (All-head P r rest all)) (others (All-tail P r rest all))
all_with P None rest make ms same others all = others all

-- what holds of all reports holds of those that are measured
pub all_measured : (P : Report → Type 0) (watched : Watched) (rows : List Row)
    → All P (reports watched (datagrams rows)) → All (λ m. P m.report) (measurements watched rows)
all_measured P watched [] all = All-nil (λ m. P m.report)
all_measured P watched (row ∷ earlier) all = all_with P (report_at watched (datagrams earlier) row.datagram) _ _ _
    (λ r holds. holds) (all_measured P watched earlier) all

-- the newest of these has no greater number
abbrev IsUpTo : ℕ → List Recorded → Type 0
IsUpTo n [] = ⊤
IsUpTo n (d ∷ ds) = d.line ≤ n

numbered_more : (n : ℕ) (d : Recorded) (ds : List Recorded) → AreNumbered ds → IsUpTo n ds → d.line ≡ n + 1
    → AreNumbered (d ∷ ds) × IsUpTo (suc n) (d ∷ ds)
numbered_more n d [] numbered upto is = (tt, omega (arith, is))
numbered_more n d (before ∷ ds) numbered upto is = ((omega (arith, is, upto), numbered), omega (arith, is))

-- rows have the numbers of lines from 1 on
abbrev AreCounted : List Row → Type 0
AreCounted [] = ⊤
AreCounted (row ∷ rows) = (row.datagram.line ≡ length rows + 1) × AreCounted rows

counted_rows : (rows : List PlacedRow) → lines.AreCounted rows → AreCounted (rows_of rows)
counted_rows [] counted = tt
counted_rows (r ∷ rows) counted =
    (counted.0 ∙ ap (λ (n : ℕ). n + 1) (sym (length-map rows (λ (r : PlacedRow). r.row))), counted_rows rows counted.1)

rows_numbered : (rows : List Row) → AreCounted rows
    → AreNumbered (datagrams rows) × IsUpTo (length rows) (datagrams rows)
rows_numbered [] counted = (tt, tt)
rows_numbered (row ∷ rows) counted =
    let (numbered, upto) = rows_numbered rows counted.1 in
    numbered_more (length rows) row.datagram (datagrams rows) numbered upto counted.0

heard_by : (n : ℕ) (row : Row) (heard earlier : List Row) (known now few : Bool)
    → AreNumbered (datagrams (row ∷ heard)) × IsUpTo n (datagrams (row ∷ heard))
    → AreNumbered (datagrams (row ∷ earlier)) × IsUpTo n (datagrams (row ∷ earlier))
    → let those = if known then row ∷ heard else if not now then [] else if few then row ∷ earlier else row ∷ [] in
    AreNumbered (datagrams those) × IsUpTo n (datagrams those)
heard_by n row heard earlier true now few more all = more
heard_by n row heard earlier false false few more all = (tt, tt)
heard_by n row heard earlier false true true more all = all
heard_by n row heard earlier false true false more all = (tt, all.1)

-- so the lines that are heard are numbered
pub heard_numbered : (w : WantedPorts) (rows : List Row) → AreCounted rows
    → AreNumbered (datagrams (heard w rows)) × IsUpTo (length rows) (datagrams (heard w rows))
heard_numbered w [] counted = (tt, tt)
heard_numbered w (row ∷ rows) counted =
    let before = heard_numbered w rows counted.1 in
    heard_by (suc (length rows)) row (heard w rows) rows (is_known w rows) (is_known w (row ∷ rows))
    (nat_le (length (row ∷ rows)) kept_most)
    (numbered_more (length rows) row.datagram (datagrams (heard w rows)) before.0 before.1 counted.0)
    (rows_numbered (row ∷ rows) counted)

-- what was written of lines whose watch is known
written_exactly : (form : Form) (wanted : WantedPorts) (w : Watched) (read : LinesRead Recording) (text : List ℕ)
    → IsReadOn (nothing_read (begun form wanted)) read text → watched_in wanted (datagrams (rows_of read.state.rows)) ≡ Some w
    → text ≡ texts_as form (measurements w (heard wanted (rows_of read.state.rows)))
written_exactly form wanted w read text on known =
    sym on.written
    ∙ lines_written read.state.form read.state.wanted read.state.rows (on.nameless begun_nameless)
    ∙ (λ i. written (on.form i) (on.wanted i) (rows_of read.state.rows))
    ∙ ap (λ (o : Option Watched). texts_as form (option_map_or (λ v. measurements v (heard wanted (rows_of read.state.rows))) o [])) known

pub each_measurement : EachReportIsExact → EachMeasurementIsExact
each_measurement each_report network run slave master w moved form wanted lines read text accepted watches taken captured known tells
    fresh ticked missing =
    let on = read_on 1 lines (nothing_read (begun form wanted)) read text taken in
    let those = heard wanted (rows_of read.state.rows) in record {
      written = written_exactly form wanted w read text on known;
      exact = all_measured (IsExact master tells) w those
          (each_report network run slave master w moved (datagrams those) accepted watches tells (record {
            numbered = (heard_numbered wanted (rows_of read.state.rows)
                (counted_rows read.state.rows (on.lines captured (begun_of_lines form wanted)).counted)).0;
            fresh = fresh;
            ticked = ticked;
            missing = missing;
          }));
    }
