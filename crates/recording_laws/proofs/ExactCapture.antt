-- What is written of the packets of a capture is the texts of reports that are exact.
use Rattle.std.proofs.Common.{◌≡◌, ◌∙◌, ℕ, ◌-◌, ◌≤◌, nat_le, Bool, true, false, List, [], ◌∷◌, length}
use Rattle.std.proofs.Common.{Option, Some, None, sym, ap, arith}
use Rattle.std.specs.Prelude.{⊤, if◌then◌else◌}
use Rattle.std.specs.Option.{option_map_or}
use Rattle.recording_model.specs.declared.watched.Watched.{Watched}
use Rattle.recording_model.specs.Told.{AreNumbered}
use Rattle.recording_model.specs.Exact.{IsExact, EachReportIsExact}
use Rattle.recording_measure.specs.declared.form.Form.{Form}
use Rattle.recording_measure.specs.declared.watch.WantedPorts.{WantedPorts}
use Rattle.recording_measure.specs.Row.{Row, datagrams, kept_most}
use Rattle.recording_measure.specs.Measured.{texts_as, measurements}
use Rattle.recording_measure.specs.Places.{PlaceName, PlacedRow, is_same_place, rows_at}
use Rattle.recording_measure.specs.Chosen.{chosen, heard_with, heard_at, input_watched, input_written}
use Rattle.recording_measure.specs.Measure.{Recording, begun}
use Rattle.recording_laws.proofs.PacketsRead.{ArePackets, HasReadOn, read_on}
use Rattle.recording_laws.specs.ExactCapture.{EachMeasurementOfACaptureIsExact}
use Rattle.recording_laws.proofs.Exact.{all_measured}

-- ---- the numbers of rows rise
abbrev AreRising : (most : ℕ) → List Row → Type 0
AreRising most [] = ⊤
AreRising most (row ∷ rows) = (row.datagram.line ≤ most) × (1 ≤ row.datagram.line) × AreRising (row.datagram.line - 1) rows

rising_more : (n m : ℕ) (rows : List Row) → n ≤ m → AreRising n rows → AreRising m rows
rising_more n m [] less rising = tt
rising_more n m (row ∷ rows) less rising = (omega (arith, less, rising.0), rising.1, rising.2)

rising_if : (n : ℕ) (row : Row) (rows : List Row) (same : Bool) → row.datagram.line ≤ n → 1 ≤ row.datagram.line
    → AreRising (row.datagram.line - 1) rows → AreRising n (if same then row ∷ rows else rows)
rising_if n row rows true most least rising = (most, least, rising)
rising_if n row rows false most least rising = rising_more (row.datagram.line - 1) n rows (omega (arith, most, least)) rising

rows_rising : (n : ℕ) (place : PlaceName) (rows : List PlacedRow) → ArePackets n rows → AreRising n (rows_at place rows)
rows_rising n place [] rising = tt
rows_rising n place (r ∷ rows) rising =
    rising_if n r.row (rows_at place rows) (is_same_place place r.place) rising.0 rising.1
    (rows_rising (r.row.datagram.line - 1) place rows rising.2)

few_rising : (n : ℕ) (row : Row) (rows : List Row) (few : Bool) → row.datagram.line ≤ n → 1 ≤ row.datagram.line → AreRising n rows
    → AreRising n (if few then rows else row ∷ [])
few_rising n row rows true most least rising = rising
few_rising n row rows false most least rising = (most, least, tt)

with_rising : (n : ℕ) (before now : Option PlaceName) (r : PlacedRow) (rows : List PlacedRow) (heard : List Row)
    → ArePackets n (r ∷ rows) → AreRising (r.row.datagram.line - 1) heard → AreRising n (heard_with before now r rows heard)
with_rising n (Some place) now r rows heard rising those =
    rising_if n r.row heard (is_same_place place r.place) rising.0 rising.1 those
with_rising n None None r rows heard rising those = tt
with_rising n None (Some place) r rows heard rising those =
    few_rising n r.row (rows_at place (r ∷ rows)) (nat_le (length (r ∷ rows)) kept_most) rising.0 rising.1
    (rows_rising n place (r ∷ rows) rising)

heard_rising : (n : ℕ) (w : WantedPorts) (rows : List PlacedRow) → ArePackets n rows → AreRising n (heard_at w rows)
heard_rising n w [] rising = tt
heard_rising n w (r ∷ rows) rising =
    with_rising n (chosen w rows) (chosen w (r ∷ rows)) r rows (heard_at w rows) rising
    (heard_rising (r.row.datagram.line - 1) w rows rising.2)

numbered : (n : ℕ) (rows : List Row) → AreRising n rows → AreNumbered (datagrams rows)
numbered n [] rising = tt
numbered n (row ∷ []) rising = tt
numbered n (row ∷ before ∷ rows) rising =
    (omega (arith, rising.1, rising.2.0), numbered (row.datagram.line - 1) (before ∷ rows) rising.2)

written_exactly : (form : Form) (wanted : WantedPorts) (w : Watched) (read : Recording) (text : List ℕ) (most : ℕ)
    → HasReadOn (begun form wanted) read text most → input_watched wanted read.rows ≡ Some w
    → text ≡ texts_as form (measurements w (heard_at wanted read.rows))
written_exactly form wanted w read text most on known =
    sym on.written
    ∙ (λ i. input_written (on.form i) (on.wanted i) read.rows)
    ∙ ap (λ (o : Option Watched). texts_as form (option_map_or (λ v. measurements v (heard_at wanted read.rows)) o [])) known

pub each_measurement : EachReportIsExact → EachMeasurementOfACaptureIsExact
each_measurement each_report network run slave master w moved form wanted packets read text accepted watches taken captured known tells
    fresh ticked missing =
    let on = read_on form wanted packets read text taken in
    let those = heard_at wanted read.rows in record {
      written = written_exactly form wanted w read text (length packets) on known;
      exact = all_measured (IsExact master tells) w those
          (each_report network run slave master w moved (datagrams those) accepted watches tells (record {
            numbered = numbered (length packets) those (heard_rising (length packets) wanted read.rows (on.rising captured));
            fresh = fresh;
            ticked = ticked;
            missing = missing;
          }));
    }
