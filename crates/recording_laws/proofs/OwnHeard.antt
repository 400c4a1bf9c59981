-- What holds of all rows holds of those that are heard, and what is measured at rows that are all own ones is own.
use Rattle.std.proofs.Common.{◌≡◌, ◌∙◌, Bool, true, false, List, [], ◌∷◌, ◌++◌, length, Option, Some, None, refl, sym, ap}
use Rattle.std.specs.Prelude.{if◌then◌else◌, nat_le, option_map, option_to_list}
use Rattle.std.specs.List.{All}
use Rattle.std.specs.Option.{option_map_or}
use Rattle.std.proofs.lemmas.List.Elements.{All-nil, All-cons, All-head, All-tail}
use Rattle.slave_port.specs.declared.heard.Report.{Report}
use Rattle.recording_model.specs.declared.watched.Watched.{Watched}
use Rattle.recording_model.specs.Listening.{report_at}
use Rattle.recording_measure.specs.declared.watch.WantedPorts.{WantedPorts}
use Rattle.recording_measure.specs.Chosen.{chosen, heard_with, heard_at, input_watched}
use Rattle.recording_measure.specs.Made.{Measured}
use Rattle.recording_measure.specs.Measured.{measured_at, measurements}
use Rattle.recording_measure.specs.Measure.{Recording, measured_so_far}
use Rattle.recording_measure.specs.Places.{PlaceName, PlacedRow, is_same_place, rows_at}
use Rattle.recording_measure.specs.Row.{Row, datagrams, kept_most}
use Rattle.recording_laws.proofs.Exchanged.{made_with}

module _ (P : Row → Type 0) where
  abbrev IsPlaced : PlacedRow → Type 0
  IsPlaced r = P r.row

  all_if : (same : Bool) (row : Row) (rows : List Row) → P row → All P rows → All P (if same then row ∷ rows else rows)
  all_if true row rows is all = All-cons P row rows is all
  all_if false row rows is all = all

  all_at : (place : PlaceName) (rows : List PlacedRow) → All IsPlaced rows → All P (rows_at place rows)
  all_at place [] all = All-nil P
  all_at place (r ∷ rows) all = all_if (is_same_place place r.place) r.row (rows_at place rows) (All-head IsPlaced r rows all)
      (all_at place rows (All-tail IsPlaced r rows all))

  all_few : (few : Bool) (row : Row) (rows : List Row) → P row → All P rows → All P (if few then rows else row ∷ [])
  all_few true row rows is all = all
  all_few false row rows is all = All-cons P row [] is (All-nil P)

  all_with : (before now : Option PlaceName) (r : PlacedRow) (earlier : List PlacedRow) (heard : List Row) → All IsPlaced (r ∷ earlier)
      → All P heard → All P (heard_with before now r earlier heard)
  all_with (Some place) now r earlier heard all those =
      all_if (is_same_place place r.place) r.row heard (All-head IsPlaced r earlier all) those
  all_with None None r earlier heard all those = All-nil P
  all_with None (Some place) r earlier heard all those =
      all_few (nat_le (length (r ∷ earlier)) kept_most) r.row (rows_at place (r ∷ earlier)) (All-head IsPlaced r earlier all)
      (all_at place (r ∷ earlier) all)

  pub all_heard : (w : WantedPorts) (rows : List PlacedRow) → All IsPlaced rows → All P (heard_at w rows)
  all_heard w [] all = All-nil P
  all_heard w (r ∷ rows) all = all_with (chosen w rows) (chosen w (r ∷ rows)) r rows (heard_at w rows) all
      (all_heard w rows (All-tail IsPlaced r rows all))

-- ---- what is measured
-- what holds of what is measured at each row, after those before it, holds of all that is measured
module _ (w : Watched) (P : Row → Type 0) (M : Measured → Type 0)
    (each : (earlier : List Row) (row : Row) (m : Measured) → All P (row ∷ earlier) → measured_at w earlier row ≡ Some m → M m) where
  one_more : (o : Option Measured) (ms : List Measured) → ((m : Measured) → o ≡ Some m → M m) → All M ms → All M (option_to_list o ++ ms)
  one_more None ms is all = all
  one_more (Some m) ms is all = All-cons M m ms (is m refl) all

  pub all_measured : (rows : List Row) → All P rows → All M (measurements w rows)
  all_measured [] all = All-nil M
  all_measured (row ∷ rows) all = one_more (measured_at w rows row) (measurements w rows)
      (λ m is. each rows row m all is) (all_measured rows (All-tail P row rows all))

-- the same of all that an input has
pub all_so_far : (P : Row → Type 0) (M : Watched → Measured → Type 0) (r : Recording)
    → ((w : Watched) (earlier : List Row) (row : Row) (m : Measured) → input_watched r.wanted r.rows ≡ Some w → All P (row ∷ earlier)
    → measured_at w earlier row ≡ Some m → M w m)
    → All (λ x. P x.row) r.rows → (N : Measured → Type 0) → (onward : (w : Watched) (m : Measured) → input_watched r.wanted r.rows ≡ Some w → M w m → N m)
    → All N (measured_so_far r)
all_so_far P M r each rows N onward = by (input_watched r.wanted r.rows) refl
  where
    by : (o : Option Watched) → input_watched r.wanted r.rows ≡ o
        → All N (option_map_or (λ watched. measurements watched (heard_at r.wanted r.rows)) o [])
    by None is = All-nil N
    by (Some w) is = all_measured w P N
        (λ earlier row m all measured. onward w m is (each w earlier row m is all measured))
        (heard_at r.wanted r.rows) (all_heard P r.wanted r.rows rows)

-- what is measured at a row is as the row is
own_measured : (w : Watched) (earlier : List Row) (row : Row) (m : Measured) (report : Option Report)
    → option_map (made_with w earlier row) report ≡ Some m → m.own ≡ row.own
own_measured w earlier row m None is = absurd cc
own_measured w earlier row m (Some report) is =
    let same : made_with w earlier row report ≡ m = cc in ap (λ (x : Measured). x.own) (sym same)

pub own_alone : (r : Recording) (own : Bool) → All (λ x. x.row.own ≡ own) r.rows → All (λ m. m.own ≡ own) (measured_so_far r)
own_alone r own rows = all_so_far (λ row. row.own ≡ own) (λ w m. m.own ≡ own) r
    (λ w earlier row m watched all is.
    own_measured w earlier row m (report_at w (datagrams earlier) row.datagram) is ∙ All-head (λ (x : Row). x.own ≡ own) row earlier all)
    rows (λ m. m.own ≡ own) (λ w m watched is. is)
