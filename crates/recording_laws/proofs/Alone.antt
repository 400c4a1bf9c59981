-- What was met at one place is measured as a recording of which that is all.
use Rattle.std.proofs.Common.{◌≡◌, ◌∙◌, ℕ, suc, nat_le, Bool, true, false, ◌||◌, ◌&&◌, not, List, [], ◌∷◌, ◌++◌, length, drop}
use Rattle.std.proofs.Common.{Option, Some, None, refl, sym, ap, arith}
use Rattle.std.specs.Prelude.{if◌then◌else◌, is_some, option_map, option_and_then}
use Rattle.std.specs.Option.{option_or, option_map_or}
use Rattle.std.proofs.Math.ListN.{drop_of_length-le}
use Rattle.std.proofs.lemmas.List.{length-map}
use Rattle.std.proofs.lemmas.List.Elements.{All-head, All-tail}
use Rattle.recording_model.specs.declared.watched.Watched.{Watched}
use Rattle.recording_model.specs.Recorded.{Recorded}
use Rattle.recording_measure.specs.declared.watch.WantedPorts.{WantedPorts}
use Rattle.recording_measure.specs.declared.form.Form.{Form}
use Rattle.recording_measure.specs.Made.{Measured}
use Rattle.recording_measure.specs.Watch.{watched_in}
use Rattle.recording_measure.specs.Row.{Row, datagrams, heard, kept_most}
use Rattle.recording_measure.specs.Measured.{texts_as, measurements, written}
use Rattle.recording_measure.specs.Places.{PlaceName, PlacedRow, rows_at, rows_looked_at, is_among, places_in, places_most}
use Rattle.recording_measure.specs.Chosen.{is_domain_met, is_port_met, is_met, is_enough, watched_at, chosen_by, chosen, heard_with, heard_at}
use Rattle.recording_measure.specs.Chosen.{input_watched, input_written}
use Rattle.recording_measure.specs.Counts.{Fate, fates, early_fate, early_fates, early_with, early_at, fates_in, input_fates, told_fates}
use Rattle.recording_measure.specs.Summary.{whom_in, told_whom}
use Rattle.recording_measure.proofs.Places.{same_place}
use Rattle.recording_measure.proofs.Rows.{unknown_before, heard-unknown}
use Rattle.recording_measure.proofs.Told.{watched-stays}
use Rattle.datagram_source.specs.Rules.{nothing_read}
use Rattle.recording_measure.specs.Measure.{begun}
use Rattle.recording_measure.proofs.Chosen.{measured-other}
use Rattle.recording_laws.specs.Alone.{AsksForNothing, AreAt, rows_of, OnePlaceIsMeasuredAlone}
use Rattle.recording_laws.proofs.LinesRead.{begun_nameless, read_on}

-- where nothing is asked for all of it was met
module _ (w : WantedPorts) (asks : AsksForNothing w) where
  all_met : (ds : List Recorded) → is_met w ds ≡ true
  all_met ds = λ i. is_domain_met (asks.domain i) ds && (is_port_met (asks.master i) ds && is_port_met (asks.slave i) ds)

  enough : (place : PlaceName) (ds : List Recorded) → is_enough w place ds ≡ true
  enough None ds = refl
  enough (Some name) ds = all_met ds

  unasked : (place : PlaceName) (ds : List Recorded) → watched_at w place ds ≡ watched_in w ds
  unasked place ds = ap (λ b. if b then watched_in w ds else None) (enough place ds)

module _ (place : PlaceName) where
  all_rows : (rows : List PlacedRow) → AreAt place rows → rows_at place rows ≡ rows_of rows
  all_rows [] at = refl
  all_rows (r ∷ rows) at =
      ap (λ b. if b then r.row ∷ rows_at place rows else rows_at place rows)
      ((same_place place r.place).1 (sym (All-head (λ (r : PlacedRow). r.place ≡ place) r rows at)))
      ∙ ap (λ (rs : List Row). r.row ∷ rs) (all_rows rows (All-tail (λ (r : PlacedRow). r.place ≡ place) r rows at))

  one_place : (r : PlacedRow) (rows : List PlacedRow) → AreAt place (r ∷ rows) → places_in (r ∷ rows) ≡ place ∷ []
  one_place r [] at = ap (λ (i : PlaceName). i ∷ []) (All-head (λ (r : PlacedRow). r.place ≡ place) r [] at)
  one_place r (before ∷ rows) at =
      let known = one_place before rows (All-tail (λ (r : PlacedRow). r.place ≡ place) r (before ∷ rows) at) in
      let here = All-head (λ (r : PlacedRow). r.place ≡ place) r (before ∷ rows) at in
      ap (λ (known : List PlaceName). if is_among r.place known || nat_le places_most (length known) then known
      else known ++ r.place ∷ []) known
      ∙ ap (λ b. if b || false || false then place ∷ [] else place ∷ r.place ∷ [])
      ((same_place place r.place).1 (sym here))

  looked_at : (r : PlacedRow) (rows : List PlacedRow) → AreAt place (r ∷ rows) → is_among r.place (places_in (r ∷ rows)) ≡ true
  looked_at r rows at =
      ap (is_among r.place) (one_place r rows at)
      ∙ ap (λ b. b || false) ((same_place place r.place).1
      (sym (All-head (λ (r : PlacedRow). r.place ≡ place) r rows at)))

-- ---- at a place at which enough was met whatever came
module _ (w : WantedPorts) (place : PlaceName) (same : (ds : List Recorded) → watched_at w place ds ≡ watched_in w ds) where
  -- whom the rows at the place of the newest are of
  newest : (r : PlacedRow) (rows : List PlacedRow) → AreAt place (r ∷ rows)
      → watched_at w r.place (datagrams (rows_at r.place (r ∷ rows))) ≡ watched_in w (datagrams (rows_of (r ∷ rows)))
  newest r rows at =
      let here = All-head (λ (r : PlacedRow). r.place ≡ place) r rows at in
      ap (λ (i : PlaceName). watched_at w i (datagrams (rows_at i (r ∷ rows)))) here
      ∙ same (datagrams (rows_at place (r ∷ rows)))
      ∙ ap (λ (rs : List Row). watched_in w (datagrams rs)) (all_rows place (r ∷ rows) at)

  chosen_newest : (r : PlacedRow) (rows : List PlacedRow) → AreAt place (r ∷ rows)
      → chosen_by w r rows ≡ option_map (λ x. place) (watched_in w (datagrams (rows_of (r ∷ rows))))
  chosen_newest r rows at =
      let here = All-head (λ (r : PlacedRow). r.place ≡ place) r rows at in
      ap (λ b. if b && is_some (watched_at w r.place (datagrams (rows_at r.place (r ∷ rows)))) then Some r.place else None)
      (looked_at place r rows at)
      ∙ ap (λ o. if is_some o then Some r.place else None) (newest r rows at)
      ∙ ap (λ (i : PlaceName). if is_some (watched_in w (datagrams (rows_of (r ∷ rows)))) then Some i else None) here
      ∙ go (watched_in w (datagrams (rows_of (r ∷ rows))))
    where
      go : (o : Option Watched) → (if is_some o then Some place else None) ≡ option_map (λ x. place) o
      go None = refl
      go (Some x) = refl

  chosen_one : (r : PlacedRow) (rows : List PlacedRow) → AreAt place (r ∷ rows)
      → chosen w (r ∷ rows) ≡ option_map (λ x. place) (watched_in w (datagrams (rows_of (r ∷ rows))))
  chosen_one r [] at = chosen_newest r [] at
  chosen_one r (before ∷ rows) at =
      ap (λ o. option_or o (chosen_by w r (before ∷ rows)))
      (chosen_one before rows (All-tail (λ (r : PlacedRow). r.place ≡ place) r (before ∷ rows) at))
      ∙ go (watched_in w (datagrams (rows_of (before ∷ rows)))) refl
    where
      go : (o : Option Watched) → watched_in w (datagrams (rows_of (before ∷ rows))) ≡ o
          → option_or (option_map (λ x. place) o) (chosen_by w r (before ∷ rows))
          ≡ option_map (λ x. place) (watched_in w (datagrams (rows_of (r ∷ before ∷ rows))))
      go None is = chosen_newest r (before ∷ rows) at
      go (Some x) is = sym (ap (option_map (λ x. place)) (watched-stays w r.row.datagram (datagrams (rows_of (before ∷ rows))) x is))

  -- one more that is heard, by what is known before and with it
  heard_more : (r : PlacedRow) (rows : List PlacedRow) (before now : Option Watched) → AreAt place (r ∷ rows)
      → heard_with (option_map (λ x. place) before) (option_map (λ x. place) now) r rows (heard w (rows_of rows))
      ≡ (if is_some before then r.row ∷ heard w (rows_of rows)
      else if not (is_some now) then []
      else if nat_le (length (r.row ∷ rows_of rows)) kept_most then r.row ∷ rows_of rows else r.row ∷ [])
  heard_more r rows (Some x) now at =
      ap (λ b. if b then r.row ∷ heard w (rows_of rows) else heard w (rows_of rows))
      ((same_place place r.place).1 (sym (All-head (λ (r : PlacedRow). r.place ≡ place) r rows at)))
  heard_more r rows None None at = refl
  heard_more r rows None (Some x) at =
      ap (λ (n : ℕ). if nat_le (suc n) kept_most then rows_at place (r ∷ rows) else r.row ∷ []) (sym (length-map rows (λ (r : PlacedRow). r.row)))
      ∙ ap (λ (rs : List Row). if nat_le (length (r.row ∷ rows_of rows)) kept_most then rs else r.row ∷ []) (all_rows place (r ∷ rows) at)

  -- the first row, by which, or before which, it is known
  heard_first : (r : PlacedRow) (before now : Option Watched) → AreAt place (r ∷ []) → watched_in w [] ≡ before
      → watched_in w (r.row.datagram ∷ []) ≡ now
      → heard_with None (option_map (λ x. place) now) r [] []
      ≡ (if is_some before then r.row ∷ [] else if not (is_some now) then [] else r.row ∷ [])
  heard_first r None now at was is = heard_more r [] None now at
  heard_first r (Some x) (Some y) at was is = all_rows place (r ∷ []) at
  heard_first r (Some x) None at was is = absurd (cc (sym (watched-stays w r.row.datagram [] x was) ∙ is))

  heard_one : (rows : List PlacedRow) → AreAt place rows → heard_at w rows ≡ heard w (rows_of rows)
  heard_one [] at = refl
  heard_one (r ∷ []) at =
      ap (λ o. heard_with None o r [] []) (chosen_one r [] at)
      ∙ heard_first r (watched_in w []) (watched_in w (r.row.datagram ∷ [])) at refl refl
  heard_one (r ∷ before ∷ rows) at =
      let earlier = All-tail (λ (r : PlacedRow). r.place ≡ place) r (before ∷ rows) at in
      (λ i. heard_with (chosen_one before rows earlier i) (chosen_one r (before ∷ rows) at i) r (before ∷ rows)
      (heard_one (before ∷ rows) earlier i))
      ∙ heard_more r (before ∷ rows) (watched_in w (datagrams (rows_of (before ∷ rows))))
      (watched_in w (datagrams (rows_of (r ∷ before ∷ rows)))) at

  of_one : (r : PlacedRow) (rows : List PlacedRow) → AreAt place (r ∷ rows)
      → input_watched w (r ∷ rows) ≡ watched_in w (datagrams (rows_of (r ∷ rows)))
  of_one r rows at =
      ap (option_and_then (λ i. watched_at w i (datagrams (rows_at i (r ∷ rows))))) (chosen_one r rows at)
      ∙ go (watched_in w (datagrams (rows_of (r ∷ rows)))) refl
    where
      go : (o : Option Watched) → watched_in w (datagrams (rows_of (r ∷ rows))) ≡ o
          → option_and_then (λ i. watched_at w i (datagrams (rows_at i (r ∷ rows)))) (option_map (λ x. place) o) ≡ o
      go None is = refl
      go (Some x) is =
          same (datagrams (rows_at place (r ∷ rows)))
          ∙ ap (λ (rs : List Row). watched_in w (datagrams rs)) (all_rows place (r ∷ rows) at) ∙ is

  pub written_one : (form : Form) (rows : List PlacedRow) → AreAt place rows → input_written form w rows ≡ written form w (rows_of rows)
  written_one form [] at = ap (texts_as form) (sym (go (watched_in w [])))
    where
      go : (o : Option Watched) → option_map_or {U = List Measured} (λ watched. []) o [] ≡ []
      go None = refl
      go (Some x) = refl
  written_one form (r ∷ rows) at = λ i. texts_as form
      (option_map_or (λ watched. measurements watched (heard_one (r ∷ rows) at i)) (of_one r rows at i) [])

-- ---- lines
-- those that came before it is known whom to watch
early_unknown : (w : WantedPorts) (rows : List Row) → watched_in w (datagrams rows) ≡ None → early_at w None rows ≡ early_fates rows
early_unknown w [] unknown = refl
early_unknown w (row ∷ rows) unknown =
    ap (λ (o : Option Watched). early_with o row.datagram (early_at w None rows)) unknown
    ∙ ap (λ (all : List Fate). early_fate row.datagram ∷ all) (early_unknown w rows (unknown_before w rows row unknown))

all_dropped : (rows : List Row) → drop (length rows) rows ≡ []
all_dropped rows = drop_of_length-le rows (omega arith)

-- and those that aren't heard
early_dropped : (w : WantedPorts) (rows : List Row)
    → early_at w None (drop (length (heard w rows)) rows) ≡ early_fates (drop (length (heard w rows)) rows)
early_dropped w [] = refl
early_dropped w (row ∷ rows) =
    go (early_dropped w rows) (watched_in w (datagrams rows)) (watched_in w (datagrams (row ∷ rows))) (nat_le (length (row ∷ rows)) kept_most)
    refl refl
  where
    go : early_at w None (drop (length (heard w rows)) rows) ≡ early_fates (drop (length (heard w rows)) rows)
        → (before now : Option Watched) (few : Bool) → watched_in w (datagrams rows) ≡ before → watched_in w (datagrams (row ∷ rows)) ≡ now
        → let those = if is_some before then row ∷ heard w rows
        else if not (is_some now) then [] else if few then row ∷ rows else row ∷ [] in
        early_at w None (drop (length those) (row ∷ rows)) ≡ early_fates (drop (length those) (row ∷ rows))
    go others (Some x) now few was is = others
    go others None None few was is = early_unknown w (row ∷ rows) is
    go others None (Some x) true was is =
        ap (early_at w None) (all_dropped (row ∷ rows)) ∙ sym (ap early_fates (all_dropped (row ∷ rows)))
    go others None (Some x) false was is = early_unknown w rows was

module _ (w : WantedPorts) where
  lines_same : (ds : List Recorded) → watched_at w None ds ≡ watched_in w ds
  lines_same ds = refl

  -- the rows of which something is told, and what comes of them, by whether it is known whom they are of
  told_by : (r : PlacedRow) (rows : List PlacedRow) (known : Option Watched) → AreAt None (r ∷ rows)
      → option_map_or (λ place. rows_at place (r ∷ rows)) (option_map (λ x. None) known) (rows_looked_at None (r ∷ rows))
      ≡ rows_of (r ∷ rows)
  told_by r rows (Some x) at = all_rows None (r ∷ rows) at
  told_by r rows None at =
      ap (λ b. if b then rows_at None (r ∷ rows) else [])
      (ap (λ (i : PlaceName). is_among i (places_in (r ∷ rows))) (sym (All-head (λ (r : PlacedRow). r.place ≡ None) r rows at))
      ∙ looked_at None r rows at)
      ∙ all_rows None (r ∷ rows) at

  told_whom_one : (rows : List PlacedRow) → AreAt None rows → told_whom w rows ≡ whom_in w (datagrams (rows_of rows))
  told_whom_one [] at = refl
  told_whom_one (r ∷ rows) at =
      ap (λ o. whom_in w (datagrams (option_map_or (λ place. rows_at place (r ∷ rows)) o (rows_looked_at None (r ∷ rows)))))
      (chosen_one w None lines_same r rows at)
      ∙ ap (λ (rs : List Row). whom_in w (datagrams rs)) (told_by r rows (watched_in w (datagrams (rows_of (r ∷ rows)))) at)

  fates_by : (r : PlacedRow) (rows : List PlacedRow) (known : Option Watched) → AreAt None (r ∷ rows)
      → watched_in w (datagrams (rows_of (r ∷ rows))) ≡ known
      → option_map_or (λ place. input_fates w place (r ∷ rows)) (option_map (λ x. None) known)
      (early_at w None (rows_looked_at None (r ∷ rows))) ≡ fates_in w (rows_of (r ∷ rows))
  fates_by r rows (Some x) at is =
      (λ i. option_map_or (λ watched. fates watched (heard_one w None lines_same (r ∷ rows) at i)) (of_one w None lines_same r rows at i) []
      ++ early_at w None (drop (length (heard_one w None lines_same (r ∷ rows) at i)) (all_rows None (r ∷ rows) at i)))
      ∙ ap (λ (early : List Fate). option_map_or (λ watched. fates watched (heard w (rows_of (r ∷ rows))))
      (watched_in w (datagrams (rows_of (r ∷ rows)))) [] ++ early) (early_dropped w (rows_of (r ∷ rows)))
  fates_by r rows None at is =
      ap (early_at w None) (told_by r rows None at) ∙ early_unknown w (rows_of (r ∷ rows)) is
      ∙ sym (ap (λ (o : Option Watched). option_map_or (λ watched. fates watched (heard w (rows_of (r ∷ rows)))) o []
      ++ early_fates (drop (length (heard w (rows_of (r ∷ rows)))) (rows_of (r ∷ rows)))) is
      ∙ ap (λ (h : List Row). early_fates (drop (length h) (rows_of (r ∷ rows)))) (heard-unknown w (rows_of (r ∷ rows)) is))

  told_fates_one : (rows : List PlacedRow) → AreAt None rows → told_fates w rows ≡ fates_in w (rows_of rows)
  told_fates_one [] at = sym (go (watched_in w []))
    where
      go : (o : Option Watched) → option_map_or {U = List Fate} (λ watched. []) o [] ++ [] ≡ []
      go None = refl
      go (Some x) = refl
  told_fates_one (r ∷ rows) at =
      ap (λ o. option_map_or (λ place. input_fates w place (r ∷ rows)) o (early_at w None (rows_looked_at None (r ∷ rows))))
      (chosen_one w None lines_same r rows at)
      ∙ fates_by r rows (watched_in w (datagrams (rows_of (r ∷ rows)))) at refl

pub lines_written : (form : Form) (w : WantedPorts) (rows : List PlacedRow) → AreAt None rows
    → input_written form w rows ≡ written form w (rows_of rows)
lines_written form w rows at = written_one w None (lines_same w) form rows at

pub measured_alone : OnePlaceIsMeasuredAlone
measured_alone = record {
  nameless = λ form w lines read text taken.
      (read_on 1 lines (nothing_read (begun form w)) read text taken).nameless begun_nameless;
  lines = lines_written;
  whom = told_whom_one;
  fates = told_fates_one;
  interface = λ form w place rows asks at. written_one w place (unasked w asks place) form rows at;
  others = λ form w rows r place watched is known other. ap (texts_as form) (measured-other w rows r place watched is known other);
}
