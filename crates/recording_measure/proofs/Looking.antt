-- A datagram by which it isn't known yet whom to watch, or by which that is known.
use Rattle.std.proofs.Common.{◌≡◌, ◌∙◌, ◌⊎◌, inl, inr, ℕ, ◌+◌, ◌≤◌, ◌<◌, nat_le, nat_lt, min, Bool, true, false, List, [], ◌∷◌, ◌++◌, length, get_or}
use Rattle.std.proofs.Common.{Option, Some, None, refl, sym, ap, subst, arith}
use Rattle.std.specs.Prelude.{if◌then◌else◌, option_to_list, option_map, option_and_then, slice_get}
use Rattle.std.proofs.lemmas.List.{append-nil}
use Rattle.std.proofs.lemmas.Bool.{cases_lt, lt-ltb, le-ltb, ltb-true, ltb-false, le-leb, lt-leb}
use Rattle.recording_measure.specs.Made.{Measured}
use Rattle.recording_model.specs.declared.watched.Watched.{Watched}
use Rattle.recording_model.specs.Listening.{after_all}
use Rattle.recording_measure.specs.declared.listener.Listener.{Listener}
use Rattle.recording_measure.specs.declared.measuring.Measuring.{Measuring}
use Rattle.recording_measure.specs.declared.measuring.Stage.{Stage}
use Rattle.recording_measure.specs.declared.measuring.Stage.TheVariants.{Looking, Hearing}
use Rattle.recording_measure.specs.declared.recording.Recording.{Recording}
use Rattle.recording_measure.specs.declared.watch.WantedPorts.{WantedPorts}
use Rattle.recording_measure.specs.Row.{Row, datagrams, kept_most}
use Rattle.recording_measure.specs.Measured.{measured_at}
use Rattle.recording_measure.specs.Places.{PlaceName, PlacedRow, is_same_place, rows_at, is_among, places_in}
use Rattle.recording_measure.specs.Chosen.{is_enough, watched_at, chosen, heard_at, input_watched, input_measured}
use Rattle.recording_measure.specs.Measure.{Recording as Read, with_row, measured_so_far}
use Rattle.recording_measure.specs.Inner.Handing.{handing_of}
use Rattle.std.proofs.lemmas.Option.{slice_get-get_or}
use Rattle.recording_measure.specs.Summary.{whom_in}
use Rattle.recording_measure.specs.Inner.Stages.{whom_at, input_whom}
use Rattle.recording_measure.specs.Inner.Watching.{whom_of}
use Rattle.recording_measure.proofs.Watches.{whom_known, whom_stays}
use Rattle.recording_measure.specs.Inner.Measuring.{IsMeasuring, IsStage, IsHearingAt}
use Rattle.recording_measure.specs.Inner.StandsFor.{StandsFor}
use Rattle.recording_measure.specs.Inner.Recordings.{AreKeptRows, AreRecordings, BeginsWith, IsFoundAt, IsNoticed}
use Rattle.recording_measure.specs.Told.{place_in}
use Rattle.recording_measure.specs.Counts.{early_at, IsCounts}
use Rattle.recording_measure.specs.Recents.{AreRecents}
use Rattle.recording_measure.proofs.InputFates.{none_so_far}
use Rattle.recording_measure.proofs.KeptRows.{one_there}
use Rattle.recording_measure.proofs.Chosen.{chosen-stays, input-stays, heard-known, measured-more, measured-other}
use Rattle.recording_measure.proofs.Chosen.{chosen-after, unlooked, unknown, known_there, input-first, heard-first, measured-unknown, where_met}

-- it isn't known yet
pub still_looking : (task : Measuring) (k : Read) (r : PlacedRow) (count : ℕ) → task.reports.reports.form ≡ k.form
    → task.wanted ≡ k.wanted → task.stage ≡ Looking count → count ≡ min (length k.rows + 1) kept_most
    → chosen k.wanted (r ∷ k.rows) ≡ None → AreRecordings k.wanted (r ∷ k.rows) task.recordings.recordings.items
    → IsCounts [] task.reports.reports.tally.counts → AreRecents [] task.reports.reports.recents
    → task.reports.reports.recents.fresh.handing ≡ handing_of k → IsMeasuring task (with_row r k)
still_looking task k r count form wanted stage counted none are nothing recents handing = record {
  form = form;
  wanted = wanted;
  stage = subst (IsStage k.wanted (r ∷ k.rows) task.recordings.recordings.items) (sym stage) (none, are, omega (arith, counted));
  whom = ap (λ (s : Stage). whom_at s task.recordings.recordings.items) stage
      ∙ sym (ap (option_map (λ i. whom_in k.wanted (datagrams (rows_at i (r ∷ k.rows))))) none);
  counts = none_so_far k.wanted (r ∷ k.rows) task.reports.reports.tally.counts none nothing;
  recents = subst (λ (ms : List Measured). AreRecents ms task.reports.reports.recents)
      (sym (measured-unknown k.wanted (r ∷ k.rows) none)) recents;
  handing = handing;
}

-- what one more row adds, whatever it is
pub adds_all : (k : Read) (r : PlacedRow) → chosen k.wanted k.rows ≡ None
    → measured_so_far (with_row r k) ≡ measured_so_far (with_row r k) ++ measured_so_far k
adds_all k r none =
    let all : List Measured = measured_so_far (with_row r k) in
    sym (append-nil all) ∙ ap (λ (ms : List Measured). all ++ ms) (sym (measured-unknown k.wanted k.rows none))

-- a place that isn't looked at
pub unlooked_still : (w : WantedPorts) (rows : List PlacedRow) (r : PlacedRow) → chosen w rows ≡ None
    → is_among r.place (places_in (r ∷ rows)) ≡ false → chosen w (r ∷ rows) ≡ None
unlooked_still w rows r none other = chosen-after w rows r none ∙ unlooked w rows r other

module _ (w : WantedPorts) (rows : List PlacedRow) (r : PlacedRow) (recordings : List Recording) (index : ℕ)
    (are : AreRecordings w (r ∷ rows) recordings) (within : index < length recordings)
    (there : (d : Recording) → place_in (get_or recordings index d) ≡ r.place) where
  -- what is known at the place of the datagram
  pub noticed_there : (d : Recording) → IsNoticed w (datagrams (rows_at r.place (r ∷ rows))) (get_or recordings index d)
  noticed_there d = subst (λ (i : PlaceName). IsNoticed w (datagrams (rows_at i (r ∷ rows))) (get_or recordings index d)) (there d)
      (are.each index d within).noticed

  pub early_there : (d : Recording)
      → IsCounts (early_at w r.place (rows_at r.place (r ∷ rows))) (get_or recordings index d).early.counts
  early_there d = subst (λ (i : PlaceName). IsCounts (early_at w i (rows_at i (r ∷ rows))) (get_or recordings index d).early.counts)
      (there d) (are.each index d within).early

  pub kept_there : (d : Recording) → length rows < kept_most
      → AreKeptRows [] (get_or recordings index d).kept.items (rows_at r.place (r ∷ rows))
  kept_there d few = subst (λ (i : PlaceName). AreKeptRows [] (get_or recordings index d).kept.items (rows_at i (r ∷ rows))) (there d)
      ((are.each index d within).kept (omega (arith, few)))

  pub begins_with : (is_kept : Bool) (newest : Row) → is_kept ≡ nat_lt (length rows) kept_most → r.row ≡ newest
      → BeginsWith is_kept recordings index newest (if is_kept then rows_at r.place (r ∷ rows) else r.row ∷ [])
  begins_with true newest few is = λ d. kept_there d (ltb-true (length rows) kept_most (sym few))
  begins_with false newest few is = ap (λ (row : Row). row ∷ []) is

-- whether few rows came before is whether these and the newest are few enough
few_enough : (is_kept : Bool) (rows : List PlacedRow) (r : PlacedRow) → is_kept ≡ nat_lt (length rows) kept_most
    → nat_le (length (r ∷ rows)) kept_most ≡ is_kept
few_enough true rows r is = let few = ltb-true (length rows) kept_most (sym is) in le-leb (length (r ∷ rows)) kept_most (omega (arith, few))
few_enough false rows r is = let many = ltb-false (length rows) kept_most (sym is) in lt-leb (length (r ∷ rows)) kept_most (omega (arith, many))

-- from this datagram on a port hears them
pub chosen_now : (w : WantedPorts) (rows : List PlacedRow) (r : PlacedRow) (watched : Watched) → chosen w rows ≡ None
    → is_among r.place (places_in (r ∷ rows)) ≡ true → watched_at w r.place (datagrams (rows_at r.place (r ∷ rows))) ≡ Some watched
    → chosen w (r ∷ rows) ≡ Some r.place
chosen_now w rows r watched none among known = chosen-after w rows r none ∙ known_there w rows r watched among known

pub unknown_still : (w : WantedPorts) (rows : List PlacedRow) (r : PlacedRow) → chosen w rows ≡ None
    → watched_at w r.place (datagrams (rows_at r.place (r ∷ rows))) ≡ None → chosen w (r ∷ rows) ≡ None
unknown_still w rows r none not_known = chosen-after w rows r none ∙ unknown w rows r not_known

pub heard_now : (w : WantedPorts) (rows : List PlacedRow) (r : PlacedRow) (is_kept : Bool) → chosen w rows ≡ None
    → chosen w (r ∷ rows) ≡ Some r.place → is_kept ≡ nat_lt (length rows) kept_most
    → heard_at w (r ∷ rows) ≡ (if is_kept then rows_at r.place (r ∷ rows) else r.row ∷ [])
heard_now w rows r is_kept none is few = heard-first w rows r r.place is_kept none is (few_enough is_kept rows r few)

pub began : (w : WantedPorts) (rows : List PlacedRow) (r : PlacedRow) (recordings : List Recording) (index : ℕ) (watched : Watched)
    (heard : List Row) (stage : Stage) → index < length recordings
    → ((d : Recording) → place_in (get_or recordings index d) ≡ r.place) → chosen w (r ∷ rows) ≡ Some r.place
    → watched_at w r.place (datagrams (rows_at r.place (r ∷ rows))) ≡ Some watched → heard_at w (r ∷ rows) ≡ heard
    → IsHearingAt watched index heard stage → IsStage w (r ∷ rows) recordings stage
began w rows r recordings index watched heard (Looking count) within there is known same hearing = absurd hearing
began w rows r recordings index watched heard (Hearing at listener) within there is known same (here, listens) = (
  watched,
  subst (λ (n : ℕ). n < length recordings) (sym here) within,
  λ d. is ∙ ap Some (sym (ap (λ (n : ℕ). place_in (get_or recordings n d)) here ∙ there d)),
  input-first w rows r watched is known,
  subst (λ (rs : List Row). StandsFor watched listener (after_all watched (datagrams rs))) (sym same) listens,
)

-- a place that wasn't found isn't among them
pub not_found : (place : PlaceName) (known : List PlaceName) (found : Option ℕ) (recordings : List Recording)
    → IsFoundAt place known found recordings → ((index : ℕ) → found ≡ Some index → ⊥) → is_among place known ≡ false
not_found place known None recordings is none = is
not_found place known (Some index) recordings is none = absurd (none index refl)

-- ---- once it is known, those at the place are heard, and no others
module _ (w : WantedPorts) (rows : List PlacedRow) (r : PlacedRow) (recordings : List Recording) (index : ℕ) (watched : Watched)
    (within : index < length recordings) (is : (d : Recording) → chosen w rows ≡ Some (place_in (get_or recordings index d)))
    (known : input_watched w rows ≡ Some watched) where
  pub hears_more : (listener : Listener) → ((d : Recording) → is_same_place (place_in (get_or recordings index d)) r.place ≡ true)
      → StandsFor watched listener (after_all watched (datagrams (r.row ∷ heard_at w rows)))
      → IsStage w (r ∷ rows) recordings (Hearing index listener)
  hears_more listener same listens = (
    watched,
    within,
    λ d. chosen-stays w rows r (place_in (get_or recordings index d)) (is d),
    one_there recordings index within (λ d. input-stays w rows r (place_in (get_or recordings index d)) watched (is d) known),
    one_there recordings index within (λ d. subst (λ (rs : List Row). StandsFor watched listener (after_all watched (datagrams rs)))
        (sym (heard-known w rows r (place_in (get_or recordings index d)) true (is d) (same d))) listens),
  )

  pub hears_other : (listener : Listener) → ((d : Recording) → is_same_place (place_in (get_or recordings index d)) r.place ≡ false)
      → StandsFor watched listener (after_all watched (datagrams (heard_at w rows)))
      → IsStage w (r ∷ rows) recordings (Hearing index listener)
  hears_other listener other listens = (
    watched,
    within,
    λ d. chosen-stays w rows r (place_in (get_or recordings index d)) (is d),
    one_there recordings index within (λ d. input-stays w rows r (place_in (get_or recordings index d)) watched (is d) known),
    one_there recordings index within (λ d. subst (λ (rs : List Row). StandsFor watched listener (after_all watched (datagrams rs)))
        (sym (heard-known w rows r (place_in (get_or recordings index d)) false (is d) (other d))) listens),
  )

  pub measures_more : ((d : Recording) → is_same_place (place_in (get_or recordings index d)) r.place ≡ true)
      → input_measured w (r ∷ rows) ≡ option_to_list (measured_at watched (heard_at w rows) r.row) ++ input_measured w rows
  measures_more same = one_there recordings index within
      (λ d. measured-more w rows r (place_in (get_or recordings index d)) watched (is d) known (same d))

  pub measures_nothing : ((d : Recording) → is_same_place (place_in (get_or recordings index d)) r.place ≡ false)
      → input_measured w (r ∷ rows) ≡ input_measured w rows
  measures_nothing other = one_there recordings index within
      (λ d. measured-other w rows r (place_in (get_or recordings index d)) watched (is d) known (other d))

-- ---- whom the packets are of that are measured
-- once that is known, one more row changes nothing of it
row_whom : (w : WantedPorts) (place : PlaceName) (r : PlacedRow) (rows : List PlacedRow) (watched : Watched) (same : Bool)
    → watched_at w place (datagrams (rows_at place rows)) ≡ Some watched
    → whom_in w (datagrams (if same then r.row ∷ rows_at place rows else rows_at place rows))
    ≡ whom_in w (datagrams (rows_at place rows))
row_whom w place r rows watched true known = whom_stays w r.row.datagram (datagrams (rows_at place rows)) watched
    (where_met w place (datagrams (rows_at place rows)) watched (is_enough w place (datagrams (rows_at place rows))) refl known).1
row_whom w place r rows watched false known = refl

pub input_whom_stays : (w : WantedPorts) (rows : List PlacedRow) (r : PlacedRow) (place : PlaceName) (watched : Watched)
    → chosen w rows ≡ Some place → input_watched w rows ≡ Some watched → input_whom w (r ∷ rows) ≡ input_whom w rows
input_whom_stays w rows r place watched is known =
    ap (option_map (λ i. whom_in w (datagrams (rows_at i (r ∷ rows))))) (chosen-stays w rows r place is)
    ∙ ap Some (row_whom w place r rows watched (is_same_place place r.place)
    (sym (ap (option_and_then (λ i. watched_at w i (datagrams (rows_at i rows)))) is) ∙ known))
    ∙ sym (ap (option_map (λ i. whom_in w (datagrams (rows_at i rows)))) is)

-- it is known at the place of the newest row
pub whom_began : (w : WantedPorts) (rows : List PlacedRow) (r : PlacedRow) (recordings : List Recording) (index : ℕ)
    (watched : Watched) (heard : List Row) (stage : Stage) → AreRecordings w (r ∷ rows) recordings → index < length recordings
    → ((d : Recording) → place_in (get_or recordings index d) ≡ r.place) → chosen w (r ∷ rows) ≡ Some r.place
    → IsHearingAt watched index heard stage → whom_at stage recordings ≡ input_whom w (r ∷ rows)
whom_began w rows r recordings index watched heard (Looking count) are within there is hearing = absurd hearing
whom_began w rows r recordings index watched heard (Hearing at listener) are within there is (here, listens) =
    one_there recordings index within (λ d.
    ap (λ (n : ℕ). option_map (λ (x : Recording). whom_of x.watch) (slice_get recordings n)) here
    ∙ ap (option_map (λ (x : Recording). whom_of x.watch)) (slice_get-get_or recordings index d within)
    ∙ ap Some (whom_known w (datagrams (rows_at r.place (r ∷ rows))) (get_or recordings index d).watch
    (noticed_there w rows r recordings index are within there d).watch)
    ∙ sym (ap (option_map (λ i. whom_in w (datagrams (rows_at i (r ∷ rows))))) is))

-- whether few came is whether the count of them is small
pub few_by : (count rows most : ℕ) → count ≡ min rows most → nat_lt count most ≡ nat_lt rows most
few_by count rows most is = go (cases_lt rows most)
  where
    go : (rows < most) ⊎ (most ≤ rows) → nat_lt count most ≡ nat_lt rows most
    go (inl below) = lt-ltb count most (omega (arith, is, below)) ∙ sym (lt-ltb rows most below)
    go (inr above) = le-ltb count most (omega (arith, is, above)) ∙ sym (le-ltb rows most above)
