-- What comes of the rows of a capture at the place that is measured, with one more.
use Rattle.std.proofs.Common.{◌≡◌, ◌∙◌, Bool, true, false, List, [], ◌∷◌, ◌++◌, length, drop, Option, Some, None, refl, sym, ap, subst, arith}
use Rattle.std.specs.Prelude.{if◌then◌else◌}
use Rattle.std.specs.Option.{option_map_or}
use Rattle.std.proofs.Math.ListN.{drop_of_length-le}
use Rattle.recording_model.specs.declared.watched.Watched.{Watched}
use Rattle.recording_summary.specs.declared.counts.Counts.{Counts}
use Rattle.recording_measure.specs.declared.watch.WantedPorts.{WantedPorts}
use Rattle.recording_measure.specs.Row.{Row, datagrams}
use Rattle.recording_measure.specs.Places.{PlaceName, PlacedRow, is_same_place, rows_at}
use Rattle.recording_measure.specs.Chosen.{chosen, heard_at, watched_at, input_watched}
use Rattle.recording_measure.specs.Counts.{Fate, fate_at, fates, early_with, early_at, input_fates, IsCounts}
use Rattle.recording_measure.specs.Inner.Counting.{CountsSoFar}
use Rattle.recording_measure.proofs.Chosen.{input-stays, heard-known}

module _ (w : WantedPorts) (place : PlaceName) where
  -- where it is known
  pub known-fates : (rows : List PlacedRow) (those : List Row) (watched : Watched) → input_watched w rows ≡ Some watched
      → heard_at w rows ≡ those
      → input_fates w place rows ≡ fates watched those ++ early_at w place (drop (length those) (rows_at place rows))
  known-fates rows those watched known same = λ i.
      option_map_or (λ watched. fates watched (same i)) (known i) [] ++ early_at w place (drop (length (same i)) (rows_at place rows))

  module _ (rows : List PlacedRow) (r : PlacedRow) where
    rows_by : (same : Bool) → is_same_place place r.place ≡ same
        → rows_at place (r ∷ rows) ≡ (if same then r.row ∷ rows_at place rows else rows_at place rows)
    rows_by same is = ap (λ b. if b then r.row ∷ rows_at place rows else rows_at place rows) is

    -- one more that is heard
    pub more-fates : (watched : Watched) → chosen w rows ≡ Some place → input_watched w rows ≡ Some watched
        → is_same_place place r.place ≡ true
        → input_fates w place (r ∷ rows) ≡ fate_at watched (heard_at w rows) r.row ∷ input_fates w place rows
    more-fates watched is known same =
        known-fates (r ∷ rows) (r.row ∷ heard_at w rows) watched (input-stays w rows r place watched is known)
        (heard-known w rows r place true is same)
        ∙ ap (λ (l : List Row). fates watched (r.row ∷ heard_at w rows) ++ early_at w place (drop (length (r.row ∷ heard_at w rows)) l))
        (rows_by true same)
        ∙ ap (λ (all : List Fate). fate_at watched (heard_at w rows) r.row ∷ all)
        (sym (known-fates rows (heard_at w rows) watched known refl))

    -- one at another place
    pub other-fates : (watched : Watched) → chosen w rows ≡ Some place → input_watched w rows ≡ Some watched
        → is_same_place place r.place ≡ false
        → input_fates w place (r ∷ rows) ≡ input_fates w place rows
    other-fates watched is known other =
        known-fates (r ∷ rows) (heard_at w rows) watched (input-stays w rows r place watched is known)
        (heard-known w rows r place false is other)
        ∙ ap (λ (l : List Row). fates watched (heard_at w rows) ++ early_at w place (drop (length (heard_at w rows)) l)) (rows_by false other)
        ∙ sym (known-fates rows (heard_at w rows) watched known refl)

    -- the one by which it is known
    first_early : (is_kept : Bool) (watched : Watched) → is_same_place place r.place ≡ true
        → watched_at w place (datagrams (rows_at place (r ∷ rows))) ≡ Some watched
        → early_at w place (drop (length (if is_kept then rows_at place (r ∷ rows) else r.row ∷ [])) (rows_at place (r ∷ rows)))
        ≡ (if is_kept then [] else early_at w place (rows_at place (r ∷ rows)))
    first_early true watched same known =
        ap (early_at w place) (drop_of_length-le (rows_at place (r ∷ rows)) (omega arith))
    first_early false watched same known =
        let rows' = rows_by true same in
        ap (λ (l : List Row). early_at w place (drop 1 l)) rows'
        ∙ sym (ap (early_at w place) rows'
        ∙ ap (λ (o : Option Watched). early_with o r.row.datagram (early_at w place (rows_at place rows)))
        (ap (λ (l : List Row). watched_at w place (datagrams l)) (sym rows') ∙ known))

    pub first-fates : (is_kept : Bool) (watched : Watched) (heard : List Row) → is_same_place place r.place ≡ true
        → watched_at w place (datagrams (rows_at place (r ∷ rows))) ≡ Some watched → input_watched w (r ∷ rows) ≡ Some watched
        → heard ≡ (if is_kept then rows_at place (r ∷ rows) else r.row ∷ []) → heard_at w (r ∷ rows) ≡ heard
        → input_fates w place (r ∷ rows)
        ≡ fates watched heard ++ (if is_kept then [] else early_at w place (rows_at place (r ∷ rows)))
    first-fates is_kept watched heard same known there those is =
        known-fates (r ∷ rows) heard watched there is
        ∙ ap (λ (l : List Fate). fates watched heard ++ l)
        (ap (λ (h : List Row). early_at w place (drop (length h) (rows_at place (r ∷ rows)))) those
        ∙ first_early is_kept watched same known)

-- what is counted so far, where the place is known, or isn't
pub so_far : (w : WantedPorts) (rows : List PlacedRow) (place : PlaceName) (counts : Counts) → chosen w rows ≡ Some place
    → IsCounts (input_fates w place rows) counts → CountsSoFar w (chosen w rows) rows counts
so_far w rows place counts is so = subst (λ (o : Option PlaceName). CountsSoFar w o rows counts) (sym is) so

pub so_far_known : (w : WantedPorts) (rows : List PlacedRow) (place : PlaceName) (counts : Counts) → chosen w rows ≡ Some place
    → CountsSoFar w (chosen w rows) rows counts → IsCounts (input_fates w place rows) counts
so_far_known w rows place counts is so = subst (λ (o : Option PlaceName). CountsSoFar w o rows counts) is so

pub none_so_far : (w : WantedPorts) (rows : List PlacedRow) (counts : Counts) → chosen w rows ≡ None → IsCounts [] counts
    → CountsSoFar w (chosen w rows) rows counts
none_so_far w rows counts none so = subst (λ (o : Option PlaceName). CountsSoFar w o rows counts) (sym none) so

pub none_known : (w : WantedPorts) (rows : List PlacedRow) (counts : Counts) → chosen w rows ≡ None
    → CountsSoFar w (chosen w rows) rows counts → IsCounts [] counts
none_known w rows counts none so = subst (λ (o : Option PlaceName). CountsSoFar w o rows counts) none so
