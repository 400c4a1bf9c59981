-- What is told at the end, by what is kept.
use Rattle.std.proofs.Common.{◌≡◌, ◌∙◌, ℕ, zero, suc, ◌<◌, Bool, true, List, [], ◌∷◌, length, map, Option, Some, None}
use Rattle.std.proofs.Common.{refl, sym, ap, subst, arith}
use Rattle.std.specs.Prelude.{get_or, slice_get, option_map, if◌then◌else◌}
use Rattle.std.specs.Option.{option_map_or}
use Rattle.recording_measure.specs.declared.listener.Listener.{Listener}
use Rattle.recording_measure.specs.declared.measuring.Stage.{Stage}
use Rattle.recording_measure.specs.declared.measuring.Stage.TheVariants.{Looking, Hearing}
use Rattle.recording_measure.specs.declared.recording.Recording.{Recording}
use Rattle.recording_measure.specs.declared.watch.WantedPorts.{WantedPorts}
use Rattle.recording_measure.specs.Row.{datagrams}
use Rattle.recording_measure.specs.Places.{PlaceName, PlacedRow, rows_at, rows_looked_at, is_among, places_in}
use Rattle.recording_measure.specs.Chosen.{chosen}
use Rattle.recording_measure.specs.Counts.{Fate, early_at, input_fates, told_fates, IsCounts}
use Rattle.recording_measure.specs.Summary.{whom_in, told_whom}
use Rattle.recording_measure.specs.Told.{place_in, place_at}
use Rattle.recording_measure.specs.Inner.Measuring.{IsStage}
use Rattle.recording_measure.specs.Inner.Recordings.{AreRecordings, IsFoundAt}

-- ---- which place is measured
at_place : (index : ℕ) (known : List Recording) (place : Option PlaceName) → index < length known
    → ((d : Recording) → place ≡ Some (place_in (get_or known index d)))
    → option_map place_in (slice_get known index) ≡ place
at_place zero [] place within is = absurd (omega (arith, within))
at_place (suc index) [] place within is = absurd (omega (arith, within))
at_place zero (one ∷ others) place within is = sym (is one)
at_place (suc index) (one ∷ others) place within is = at_place index others place (omega (arith, within)) is

pub place_chosen : (w : WantedPorts) (rows : List PlacedRow) (known : List Recording) (stage : Stage)
    → IsStage w rows known stage → place_at stage known ≡ chosen w rows
place_chosen w rows known (Looking count) (none, are, few) = sym none
place_chosen w rows known (Hearing index listener) (watched, within, is, of, listens) = at_place index known (chosen w rows) within is

pub is_looking : (w : WantedPorts) (rows : List PlacedRow) (known : List Recording) (stage : Stage) → IsStage w rows known stage
    → ((index : ℕ) (listener : Listener) → stage ≡ Hearing index listener → ⊥) → (chosen w rows ≡ None) × AreRecordings w rows known
is_looking w rows known (Looking count) (none, are, few) other = (none, are)
is_looking w rows known (Hearing index listener) is other = absurd (other index listener refl)

-- ---- while it isn't
module _ (w : WantedPorts) (rows : List PlacedRow) (none : chosen w rows ≡ None) where
  whom_unchosen : told_whom w rows ≡ whom_in w (datagrams (rows_looked_at None rows))
  whom_unchosen = ap (λ (o : Option PlaceName). whom_in w (datagrams (option_map_or (λ i. rows_at i rows) o (rows_looked_at None rows)))) none

  fates_unchosen : told_fates w rows ≡ early_at w None (rows_looked_at None rows)
  fates_unchosen =
      ap (λ (o : Option PlaceName). option_map_or (λ i. input_fates w i rows) o (early_at w None (rows_looked_at None rows))) none

  rows_looked : (there : Bool) → is_among None (places_in rows) ≡ there
      → rows_looked_at None rows ≡ (if there then rows_at None rows else [])
  rows_looked there is = ap (λ b. if b then rows_at None rows else []) is

  module _ (known : List Recording) (are : AreRecordings w rows known) (index : ℕ)
      (found : IsFoundAt None (map place_in known) (Some index) known) where
    among : is_among None (places_in rows) ≡ true
    among = ap (is_among None) (sym are.places) ∙ found.0

    pub counts_there : (d : Recording) → IsCounts (told_fates w rows) (get_or known index d).early.counts
    counts_there d =
        subst (λ (all : List Fate). IsCounts all (get_or known index d).early.counts)
        (ap (λ (i : PlaceName). early_at w i (rows_at i rows)) (found.2 d)
        ∙ sym (fates_unchosen ∙ ap (early_at w None) (rows_looked true among)))
        (are.each index d found.1).early
