-- Events of a run, whose list has the oldest first.
use Rattle.std.proofs.Common.{◌≡◌, ◌∙◌, ℕ, ◌==◌, Bool, true, false, List, [], ◌∷◌, length, reverse, slice_get, if◌then◌else◌, Some, option_map, refl, sym, ap}
use Rattle.std.proofs.lemmas.List.{reverse-append, length-reverse, reverse-reverse}
use Rattle.network_model.specs.declared.event.Event.{Event}
use Rattle.network_model.specs.Run.{Run, Place, place, place_at}
use Rattle.world_model.proofs.Entries.{get-push}

-- the event of a number
place_at-run : (run : Run) (number : ℕ) → slice_get (reverse run) number ≡ option_map (λ (p : Place). p.event) (place_at run number)
place_at-run [] number = refl
place_at-run (event ∷ earlier) number =
    ap (λ (es : List Event). slice_get es number) (reverse-append (event ∷ []) earlier) ∙ get-push (reverse earlier) event number
    ∙ ap (λ (n : ℕ). if n == number then Some event else slice_get (reverse earlier) number) (length-reverse earlier) ∙ by_test (length earlier == number) (place_at-run earlier number)
  where
    by_test : (b : Bool) → slice_get (reverse earlier) number ≡ option_map (λ (p : Place). p.event) (place_at earlier number)
        → (if b then Some event else slice_get (reverse earlier) number)
        ≡ option_map (λ (p : Place). p.event) (if b then Some (place event earlier) else place_at earlier number)
    by_test true rest = refl
    by_test false rest = rest

pub place_at_reverse : (events : List Event) (number : ℕ) → option_map (λ (p : Place). p.event) (place_at (reverse events) number) ≡ slice_get events number
place_at_reverse events number = sym (place_at-run (reverse events) number) ∙ ap (λ (es : List Event). slice_get es number) (reverse-reverse events)
