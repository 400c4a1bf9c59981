-- The stays of a journey, one after the other.
use Rattle.std.proofs.Common.{◌≡◌, ◌∙◌, ℕ, zero, suc, ◌+◌, List, [], ◌∷◌, Option, Some, None, ◌⊎◌, inl, inr}
use Rattle.std.proofs.Common.{refl, sym, ap, subst, arith}
use Rattle.std.specs.Prelude.{option_map, option_and_then, slice_get, drop, sum_by}
use Rattle.network_model.specs.Network.{Network}
use Rattle.trace_model.specs.Line.{Lines}
use Rattle.trace_model.specs.Journey.{LineStay, LineJourney, line_stay_length, line_residence, line_journey_of}
use Rattle.exchange_check.specs.declared.exchange.Stay.{Stay}
use Rattle.exchange_check.specs.declared.facts.KeptJourney.{KeptJourney}
use Rattle.exchange_check.specs.Exchange.{stay_told}
use Rattle.exchange_check.specs.Inner.Kept.{Facts}
use Rattle.exchange_check.specs.Inner.Telling.{copy_at, stay_of_copy, copy_before, earlier_by}
use Rattle.exchange_check.proofs.Told.{kept_journey_of, facts_at, kept_journey_at-is}
use Rattle.exchange_check.proofs.Made.{last_stay_by-is, stay_before}

pub copy_before-zero : (facts : Facts) (copy : Option ℕ) → copy_before facts 0 copy ≡ copy
unfolding copy_before
copy_before-zero facts copy = refl

copy_before-suc : (facts : Facts) (count : ℕ) (copy : Option ℕ)
    → copy_before facts (suc count) copy ≡ copy_at (stay_of_copy facts (copy_before facts count copy))
unfolding copy_before
copy_before-suc facts count copy = refl

pub copy_before-more : (facts : Facts) (count : ℕ) (copy : Option ℕ)
    → copy_before facts (count + 1) copy ≡ copy_at (stay_of_copy facts (copy_before facts count copy))
copy_before-more facts count copy =
    let more : count + 1 ≡ suc count = omega arith in
    ap (λ (n : ℕ). copy_before facts n copy) more ∙ copy_before-suc facts count copy

drop-suc : {X : Type 0} (xs : List X) (n : ℕ) → drop (suc n) xs ≡ drop 1 (drop n xs)
drop-suc xs zero = refl
drop-suc [] (suc n) = refl
drop-suc (x ∷ xs) (suc n) = drop-suc xs n

slice_get-drop : {X : Type 0} (xs : List X) (n : ℕ) → slice_get xs n ≡ slice_get (drop n xs) 0
slice_get-drop [] zero = refl
slice_get-drop (x ∷ xs) zero = refl
slice_get-drop [] (suc n) = refl
slice_get-drop (x ∷ xs) (suc n) = slice_get-drop xs n

same_value : (told : LineStay → Stay) (value : ℕ) (o : Option LineStay)
    → option_and_then (λ stay. Some value) (option_map told o) ≡ option_map (λ stay. value) o
same_value told value None = refl
same_value told value (Some stay) = refl

module _ (network : Network) (lines : Lines) where
  abbrev facts : Facts
  facts = facts_at network lines

  -- a copy whose journey has the stays of a journey before its last ones, or no copy where there are none
  abbrev IsLeft : List LineStay → Option ℕ → Type 0
  IsLeft stays copy =
      ((number : ℕ) × (journey : LineJourney) × (copy ≡ Some number)
      × (line_journey_of network lines number ≡ Some journey) × (journey.stays ≡ stays))
      ⊎ ((copy ≡ None) × (stays ≡ []))

  last_of : (number : ℕ) (journey : LineJourney) → line_journey_of network lines number ≡ Some journey
      → stay_of_copy facts (Some number) ≡ option_map (stay_told network) (slice_get journey.stays 0)
  last_of number journey h = last_stay_by-is network lines number
      ∙ ap (λ (o : Option LineJourney). option_and_then
      (λ journey. option_map (stay_told network) (slice_get journey.stays 0)) o) h

  copy_next : (number : ℕ) (journey : LineJourney) (stays : List LineStay) (copy : Option ℕ) → copy ≡ Some number
      → line_journey_of network lines number ≡ Some journey → journey.stays ≡ stays
      → copy_at (stay_of_copy facts copy) ≡ copy_at (option_map (stay_told network) (slice_get stays 0))
  copy_next number journey stays copy is h all =
      ap (λ (o : Option ℕ). copy_at (stay_of_copy facts o)) is
      ∙ ap copy_at (last_of number journey h)
      ∙ ap (λ (l : List LineStay). copy_at (option_map (stay_told network) (slice_get l 0))) all

  step : (number : ℕ) (journey : LineJourney) (stays : List LineStay) (copy : Option ℕ) → copy ≡ Some number
      → line_journey_of network lines number ≡ Some journey → journey.stays ≡ stays
      → IsLeft (drop 1 stays) (copy_at (stay_of_copy facts copy))
  step number journey [] copy is h all = inr (copy_next number journey [] copy is h all, refl)
  step number journey (stay ∷ rest) copy is h all =
      let before = stay_before network lines number journey stay rest h all in
      let found = copy_next number journey (stay ∷ rest) copy is h all in
      inl (before.0, before.1, found ∙ before.2, before.3, before.4)

  next : (stays : List LineStay) (copy : Option ℕ) → IsLeft stays copy
      → IsLeft (drop 1 stays) (copy_at (stay_of_copy facts copy))
  next stays copy (inl found) = step found.0 found.1 stays copy found.2 found.3 found.4
  next stays copy (inr gone) = inr (
    ap (λ (o : Option ℕ). copy_at (stay_of_copy facts o)) gone.0,
    ap (λ (l : List LineStay). drop 1 l) gone.1,
  )

  module _ (number : ℕ) (journey : LineJourney) (h : line_journey_of network lines number ≡ Some journey) where
    walk : (n : ℕ) → IsLeft (drop n journey.stays) (copy_before facts n (Some number))
    walk zero = inl (number, journey, copy_before-zero facts (Some number), h, refl)
    walk (suc n) = subst (λ (l : List LineStay). IsLeft l (copy_before facts (suc n) (Some number)))
        (sym (drop-suc journey.stays n))
        (subst (λ (o : Option ℕ). IsLeft (drop 1 (drop n journey.stays)) o)
        (sym (copy_before-suc facts n (Some number)))
        (next (drop n journey.stays) (copy_before facts n (Some number)) (walk n)))

    stay_left : (n : ℕ) (copy : Option ℕ) → IsLeft (drop n journey.stays) copy
        → stay_of_copy facts copy ≡ option_map (stay_told network) (slice_get (drop n journey.stays) 0)
    stay_left n copy (inl found) = ap (stay_of_copy facts) found.2 ∙ last_of found.0 found.1 found.3
        ∙ ap (λ (l : List LineStay). option_map (stay_told network) (slice_get l 0)) found.4
    stay_left n copy (inr gone) = ap (stay_of_copy facts) gone.0
        ∙ sym (ap (λ (l : List LineStay). option_map (stay_told network) (slice_get l 0)) gone.1)

    -- each stay, by what is kept
    pub stay_walked : (n : ℕ) → stay_of_copy facts (copy_before facts n (Some number))
        ≡ option_map (stay_told network) (slice_get journey.stays n)
    stay_walked n = stay_left n (copy_before facts n (Some number)) (walk n)
        ∙ sym (ap (λ (o : Option LineStay). option_map (stay_told network) o) (slice_get-drop journey.stays n))

    earlier_left : (n : ℕ) (copy : Option ℕ) → IsLeft (drop n journey.stays) copy
        → earlier_by facts copy
        ≡ option_map (λ stay. sum_by line_stay_length (drop n journey.stays)) (slice_get (drop n journey.stays) 0)
    earlier_left n copy (inl found) =
        ap (earlier_by facts) found.2
        ∙ (λ i. option_and_then (λ stay. option_map (λ (kept : KeptJourney). kept.residence)
        ((kept_journey_at-is network lines found.0
        ∙ ap (λ (o : Option LineJourney). option_map (kept_journey_of network) o) found.3) i))
        (last_of found.0 found.1 found.3 i))
        ∙ same_value (stay_told network) (line_residence found.1) (slice_get found.1.stays 0)
        ∙ ap (λ (l : List LineStay). option_map (λ stay. sum_by line_stay_length l) (slice_get l 0)) found.4
    earlier_left n copy (inr gone) =
        ap (earlier_by facts) gone.0
        ∙ sym (ap (λ (l : List LineStay). option_map (λ stay. sum_by line_stay_length l) (slice_get l 0)) gone.1)

    -- how long the message was in clocks before so many last stays, by what is kept
    pub earlier_walked : (n : ℕ) → earlier_by facts (copy_before facts n (Some number))
        ≡ option_map (λ stay. sum_by line_stay_length (drop n journey.stays)) (slice_get journey.stays n)
    earlier_walked n = earlier_left n (copy_before facts n (Some number)) (walk n)
        ∙ sym (ap (λ (o : Option LineStay). option_map (λ stay. sum_by line_stay_length (drop n journey.stays)) o)
        (slice_get-drop journey.stays n))
