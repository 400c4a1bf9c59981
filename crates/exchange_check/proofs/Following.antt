-- Following the stays of a copy finds those of its journey.
use Rattle.std.proofs.Common.{◌≡◌, ◌∙◌, ℕ, zero, suc, ◌<◌, Bool, true, false, ◌&&◌, cond, eqb, []}
use Rattle.std.proofs.Common.{◌∷◌, length, Option, Some, None, inl, inr, refl, sym, ap, subst, arith}
use Rattle.std.specs.Prelude.{option_map, option_and_then, nat_lt, is_some, count_by}
use Rattle.std.specs.Option.{option_map_or}
use Rattle.std.proofs.lemmas.Bool.{eqb-true}
use Rattle.std.proofs.lemmas.Bool.Decides.{nat_tests}
use Rattle.std.proofs.lemmas.Option.{none-some}
use Rattle.network_model.specs.Network.{Network}
use Rattle.network_model.specs.Run.{Run}
use Rattle.network_model.specs.Kinds.{entered_copy, is_leave_of, named_transit}
use Rattle.exchange_check.specs.declared.facts.Fact.{Fact}
use Rattle.trace_model.specs.declared.line.TraceLine.{TraceLine}
use Rattle.trace_model.specs.Line.{Lines, counts}
use Rattle.trace_model.specs.Record.{LinePlace, line_place, line_number, line_at, events}
use Rattle.trace_model.specs.Journey.{LineJourney}
use Rattle.trace_model.specs.Journey.{line_journey_made, line_journey_of, left_once}
use Rattle.exchange_check.specs.Inner.Kept.{Facts, leaves_after}
use Rattle.copy_stays.specs.Leaves.{Leaves, left_again, is_once, once_by}
use Rattle.exchange_check.specs.Inner.Stays.{stay_below, stay_of, last_stays}
use Rattle.exchange_check.proofs.JourneysMade.{made-so}
use Rattle.exchange_check.proofs.Noted.{leaves_at, count_more}
use Rattle.exchange_check.proofs.Passing.{none_made}
use Rattle.exchange_check.proofs.Told.{fact_of, kept_journey_of}
use Rattle.trace_model.specs.Sound.{where_passes}
use Rattle.trace_model.proofs.Lines.{line_at-bound, line_at-number, line_at-later, line_at-here, events_more}

-- how often a stay was left, as it is kept
abbrev ended : ℕ → Option Bool
ended zero = None
ended (suc zero) = Some false
ended (suc (suc n)) = Some true

ended_more : (b : Bool) (n : ℕ) (kept : Option Bool) → kept ≡ ended n
    → cond b (Some (is_some kept)) kept ≡ ended (cond b (suc n) n)
ended_more false n kept h = h
ended_more true zero kept h = ap (λ (o : Option Bool). Some (is_some o)) h
ended_more true (suc zero) kept h = ap (λ (o : Option Bool). Some (is_some o)) h
ended_more true (suc (suc n)) kept h = ap (λ (o : Option Bool). Some (is_some o)) h

leaves_more : (spent : Option ℕ) (leaves : Leaves) (n stay : ℕ) → leaves stay ≡ ended n
    → option_map_or (λ transit. left_again transit leaves) spent leaves stay
    ≡ ended (cond (option_map_or (λ transit. eqb transit stay) spent false) (suc n) n)
leaves_more None leaves n stay h = h
leaves_more (Some transit) leaves n stay h = ended_more (eqb transit stay) n (leaves stay) h

either_ended : (network : Network) (line : TraceLine) (earlier : Lines) (stay : ℕ) (b : Bool) → counts network line ≡ b
    → leaves_at network earlier stay ≡ ended (count_by (is_leave_of stay) (events network earlier))
    → cond b (leaves_after line.event (leaves_at network earlier)) (leaves_at network earlier) stay
    ≡ ended (count_by (is_leave_of stay) (events network (line ∷ earlier)))
either_ended network line earlier stay true c h =
    leaves_more (named_transit line.event) (leaves_at network earlier)
    (count_by (is_leave_of stay) (events network earlier)) stay h
    ∙ sym (ap ended (ap (count_by (is_leave_of stay)) (events_more network line earlier true c)
    ∙ count_more (is_leave_of stay) line.event (events network earlier)))
either_ended network line earlier stay false c h =
    h ∙ sym (ap (λ (r : Run). ended (count_by (is_leave_of stay) r)) (events_more network line earlier false c))

leaves_are : (network : Network) (lines : Lines) (stay : ℕ)
    → leaves_at network lines stay ≡ ended (count_by (is_leave_of stay) (events network lines))
leaves_are network [] stay = refl
leaves_are network (line ∷ earlier) stay =
    either_ended network line earlier stay (counts network line) refl (leaves_are network earlier stay)

ended_once : (n : ℕ) → is_once (ended n) ≡ eqb n 1
ended_once zero = refl
ended_once (suc zero) = refl
ended_once (suc (suc n)) = grind (arith, nat_tests)

-- a stay is kept as left once where one line alone left it
pub once_is : (network : Network) (lines : Lines) (stay : ℕ)
    → is_once (leaves_at network lines stay) ≡ eqb (count_by (is_leave_of stay) (events network lines)) 1
once_is network lines stay =
    ap is_once (leaves_are network lines stay) ∙ ended_once (count_by (is_leave_of stay) (events network lines))

module _ (network : Network) (facts : Facts) (leaves : Leaves) (run : Run)
    (ends : (stay : ℕ) → is_once (leaves stay) ≡ eqb (count_by (is_leave_of stay) run) 1) where
  abbrev Keeps : Lines → Type 0
  Keeps lines = (n : ℕ) (e : LinePlace) → line_at network lines n ≡ Some e → facts n ≡ Some (fact_of network e)

  abbrev IsFollowed : ℕ → LineJourney → Type 0
  IsFollowed copy j = (count : ℕ) → copy < count → once_by (last_stays facts) leaves count copy ≡ left_once run j

  below_found : (copy transit : ℕ) → transit < copy → nat_lt transit copy ≡ true
  below_found copy transit h = grind (arith, nat_tests)

  stay_found : (copy transit c : ℕ) (fact en : Fact) → facts copy ≡ Some fact → is_some fact.journey ≡ true
      → named_transit fact.event ≡ Some transit → transit < copy → facts transit ≡ Some en
      → entered_copy en.event ≡ Some c → c < copy → last_stays facts copy ≡ Some (transit, c)
  stay_found copy transit c fact en a has_journey b in_transit d f in_copy =
      ap (λ (o : Option Fact). option_and_then (stay_of facts copy) o) a
      ∙ (λ i. cond (has_journey i) (option_and_then (stay_below facts copy) (b i)) None)
      ∙ (λ i. option_and_then (λ (x : Fact). option_map (λ k. (transit, k))
      (where_passes (λ k. nat_lt k copy) (entered_copy x.event)))
      (cond (below_found copy transit in_transit i) (d i) None))
      ∙ ap (λ (o : Option ℕ). option_map (λ k. (transit, k)) (where_passes (λ k. nat_lt k copy) o)) f
      ∙ (λ i. option_map (λ k. (transit, k)) (cond (below_found copy c in_copy i) (Some c) None))

  no_stay : (copy : ℕ) (fact : Fact) → facts copy ≡ Some fact → named_transit fact.event ≡ None
      → last_stays facts copy ≡ None
  no_stay copy fact a b = ap (λ (o : Option Fact). option_and_then (stay_of facts copy) o) a
      ∙ none_made facts copy fact b

  follow_one : (copy transit c : ℕ) (rest : Bool) → last_stays facts copy ≡ Some (transit, c) → c < copy
      → ((count : ℕ) → c < count → once_by (last_stays facts) leaves count c ≡ rest)
      → (count : ℕ) → copy < count
      → once_by (last_stays facts) leaves count copy ≡ (eqb (count_by (is_leave_of transit) run) 1 && rest)
  follow_one copy transit c rest found below known zero within = absurd (omega arith)
  follow_one copy transit c rest found below known (suc n) within =
      let fits : c < n = omega arith in
      ap (λ (o : Option (ℕ × ℕ)). option_map_or
      (λ s. is_once (leaves s.0) && once_by (last_stays facts) leaves n s.1) o true) found
      ∙ (λ i. ends transit i && known n fits i)

  follow_none : (copy : ℕ) → last_stays facts copy ≡ None → (count : ℕ) → copy < count
      → once_by (last_stays facts) leaves count copy ≡ true
  follow_none copy found zero within = absurd (omega arith)
  follow_none copy found (suc n) within =
      ap (λ (o : Option (ℕ × ℕ)). option_map_or
      (λ s. is_once (leaves s.0) && once_by (last_stays facts) leaves n s.1) o true) found

  module _ (line : TraceLine) (earlier : Lines) (counted : counts network line ≡ true) (keeps : Keeps (line ∷ earlier))
      (before : (n : ℕ) (j : LineJourney) → line_journey_of network earlier n ≡ Some j → IsFollowed n j) where
    abbrev e : LinePlace
    e = line_place line earlier

    at_line : facts (length earlier) ≡ Some (fact_of network e)
    at_line = keeps (length earlier) e (line_at-here network line earlier counted)

    made_followed : (j : LineJourney)
        → line_journey_made network line.event e (line_journey_of network earlier) ≡ Some j → IsFollowed (length earlier) j
    made_followed j h = elim (made-so network e line.event j h) [
      | inl sent ↦ follow_as j sent.begun (follow_none (length earlier)
          (no_stay (length earlier) (fact_of network e) at_line sent.alone))
      | inr left ↦
          let number : line_number left.entered ≡ left.transit =
          line_at-number network earlier left.transit left.entered left.there in
          let inside : left.transit < length earlier = line_at-bound network earlier left.transit left.entered left.there in
          let below : left.copy < length earlier = omega (arith, left.low) in
          let found = stay_found (length earlier) left.transit left.copy (fact_of network e)
          (fact_of network left.entered) at_line
          (ap (λ (o : Option LineJourney). is_some (option_map (kept_journey_of network) o)) h) left.named inside
          (keeps left.transit left.entered (line_at-later network line earlier left.transit left.entered left.there))
          left.copied below in
          follow_as j left.more (λ count within. follow_one (length earlier) left.transit left.copy
          (left_once run left.prior) found below (before left.copy left.prior left.known) count within
          ∙ (λ i. eqb (count_by (is_leave_of (sym number i)) run) 1 && left_once run left.prior))
    ]
      where
        follow_as : {k : LineJourney} (x : LineJourney) → k ≡ x → IsFollowed (length earlier) k → IsFollowed (length earlier) x
        follow_as x same known = subst (λ (y : LineJourney). IsFollowed (length earlier) y) same known

  either_followed : (line : TraceLine) (earlier : Lines) (n : ℕ) (j : LineJourney) (here counted : Bool)
      → eqb (length earlier) n ≡ here → counts network line ≡ counted → Keeps (line ∷ earlier)
      → ((m : ℕ) (k : LineJourney) → line_journey_of network earlier m ≡ Some k → IsFollowed m k)
      → cond here (cond counted (line_journey_made network line.event (line_place line earlier)
      (line_journey_of network earlier)) None) (line_journey_of network earlier n) ≡ Some j → IsFollowed n j
  either_followed line earlier n j true true p c keeps before h =
      let P : ℕ → Type 0 = λ m. IsFollowed m j in
      subst P (eqb-true (length earlier) n p) (made_followed line earlier c keeps before j h)
  either_followed line earlier n j true false p c keeps before h = absurd (none-some j h)
  either_followed line earlier n j false counted p c keeps before h = before n j h

  -- following the stays finds whether each was left once
  pub followed_is : (lines : Lines) (n : ℕ) (j : LineJourney) → Keeps lines → line_journey_of network lines n ≡ Some j
      → (count : ℕ) → n < count → once_by (last_stays facts) leaves count n ≡ left_once run j
  followed_is [] n j keeps h = absurd (none-some j h)
  followed_is (line ∷ earlier) n j keeps h =
      either_followed line earlier n j (eqb (length earlier) n) (counts network line) refl refl keeps
      (λ m k g. followed_is earlier m k (λ x e there. keeps x e (line_at-later network line earlier x e there)) g) h
