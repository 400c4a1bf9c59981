-- The message that the line of a number made, and the last stay of its copy, by what is kept and by the lines.
use Rattle.std.proofs.Common.{◌≡◌, ◌∙◌, ℕ, ◌<◌, ◌≤◌, Bool, true, false, cond, eqb, List, [], ◌∷◌, length}
use Rattle.std.proofs.Common.{Option, Some, None, inl, inr, refl, sym, ap, subst, arith}
use Rattle.std.specs.Prelude.{option_map, option_and_then, nat_lt, slice_get, is_some, drop}
use Rattle.std.proofs.lemmas.Bool.{ltb-true}
use Rattle.std.proofs.lemmas.Bool.Decides.{nat_tests}
use Rattle.std.proofs.lemmas.Option.{same_Some, none-some}
use Rattle.event_codec.specs.Packet.{Contents}
use Rattle.network_model.specs.declared.event.Event.{Event}
use Rattle.network_model.specs.declared.event.Event.TheVariants.{Sync, SyncOne, Follow, Leave, Arrive, Hear, Request}
use Rattle.network_model.specs.Network.{Network, NodeName, PortSetup}
use Rattle.network_model.specs.Run.{site_of}
use Rattle.network_model.specs.Kinds.{is_sync, entered_copy, named_transit}
use Rattle.network_model.specs.Truth.{master_at}
use Rattle.trace_model.specs.declared.line.TraceLine.{TraceLine}
use Rattle.trace_model.specs.Line.{Lines, counts}
use Rattle.trace_model.specs.Record.{LinePlace, line_place, line_number, event_of, line_at, last_line, reading}
use Rattle.trace_model.specs.Journey.{LineStay, LineJourney, line_journey_made, line_journey_of}
use Rattle.trace_model.specs.Octets.{answered, message_made}
use Rattle.trace_model.proofs.Lines.{line_at-bound, line_at-number, line_at-before}
use Rattle.exchange_check.specs.Exchange.{stay_told}
use Rattle.exchange_check.specs.Message.{message_at}
use Rattle.exchange_check.specs.Inner.Kept.{Facts, kept_journey_at, message_after_by, followed_by, answered_by}
use Rattle.exchange_check.specs.Inner.Telling.{stay_by, stay_left, last_stay_by, message_again, message_at_by}
use Rattle.exchange_check.proofs.Noted.{cond_same}
use Rattle.exchange_check.proofs.Told.{kept_journey_of, fact_of, facts_at, journey_from, journey_of-line_at}
use Rattle.exchange_check.proofs.Told.{kept_journey_at-is}
use Rattle.exchange_check.proofs.JourneysMade.{made-so}
use Rattle.exchange_check.proofs.FactLines.{follow_at, message_of, answer_at, left_there, sent_at}

-- the lines before a line are among those that it is among
either_among : (network : Network) (line : TraceLine) (earlier : Lines) (n : ℕ) (e : LinePlace) (here counted : Bool)
    → eqb (length earlier) n ≡ here
    → (line_at network earlier n ≡ Some e → (m : ℕ) → m < line_number e
    → line_at network earlier m ≡ line_at network e.earlier m)
    → cond here (cond counted (Some (line_place line earlier)) None) (line_at network earlier n) ≡ Some e
    → (m : ℕ) → m < line_number e → line_at network (line ∷ earlier) m ≡ line_at network e.earlier m
either_among network line earlier n e true true p before h =
    let P : LinePlace → Type 0 =
    λ x. (m : ℕ) → m < line_number x → line_at network (line ∷ earlier) m ≡ line_at network x.earlier m in
    subst P (same_Some _ _ h) (λ m low. line_at-before network line earlier m (grind (arith, nat_tests)))
either_among network line earlier n e true false p before h = absurd (none-some e h)
either_among network line earlier n e false counted p before h = λ m low.
    let number : line_number e ≡ n = line_at-number network earlier n e h in
    let inside : n < length earlier = line_at-bound network earlier n e h in
    line_at-before network line earlier m (grind (arith, nat_tests)) ∙ before h m low

line_at-among : (network : Network) (lines : Lines) (n : ℕ) (e : LinePlace) → line_at network lines n ≡ Some e
    → (m : ℕ) → m < line_number e → line_at network lines m ≡ line_at network e.earlier m
line_at-among network [] n e h = absurd (none-some e h)
line_at-among network (line ∷ earlier) n e h =
    either_among network line earlier n e (eqb (length earlier) n) (counts network line) refl
    (line_at-among network earlier n e) h

-- no line has the number of lines, or a later one
line_at-past : (network : Network) (lines : Lines) (n : ℕ) → length lines ≤ n → line_at network lines n ≡ None
line_at-past network lines n past = by (line_at network lines n) refl
  where
    by : (o : Option LinePlace) → line_at network lines n ≡ o → o ≡ None
    by None h = refl
    by (Some e) h =
        let inside : n < length lines = line_at-bound network lines n e h in
        absurd (omega (arith, inside, past))

module _ (network : Network) (lines : Lines) where
  -- what comes before the last stay of a copy's journey: the journey of the copy that entered there
  abbrev pub IsBefore : ℕ → LineStay → List LineStay → Type 0
  IsBefore left stay rest = (copy : ℕ) × (journey : LineJourney) × (entered_copy (event_of stay.entered) ≡ Some copy)
      × (line_journey_of network lines copy ≡ Some journey) × (journey.stays ≡ rest) × (copy < left)

module _ (network : Network) (lines : Lines) (number : ℕ) (e : LinePlace)
    (there : line_at network lines number ≡ Some e) where
  abbrev facts : Facts
  facts = facts_at network lines

  among : (n : ℕ) (x : LinePlace) → line_at network e.earlier n ≡ Some x → line_at network lines n ≡ Some x
  among n x h =
      line_at-among network lines number e there n (line_at-bound network e.earlier n x h) ∙ h

  nothing_to : (f : PortSetup → Option Contents) (o : Option PortSetup) → ((port : PortSetup) → f port ≡ None)
      → option_and_then f o ≡ None
  nothing_to f None h = refl
  nothing_to f (Some port) h = h port

  no_journey : (copy : ℕ) → line_number e ≤ copy → line_journey_of network e.earlier copy ≡ None
  no_journey copy past = journey_of-line_at network e.earlier copy
      ∙ ap (λ (o : Option LinePlace). option_and_then (journey_from network) o)
      (line_at-past network e.earlier copy past)

  journey_before : (copy : ℕ) → copy < line_number e
      → line_journey_of network lines copy ≡ line_journey_of network e.earlier copy
  journey_before copy low = journey_of-line_at network lines copy
      ∙ ap (λ (o : Option LinePlace). option_and_then (journey_from network) o)
      (line_at-among network lines number e there copy low)
      ∙ sym (journey_of-line_at network e.earlier copy)

  heard_before : (copy : ℕ) → copy < line_number e
      → kept_journey_at facts copy ≡ option_map (kept_journey_of network) (line_journey_of network e.earlier copy)
  heard_before copy low = kept_journey_at-is network lines copy
      ∙ ap (λ (o : Option LineJourney). option_map (kept_journey_of network) o) (journey_before copy low)

  answer_is : (node : NodeName) (copy : ℕ) (b : Bool) → nat_lt copy (line_number e) ≡ b
      → cond b (option_and_then (λ port. answered_by network facts port (reading e) (kept_journey_at facts copy))
      (master_at network node)) None
      ≡ option_and_then (λ port. option_and_then (answered network port e) (line_journey_of network e.earlier copy))
      (master_at network node)
  answer_is node copy true h =
      answer_at network e lines among copy (heard_before copy (ltb-true copy (line_number e) h))
      (master_at network node)
  answer_is node copy false h =
      let past : line_number e ≤ copy = grind (arith, nat_tests) in
      sym (nothing_to (λ port. option_and_then (answered network port e) (line_journey_of network e.earlier copy))
      (master_at network node)
      (λ port. ap (λ (o : Option LineJourney). option_and_then (answered network port e) o) (no_journey copy past)))

  -- the message, from the line's event
  made_by : (event : Event) → event ≡ event_of e
      → message_again network facts (record (fact_of network e) { event = event }) ≡ message_made network event e
  made_by (Sync node at) same = sent_at network e (Sync node at) same
  made_by (SyncOne node at) same = sent_at network e (SyncOne node at) same
  made_by (Follow node) same =
      ap (λ (name : NodeName). option_and_then
      (λ port. followed_by facts port (option_map line_number (last_line network is_sync name e.earlier)))
      (master_at network node)) (sym (ap site_of same))
      ∙ follow_at network e lines among node (master_at network node) refl
  made_by (Leave node transit at) same =
      ap (λ (x : Event). option_and_then (message_after_by network facts) (option_map (kept_journey_of network)
      (line_journey_made network x e (line_journey_of network e.earlier)))) (sym same)
      ∙ message_of network e lines among
      (line_journey_made network (Leave node transit at) e (line_journey_of network e.earlier))
      (left_there network e node transit at)
  made_by (Arrive node copy at) same = answer_is node copy (nat_lt copy (line_number e)) refl
  made_by (Hear node copy) same = cond_same (nat_lt copy (line_number e)) None
  made_by (Request node at) same = sent_at network e (Request node at) same
  made_by _ same = refl

  -- the last stay
  stay_is : (o : Option LineJourney) → journey_from network e ≡ o
      → cond (is_some (option_map (kept_journey_of network) o))
      (option_and_then (λ transit. option_map (λ fact. stay_by fact (fact_of network e)) (facts transit))
      (named_transit (event_of e))) None
      ≡ option_and_then (λ journey. option_map (stay_told network) (slice_get journey.stays 0)) o
  stay_is None h = refl
  stay_is (Some j) h = elim (made-so network e (event_of e) j h) [
    | inl sent ↦ (λ i. option_and_then
        (λ transit. option_map (λ fact. stay_by fact (fact_of network e)) (facts transit)) (sent.alone i))
        ∙ ap (λ (x : LineJourney). option_map (stay_told network) (slice_get x.stays 0)) sent.begun
    | inr left ↦ (λ i. option_and_then
        (λ transit. option_map (λ fact. stay_by fact (fact_of network e)) (facts transit)) (left.named i))
        ∙ ap (λ (o : Option LinePlace). option_map (λ fact. stay_by fact (fact_of network e)) (option_map (fact_of network) o))
        (among left.transit left.entered left.there)
        ∙ ap (λ (x : LineJourney). option_map (stay_told network) (slice_get x.stays 0)) left.more
  ]

  made_before : (j : LineJourney) (stay : LineStay) (rest : List LineStay)
      → line_journey_made network (event_of e) e (line_journey_of network e.earlier) ≡ Some j
      → j.stays ≡ stay ∷ rest → IsBefore network lines (line_number e) stay rest
  made_before j stay rest made h = elim (made-so network e (event_of e) j made) [
    | inl sent ↦ absurd (none-some stay (ap (λ (x : LineJourney). slice_get x.stays 0) sent.begun
        ∙ ap (λ (l : List LineStay). slice_get l 0) h))
    | inr left ↦
        let number : line_number left.entered ≡ left.transit =
        line_at-number network e.earlier left.transit left.entered left.there in
        let inside : left.transit < line_number e = line_at-bound network e.earlier left.transit left.entered left.there in
        let low : left.copy < line_number e = omega (arith, number, inside, left.low) in
        let stays = ap (λ (x : LineJourney). x.stays) left.more ∙ h in
        let same = same_Some _ _ (ap (λ (l : List LineStay). slice_get l 0) stays) in (
          left.copy,
          left.prior,
          ap (λ (x : LineStay). entered_copy (event_of x.entered)) (sym same) ∙ left.copied,
          journey_before left.copy low ∙ left.known,
          ap (λ (l : List LineStay). drop 1 l) stays,
          low,
        )
  ]

module _ (network : Network) (lines : Lines) (number : ℕ) where
  message_found : (o : Option LinePlace) → line_at network lines number ≡ o
      → option_and_then (message_again network (facts_at network lines)) (option_map (fact_of network) o)
      ≡ option_and_then (λ e. message_made network (event_of e) e) o
  message_found None h = refl
  message_found (Some e) h = made_by network lines number e h (event_of e) refl

  -- the message of the line of a number, by what is kept of all lines
  pub message_at_by-is : message_at_by network (facts_at network lines) number ≡ message_at network lines number
  message_at_by-is = message_found (line_at network lines number) refl

  stay_found : (o : Option LinePlace) → line_at network lines number ≡ o
      → option_and_then (stay_left (facts_at network lines)) (option_map (fact_of network) o)
      ≡ option_and_then (λ journey. option_map (stay_told network) (slice_get journey.stays 0))
      (option_and_then (journey_from network) o)
  stay_found None h = refl
  stay_found (Some e) h = stay_is network lines number e h (journey_from network e) refl

  -- the last stay of the copy of a number, by what is kept of all lines
  pub last_stay_by-is : last_stay_by (facts_at network lines) number
      ≡ option_and_then (λ journey. option_map (stay_told network) (slice_get journey.stays 0))
      (line_journey_of network lines number)
  last_stay_by-is = stay_found (line_at network lines number) refl
      ∙ sym (ap (λ (o : Option LineJourney). option_and_then
      (λ journey. option_map (stay_told network) (slice_get journey.stays 0)) o)
      (journey_of-line_at network lines number))

  stay_before_found : (o : Option LinePlace) (j : LineJourney) (stay : LineStay) (rest : List LineStay)
      → line_at network lines number ≡ o → option_and_then (journey_from network) o ≡ Some j
      → j.stays ≡ stay ∷ rest → IsBefore network lines number stay rest
  stay_before_found None j stay rest at made h = absurd (none-some j made)
  stay_before_found (Some e) j stay rest at made h =
      let same : line_number e ≡ number = line_at-number network lines number e at in
      subst (λ (n : ℕ). IsBefore network lines n stay rest) same
      (made_before network lines number e at j stay rest made h)

  -- the journey before the last stay of a copy
  pub stay_before : (j : LineJourney) (stay : LineStay) (rest : List LineStay)
      → line_journey_of network lines number ≡ Some j → j.stays ≡ stay ∷ rest → IsBefore network lines number stay rest
  stay_before j stay rest journey h = stay_before_found (line_at network lines number) j stay rest refl
      (sym (journey_of-line_at network lines number) ∙ journey) h
