-- What is wrong with readings on a journey is found again at the line where it is met.
use Rattle.std.proofs.Common.{◌≡◌, ◌∙◌, ℕ, Bool, true, false, cond, eqb, [], ◌∷◌, length, Option, Some, None}
use Rattle.std.proofs.Common.{inl, inr, refl, sym, ap, subst, is_some}
use Rattle.std.specs.Prelude.{◌||◌, not, nat_lt, option_map, option_and_then}
use Rattle.std.specs.Option.{option_or}
use Rattle.std.proofs.lemmas.Option.{none-some}
use Rattle.network_model.specs.Network.{Network}
use Rattle.network_model.specs.Run.{true_moment}
use Rattle.network_model.specs.Kinds.{is_step, named_transit}
use Rattle.trace_model.specs.declared.finding.Finding.{Finding}
use Rattle.trace_model.specs.declared.finding.Finding.TheVariants as findings
use Rattle.trace_model.specs.declared.line.TraceLine.{TraceLine}
use Rattle.trace_model.specs.Line.{Lines, counts}
use Rattle.trace_model.specs.Record.{LinePlace, line_place, line_number, event_of, site, line_at, last_line, reading, reads_right}
use Rattle.trace_model.specs.Journey.{LineJourney, line_journey_of, line_journey_made}
use Rattle.trace_model.specs.Finding.{broken, reading_finding, stay_finding, stays_finding}
use Rattle.trace_model.proofs.Lines.{line_at-later, line_at-number, line_at-here}
use Rattle.exchange_check.specs.declared.kept_line.WrongReading.{WrongReading}
use Rattle.exchange_check.specs.Evidence.{wrong_reading, wrong_reading_at}
use Rattle.exchange_check.specs.Inner.Finding.{reading_met_by, reading_met}
use Rattle.exchange_check.proofs.JourneysMade.{made-so}
use Rattle.exchange_check.proofs.Options.{or_twice}
use Rattle.exchange_check.proofs.Told.{fact_of, facts_at}
use Rattle.exchange_check.proofs.WrongLines.{line_met, journey_readings}
use Rattle.exchange_check.proofs.WrongReadings.{entered_timed}

module _ (network : Network) where
  -- what is found at a line of this number
  abbrev met_at : ℕ → LinePlace → Option Finding
  met_at n e = reading_met_by n (wrong_reading network e) (fact_of network e)

  abbrev met_in : Lines → ℕ → Option Finding
  met_in lines n = option_and_then (met_at n) (line_at network lines n)

  pub met-is : (lines : Lines) → reading_met (facts_at network lines) (wrong_reading_at network lines) ≡ met_in lines
  met-is lines = λ i n. by n (line_at network lines n) i
    where
      by : (n : ℕ) (o : Option LinePlace)
          → option_and_then (reading_met_by n (option_and_then (wrong_reading network) o)) (option_map (fact_of network) o)
          ≡ option_and_then (met_at n) o
      by n None = refl
      by n (Some e) = refl

  -- a finding is found again where it is met
  abbrev pub IsMet : Lines → Option Finding → Type 0
  IsMet lines found = option_and_then (met_in lines) (option_map line_met found) ≡ found

  pub or_met : (lines : Lines) (one other : Option Finding) → IsMet lines one → IsMet lines other
      → IsMet lines (option_or one other)
  or_met lines None other a b = b
  or_met lines (Some found) other a b = a

  later : (line : TraceLine) (earlier : Lines) (found : Option Finding) → IsMet earlier found → IsMet (line ∷ earlier) found
  later line earlier None h = refl
  later line earlier (Some f) h = by (line_at network earlier (line_met f)) refl h
    where
      by : (o : Option LinePlace) → line_at network earlier (line_met f) ≡ o
          → option_and_then (met_at (line_met f)) o ≡ Some f → IsMet (line ∷ earlier) (Some f)
      by None is h = absurd (none-some f h)
      by (Some e) is h =
          ap (option_and_then (met_at (line_met f))) (line_at-later network line earlier (line_met f) e is) ∙ h

  -- of a line that is there
  module _ (lines : Lines) (x : LinePlace) (there : line_at network lines (line_number x) ≡ Some x) where
    abbrev set : Option ℕ
    set = option_map line_number (last_line network is_step (site x) x.earlier)

    abbrev noted_if : (right timed : Bool) → Option WrongReading
    noted_if right timed = cond (right || not timed) None (Some (record { reading = x.line.reading; set = set }))

    abbrev found_if : (right timed : Bool) → Option ℕ → Option Finding
    found_if right timed named = cond right (option_map (λ entered. findings.Falls entered (line_number x)) named)
        (Some (findings.WrongReading (line_number x) (option_and_then (λ wrong. wrong.set) (noted_if right timed))))

    module _ (timed : is_some (true_moment (event_of x)) ≡ true) where
      reading_if : (right : Bool) → reads_right network x ≡ right
          → IsMet lines (broken right (findings.WrongReading (line_number x) set))
      reading_if true is = refl
      reading_if false is = ap (option_and_then (met_at (line_number x))) there
          ∙ (λ i. found_if (is i) (timed i) (named_transit (event_of x)))

      pub reading-met : IsMet lines (reading_finding network x)
      reading-met = reading_if (reads_right network x) refl

      -- where it ends a stay
      leaving_if : (transit : ℕ) → named_transit (event_of x) ≡ Some transit → (right rises : Bool)
          → reads_right network x ≡ right
          → IsMet lines (option_or (broken right (findings.WrongReading (line_number x) set))
          (option_or (broken rises (findings.Falls transit (line_number x))) None))
      leaving_if transit named false rises is = reading_if false is
      leaving_if transit named true true is = refl
      leaving_if transit named true false is = ap (option_and_then (met_at (line_number x))) there
          ∙ (λ i. found_if (is i) (timed i) (named i))

  -- of a journey with one more line
  module _ (line : TraceLine) (earlier : Lines) (counted : counts network line ≡ true)
      (before : (copy : ℕ) (j : LineJourney) → line_journey_of network earlier copy ≡ Some j
      → IsMet earlier (journey_readings network j)) where
    abbrev e : LinePlace
    e = line_place line earlier

    abbrev fed : Lines
    fed = line ∷ earlier

    here : line_at network fed (length earlier) ≡ Some e
    here = line_at-here network line earlier counted

    met_as : {k : LineJourney} (j : LineJourney) → k ≡ j → IsMet fed (journey_readings network k)
        → IsMet fed (journey_readings network j)
    met_as j same h = subst (λ (x : LineJourney). IsMet fed (journey_readings network x)) same h

    made_met : (j : LineJourney) → line_journey_made network line.event e (line_journey_of network earlier) ≡ Some j
        → IsMet fed (journey_readings network j)
    made_met j h = elim (made-so network e line.event j h) [
      | inl sent ↦ met_as j sent.begun
          (or_met fed (reading_finding network e) None (reading-met fed e here sent.timed) refl)
      | inr left ↦
          let number : line_number left.entered ≡ left.transit =
          line_at-number network earlier left.transit left.entered left.there in
          let itself : line_at network fed (line_number left.entered) ≡ Some left.entered =
          ap (line_at network fed) number ∙ line_at-later network line earlier left.transit left.entered left.there in
          let stay : Option Finding = stay_finding network (record { entered = left.entered; left = e }) in
          let prior = journey_readings network left.prior in
          met_as j left.more (subst (IsMet fed) (or_twice (reading_finding network left.prior.origin)
          (stays_finding (stay_finding network) left.prior.stays) stay)
          (or_met fed prior stay (later line earlier prior (before left.copy left.prior left.known))
          (or_met fed (reading_finding network left.entered) _
          (reading-met fed left.entered itself (entered_timed (event_of left.entered) left.copy left.copied))
          (leaving_if fed e here left.timed (line_number left.entered) (left.named ∙ ap Some (sym number))
          (reads_right network e) (not (nat_lt (reading e) (reading left.entered))) refl))))
    ]

  pub journey-met : (lines : Lines) (copy : ℕ) (j : LineJourney) → line_journey_of network lines copy ≡ Some j
      → IsMet lines (journey_readings network j)
  journey-met [] copy j h = absurd (none-some j h)
  journey-met (line ∷ earlier) copy j h =
      by (eqb (length earlier) copy) (counts network line) refl h (λ c k known. journey-met earlier c k known)
    where
      by : (here counted : Bool) → counts network line ≡ counted
          → cond here (cond counted
          (line_journey_made network line.event (line_place line earlier) (line_journey_of network earlier)) None)
          (line_journey_of network earlier copy) ≡ Some j
          → ((c : ℕ) (k : LineJourney) → line_journey_of network earlier c ≡ Some k
          → IsMet earlier (journey_readings network k))
          → IsMet (line ∷ earlier) (journey_readings network j)
      by false counted is known before = later line earlier (journey_readings network j) (before copy j known)
      by true false is known before = absurd (none-some j known)
      by true true is known before = made_met line earlier is before j known
