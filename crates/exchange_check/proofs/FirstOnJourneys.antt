-- The first message on the journey of a copy of which something is found, with one more line.
use Rattle.std.proofs.Common.{◌≡◌, ◌∙◌, ℕ, cond, ◌∷◌, Option, Some, None, inl, inr, refl, sym, ap, is_some}
use Rattle.std.specs.Prelude.{option_map, option_and_then}
use Rattle.std.specs.Option.{option_or}
use Rattle.network_model.specs.Network.{Network}
use Rattle.network_model.specs.Kinds.{entered_copy, named_transit}
use Rattle.trace_model.specs.declared.finding.Finding.{Finding}
use Rattle.trace_model.specs.declared.finding.Finding.TheVariants as findings
use Rattle.trace_model.specs.declared.line.TraceLine.{TraceLine}
use Rattle.trace_model.specs.Line.{Lines}
use Rattle.trace_model.specs.Record.{LinePlace, line_place}
use Rattle.trace_model.specs.Journey.{LineJourney, line_journey_of, line_journey_made}
use Rattle.trace_model.specs.Finding.{stays_finding}
use Rattle.trace_model.proofs.Lines.{line_at-later}
use Rattle.exchange_check.specs.declared.facts.Fact.{Fact}
use Rattle.exchange_check.specs.Evidence.{Table}
use Rattle.exchange_check.specs.Inner.Noting.{first_left}
use Rattle.exchange_check.proofs.JourneysMade.{made-so}
use Rattle.exchange_check.proofs.Options.{or_none, or_twice, map_or}
use Rattle.exchange_check.proofs.Told.{fact_of, facts_at, kept_journey_of, journey_from}

-- what is found of the lines on a journey
abbrev pub journey_finding : (LinePlace → Option Finding) → LineJourney → Option Finding
journey_finding finding journey =
    option_or (finding journey.origin) (stays_finding (λ s. finding s.left) journey.stays)

module _ (network : Network) (line : TraceLine) (earlier : Lines) (finding : LinePlace → Option Finding)
    (own : Option ℕ) (own_is : option_map findings.OtherOctets own ≡ finding (line_place line earlier)) (raw : Table ℕ)
    (kept : (copy : ℕ) (before : LineJourney) → line_journey_of network earlier copy ≡ Some before
    → option_map findings.OtherOctets (raw copy) ≡ journey_finding finding before) (alone : Option ℕ) where
  abbrev e : LinePlace
  e = line_place line earlier

  abbrev fed : Lines
  fed = line ∷ earlier

  -- what is found on a journey, or of a line that has none
  abbrev pub on_journey : Option LineJourney → Option Finding
  on_journey None = option_map findings.OtherOctets alone
  on_journey (Some journey) = journey_finding finding journey

  made_first : (j : LineJourney) → line_journey_made network line.event e (line_journey_of network earlier) ≡ Some j
      → option_map findings.OtherOctets (first_left (facts_at network fed) raw own (named_transit line.event))
      ≡ journey_finding finding j
  made_first j h = elim (made-so network e line.event j h) [
    | inl sent ↦ (λ i. option_map findings.OtherOctets (first_left (facts_at network fed) raw own (sent.alone i)))
        ∙ own_is ∙ sym (or_none (finding e)) ∙ ap (journey_finding finding) sent.begun
    | inr left ↦ (λ i. option_map findings.OtherOctets (first_left (facts_at network fed) raw own (left.named i)))
        ∙ ap (λ (o : Option LinePlace). option_map findings.OtherOctets (option_and_then
        (λ (entered : Fact). option_and_then (λ (copy : ℕ). option_or (raw copy) own) (entered_copy entered.event))
        (option_map (fact_of network) o))) (line_at-later network line earlier left.transit left.entered left.there)
        ∙ (λ i. option_map findings.OtherOctets (option_and_then (λ (copy : ℕ). option_or (raw copy) own) (left.copied i)))
        ∙ map_or findings.OtherOctets (raw left.copy) own
        ∙ (λ i. option_or (kept left.copy left.prior left.known i) (own_is i))
        ∙ or_twice (finding left.prior.origin) (stays_finding (λ s. finding s.left) left.prior.stays) (finding e)
        ∙ ap (journey_finding finding) left.more
  ]

  pub first-made : option_map findings.OtherOctets
      (cond (is_some (fact_of network e).journey) (first_left (facts_at network fed) raw own (named_transit line.event)) alone)
      ≡ on_journey (journey_from network e)
  first-made = by (journey_from network e) refl
    where
      by : (o : Option LineJourney) → line_journey_made network line.event e (line_journey_of network earlier) ≡ o
          → option_map findings.OtherOctets (cond (is_some (option_map (kept_journey_of network) o))
          (first_left (facts_at network fed) raw own (named_transit line.event)) alone) ≡ on_journey o
      by None h = refl
      by (Some j) h = made_first j h
