-- The first message whose octets tell otherwise, on the journey of a copy or by itself, with one more line.
use Rattle.std.proofs.Common.{◌≡◌, ◌∙◌, ℕ, Bool, true, false, ◌&&◌, cond, ◌∷◌, length, Option, Some, None, refl, sym, ap}
use Rattle.std.specs.Prelude.{◌||◌, not, option_map, option_and_then}
use Rattle.std.proofs.lemmas.Option.{none-some}
use Rattle.event_codec.specs.Packet.{Contents}
use Rattle.network_model.specs.Network.{Network}
use Rattle.trace_model.specs.declared.finding.Finding.TheVariants as findings
use Rattle.trace_model.specs.declared.line.TraceLine.{TraceLine}
use Rattle.trace_model.specs.declared.line.TraceOut.{TraceOut}
use Rattle.trace_model.specs.declared.line.TraceOut.TheVariants as outs
use Rattle.trace_model.specs.Line.{Lines, counts, is_made}
use Rattle.trace_model.specs.Record.{LinePlace, line_place, event_of, line_at}
use Rattle.trace_model.specs.Journey.{LineJourney, line_journey_of}
use Rattle.trace_model.specs.Octets.{message_made, is_written, writes_right}
use Rattle.trace_model.specs.ByMessages.{tells_message, tells_right}
use Rattle.trace_model.proofs.FieldTests.{packet_tells}
use Rattle.trace_model.proofs.Lines.{line_at-here}
use Rattle.exchange_check.specs.Evidence.{Table, otherwise_finding, journey_otherwise, made_otherwise}
use Rattle.exchange_check.specs.Evidence.{first_otherwise_at}
use Rattle.exchange_check.specs.Inner.Noting.{otherwise_found, first_otherwise_by}
use Rattle.exchange_check.specs.Inner.Telling.{message_at_by}
use Rattle.exchange_check.proofs.Made.{message_at_by-is}
use Rattle.exchange_check.proofs.Told.{fact_of, facts_at, journey_from, journey_of-line_at}
use Rattle.exchange_check.proofs.FirstOnJourneys.{on_journey, first-made}

otherwise_if : (right made tells : Bool) (n : ℕ) → (right ≡ true → tells ≡ true)
    → option_map findings.OtherOctets (cond (right || not made || tells) None (Some n))
    ≡ cond (made && not tells) (Some (findings.OtherOctets n)) None
otherwise_if true true true n h = refl
otherwise_if true true false n h = let same : false ≡ true = h refl in cc
otherwise_if true false tells n h = refl
otherwise_if false true true n h = refl
otherwise_if false true false n h = refl
otherwise_if false false tells n h = refl

-- octets that are the message tell the same
written_tells : (m : Option Contents) (out : TraceOut) → is_written m out ≡ true → tells_message m out ≡ true
written_tells None out h = cc
written_tells (Some m) (outs.Made octets) h = packet_tells m octets.items h
written_tells (Some m) _ h = cc

pub of_made : (network : Network) (lines : Lines) (copy : ℕ) (journey : LineJourney)
    → line_journey_of network lines copy ≡ Some journey
    → first_otherwise_at network lines copy ≡ journey_otherwise network journey
of_made network lines copy journey known =
    by (line_at network lines copy) (sym (journey_of-line_at network lines copy) ∙ known)
  where
    by : (o : Option LinePlace) → option_and_then (journey_from network) o ≡ Some journey
        → option_and_then (λ (e : LinePlace). made_otherwise network e (journey_from network e)) o
        ≡ journey_otherwise network journey
    by None h = absurd (none-some journey h)
    by (Some e) h = ap (made_otherwise network e) h

module _ (network : Network) (line : TraceLine) (earlier : Lines) (counted : counts network line ≡ true)
    (raw : Table ℕ)
    (kept : (copy : ℕ) → option_map findings.OtherOctets (raw copy) ≡ first_otherwise_at network earlier copy) where
  abbrev e : LinePlace
  e = line_place line earlier

  abbrev fed : Lines
  fed = line ∷ earlier

  abbrev own : Option ℕ
  own = otherwise_found network (facts_at network fed) (fact_of network e) line.out

  own_is : option_map findings.OtherOctets own ≡ otherwise_finding network e
  own_is =
      (λ i. option_map findings.OtherOctets (cond (writes_right network e || not (is_made line.out)
      || tells_message (message_is i) line.out) None (Some (length earlier))))
      ∙ otherwise_if (writes_right network e) (is_made line.out) (tells_right network e) (length earlier)
      (written_tells (message_made network line.event e) line.out)
    where
      message_is : message_at_by network (facts_at network fed) (length earlier) ≡ message_made network line.event e
      message_is = message_at_by-is network fed (length earlier)
          ∙ ap (option_and_then (λ (x : LinePlace). message_made network (event_of x) x)) (line_at-here network line earlier counted)

  before_is : (copy : ℕ) (before : LineJourney) → line_journey_of network earlier copy ≡ Some before
      → option_map findings.OtherOctets (raw copy) ≡ journey_otherwise network before
  before_is copy before known = kept copy ∙ of_made network earlier copy before known

  on_own : (o : Option LineJourney)
      → on_journey network line earlier (otherwise_finding network) own own_is raw before_is own o ≡ made_otherwise network e o
  on_own None = own_is
  on_own (Some journey) = refl

  pub first-otherwise : option_map findings.OtherOctets
      (first_otherwise_by network (facts_at network fed) raw (fact_of network e) line.out)
      ≡ made_otherwise network e (journey_from network e)
  first-otherwise = first-made network line earlier (otherwise_finding network) own own_is raw before_is own
      ∙ on_own (journey_from network e)
