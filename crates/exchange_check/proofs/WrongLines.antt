-- The lines on a journey where something is wrong, and what is found there.
use Rattle.std.proofs.Common.{◌≡◌, ◌∙◌, ℕ, Bool, true, false, ◌&&◌, List, [], ◌∷◌, Option, Some, None, refl, sym, ap}
use Rattle.std.proofs.Math.Bool.{and_comm}
use Rattle.std.specs.Prelude.{not, nat_lt, is_none, option_map}
use Rattle.std.specs.List.{list_all}
use Rattle.std.specs.Option.{option_or}
use Rattle.network_model.specs.Network.{Network}
use Rattle.network_model.specs.Kinds.{is_step}
use Rattle.trace_model.specs.declared.finding.Finding.{Finding}
use Rattle.trace_model.specs.declared.finding.Finding.TheVariants as findings
use Rattle.trace_model.specs.Record.{LinePlace, line_number, site, last_line, reading, reads_right}
use Rattle.trace_model.specs.Octets.{writes_right}
use Rattle.trace_model.specs.Journey.{LineStay, LineJourney, with_stay}
use Rattle.trace_model.specs.Sound.{stay_reads_right, journey_reads_right, journey_writes_right}
use Rattle.trace_model.specs.Finding.{broken, reading_finding, stay_finding, stays_finding, octets_finding}
use Rattle.exchange_check.specs.Inner.Kept.{wrong_line, wrong_lines, wrong_reading_in, wrong_octets_in}
use Rattle.exchange_check.proofs.Conditions.{broken_holds}
use Rattle.exchange_check.proofs.Options.{or_twice, map_or, none_mapped, none_of_two}

-- two lines that are kept as one

pub reading_in_is : (readings octets : Option ℕ) → wrong_reading_in (wrong_lines readings octets) ≡ readings
reading_in_is None None = refl
reading_in_is (Some n) None = refl
reading_in_is None (Some m) = refl
reading_in_is (Some n) (Some m) = refl

pub octets_in_are : (readings octets : Option ℕ) → wrong_octets_in (wrong_lines readings octets) ≡ octets
octets_in_are None None = refl
octets_in_are (Some n) None = refl
octets_in_are None (Some m) = refl
octets_in_are (Some n) (Some m) = refl

-- the line where a finding is met, of those of 705 and 708
abbrev pub line_met : Finding → ℕ
line_met (findings.WrongReading event set) = event
line_met (findings.Falls entered left) = left
line_met (findings.OtherOctets event) = event
line_met _ = 0

pub broken_line : (right : Bool) (found : Finding)
    → option_map line_met (broken right found) ≡ wrong_line right (line_met found)
broken_line true found = refl
broken_line false found = refl

-- of a stay
stay_line_is : (entered left rises : Bool) (n m : ℕ) (s t : Option ℕ)
    → option_map line_met (option_or (broken entered (findings.WrongReading n s))
    (option_or (broken left (findings.WrongReading m t)) (option_or (broken rises (findings.Falls n m)) None)))
    ≡ option_or (wrong_line entered n) (wrong_line (left && rises) m)
stay_line_is false left rises n m s t = refl
stay_line_is true false rises n m s t = refl
stay_line_is true true false n m s t = refl
stay_line_is true true true n m s t = refl

module _ (network : Network) where
  -- the first thing that is wrong with the readings on a journey
  abbrev pub journey_readings : LineJourney → Option Finding
  journey_readings journey =
      option_or (reading_finding network journey.origin) (stays_finding (stay_finding network) journey.stays)

  -- the first message with wrong octets on a journey
  abbrev pub journey_octets : LineJourney → Option Finding
  journey_octets journey =
      option_or (octets_finding network journey.origin) (stays_finding (λ s. octets_finding network s.left) journey.stays)

  -- the line of the first such thing of a journey with one more stay
  module _ (left entered : LinePlace) (journey : LineJourney) where
    abbrev stay : LineStay
    stay = record { entered = entered; left = left }

    pub reading-more : option_or (option_map line_met (journey_readings journey)) (option_or
        (wrong_line (reads_right network entered) (line_number entered))
        (wrong_line (reads_right network left && not (nat_lt (reading left) (reading entered))) (line_number left)))
        ≡ option_map line_met (journey_readings (with_stay left entered journey))
    reading-more =
        sym (ap (option_map line_met) (sym (or_twice (reading_finding network journey.origin)
        (stays_finding (stay_finding network) journey.stays) (stay_finding network stay)))
        ∙ map_or line_met (journey_readings journey) (stay_finding network stay)
        ∙ (λ i. option_or (option_map line_met (journey_readings journey)) (stay_line_is (reads_right network entered)
        (reads_right network left) (not (nat_lt (reading left) (reading entered))) (line_number entered) (line_number left)
        (option_map line_number (last_line network is_step (site entered) entered.earlier))
        (option_map line_number (last_line network is_step (site left) left.earlier)) i)))

    pub octets-more : option_or (option_map line_met (journey_octets journey))
        (wrong_line (writes_right network left) (line_number left))
        ≡ option_map line_met (journey_octets (with_stay left entered journey))
    octets-more =
        sym (ap (option_map line_met) (sym (or_twice (octets_finding network journey.origin)
        (stays_finding (λ s. octets_finding network s.left) journey.stays) (octets_finding network left)))
        ∙ map_or line_met (journey_octets journey) (octets_finding network left)
        ∙ (λ i. option_or (option_map line_met (journey_octets journey))
        (broken_line (writes_right network left) (findings.OtherOctets (line_number left)) i)))

  -- nothing is found of a journey exactly where all of it is right

  stays_hold : (found : LineStay → Option Finding) (test : LineStay → Bool) → ((s : LineStay) → is_none (found s) ≡ test s)
      → (stays : List LineStay) → is_none (stays_finding found stays) ≡ list_all test stays
  stays_hold found test each [] = refl
  stays_hold found test each (s ∷ before) =
      none_of_two (stays_finding found before) (found s)
      ∙ (λ i. stays_hold found test each before i && each s i) ∙ and_comm (list_all test before) (test s)

  stay_holds : (entered left rises : Bool) (a b c : Finding)
      → is_none (option_or (broken entered a) (option_or (broken left b) (option_or (broken rises c) None)))
      ≡ (entered && left && rises)
  stay_holds false left rises a b c = refl
  stay_holds true false rises a b c = refl
  stay_holds true true false a b c = refl
  stay_holds true true true a b c = refl

  -- what is found of a line whose reading is wrong
  abbrev pub reading_of : LinePlace → Finding
  reading_of e =
      findings.WrongReading (line_number e) (option_map line_number (last_line network is_step (site e) e.earlier))

  pub reads-so : (journey : LineJourney) (octets : Option ℕ)
      → is_none (wrong_reading_in (wrong_lines (option_map line_met (journey_readings journey)) octets))
      ≡ journey_reads_right network journey
  reads-so journey octets =
      ap is_none (reading_in_is (option_map line_met (journey_readings journey)) octets)
      ∙ none_mapped line_met (journey_readings journey)
      ∙ none_of_two (reading_finding network journey.origin) (stays_finding (stay_finding network) journey.stays)
      ∙ (λ i. broken_holds (reads_right network journey.origin) (reading_of journey.origin) i
      && stays_hold (stay_finding network) (stay_reads_right network) (λ s. stay_holds (reads_right network s.entered)
      (reads_right network s.left) (not (nat_lt (reading s.left) (reading s.entered))) (reading_of s.entered)
      (reading_of s.left) (findings.Falls (line_number s.entered) (line_number s.left))) journey.stays i)

  pub writes-so : (journey : LineJourney) (readings : Option ℕ)
      → is_none (wrong_octets_in (wrong_lines readings (option_map line_met (journey_octets journey))))
      ≡ journey_writes_right network journey
  writes-so journey readings =
      ap is_none (octets_in_are readings (option_map line_met (journey_octets journey)))
      ∙ none_mapped line_met (journey_octets journey)
      ∙ none_of_two (octets_finding network journey.origin)
      (stays_finding (λ s. octets_finding network s.left) journey.stays)
      ∙ (λ i. broken_holds (writes_right network journey.origin) (findings.OtherOctets (line_number journey.origin)) i
      && stays_hold (λ s. octets_finding network s.left) (λ s. writes_right network s.left)
      (λ s. broken_holds (writes_right network s.left) (findings.OtherOctets (line_number s.left))) journey.stays i)

  -- other octets are told by their line

  abbrev pub ByLine : Option Finding → Type 0
  ByLine found = option_map findings.OtherOctets (option_map line_met found) ≡ found

  pub or_by_line : (one other : Option Finding) → ByLine one → ByLine other → ByLine (option_or one other)
  or_by_line None other a b = b
  or_by_line (Some found) other a b = a

  by_line_if : (right : Bool) (n : ℕ) → ByLine (broken right (findings.OtherOctets n))
  by_line_if true n = refl
  by_line_if false n = refl

  pub octets_by_line : (e : LinePlace) → ByLine (octets_finding network e)
  octets_by_line e = by_line_if (writes_right network e) (line_number e)

  stays_by_line : (stays : List LineStay) → ByLine (stays_finding (λ s. octets_finding network s.left) stays)
  stays_by_line [] = refl
  stays_by_line (s ∷ before) =
      or_by_line (stays_finding (λ s. octets_finding network s.left) before) (octets_finding network s.left)
      (stays_by_line before) (octets_by_line s.left)

  pub journey_by_line : (journey : LineJourney) → ByLine (journey_octets journey)
  journey_by_line journey =
      or_by_line (octets_finding network journey.origin)
      (stays_finding (λ s. octets_finding network s.left) journey.stays)
      (octets_by_line journey.origin) (stays_by_line journey.stays)
