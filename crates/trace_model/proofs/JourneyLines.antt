-- Journeys of lines of any origin: the line that made a copy has its journey, and a journey begins at a line.
use Rattle.std.proofs.Common.{◌≡◌, ◌∙◌, ℕ, ◌<◌, Bool, true, false, [], ◌∷◌, length, Some, None, refl, ap}
use Rattle.std.proofs.Common.{subst, arith, option_map, if◌then◌else◌}
use Rattle.std.specs.Prelude.{◌==◌}
use Rattle.std.proofs.lemmas.Bool.{eqb-true}
use Rattle.std.proofs.lemmas.Bool.Decides.{nat_tests}
use Rattle.slave_port.proofs.Options.{some_step, some_image}
use Rattle.network_model.specs.declared.event.Event.{Event}
use Rattle.network_model.specs.declared.event.Event.TheVariants.{Sync, SyncOne, Leave, Request}
use Rattle.network_model.specs.Network.{Network}
use Rattle.trace_model.specs.declared.line.TraceLine.{TraceLine}
use Rattle.trace_model.specs.Line.{Lines, counts}
use Rattle.trace_model.specs.Record.{LinePlace, line_place, line_number, event_of, line_at}
use Rattle.trace_model.specs.Journey.{LineJourney, line_begun, with_stay, copy_entered, line_left_from}
use Rattle.trace_model.specs.Journey.{line_journey_made, line_journey_of}
use Rattle.trace_model.proofs.Lines.{line_at-here, line_at-later, line_at-before, line_at-bound}

-- a line of a number with the journey of the copy that it made
pub record MadeBy (network : Network) (lines : Lines) (number : ℕ) (journey : LineJourney) : Type 0 where
  pub s : LinePlace
  pub there : line_at network lines number ≡ Some s
  pub made : line_journey_made network (event_of s) s (line_journey_of network s.earlier) ≡ Some journey

pub made_by : (network : Network) (lines : Lines) (number : ℕ) (journey : LineJourney)
    → line_journey_of network lines number ≡ Some journey → MadeBy network lines number journey
made_by network [] number journey is = cc
made_by network (line ∷ lines) number journey is =
    at (length lines == number) (counts network line) refl refl is (λ is. made_by network lines number journey is)
  where
    at : (here counted : Bool) → (length lines == number) ≡ here → counts network line ≡ counted
        → (if here then (if counted then line_journey_made network line.event (line_place line lines)
        (line_journey_of network lines) else None) else line_journey_of network lines number) ≡ Some journey
        → (line_journey_of network lines number ≡ Some journey → MadeBy network lines number journey)
        → MadeBy network (line ∷ lines) number journey
    at true true h c is before = record {
      s = line_place line lines;
      there = (λ i. if h i then (if c i then Some (line_place line lines) else None) else line_at network lines number);
      made = is;
    }
    at true false h c is before = cc
    at false counted h c is before =
        let found = before is in
        record { s = found.s; there = line_at-before network line lines number h ∙ found.there; made = found.made }

-- the first line of a journey is among the lines
begun_at : (network : Network) (event : Event) (line : TraceLine) (lines : Lines) (journey : LineJourney)
    → counts network line ≡ true
    → line_journey_made network event (line_place line lines) (line_journey_of network lines) ≡ Some journey
    → ((copy : ℕ) (j : LineJourney) → line_journey_of network lines copy ≡ Some j
    → line_at network lines (line_number j.origin) ≡ Some j.origin)
    → line_at network (line ∷ lines) (line_number journey.origin) ≡ Some journey.origin
begun_at network (Sync node at) line lines journey counted made before =
    let same : line_begun (line_place line lines) ≡ journey = cc in
    subst (λ (j : LineJourney). line_at network (line ∷ lines) (line_number j.origin) ≡ Some j.origin) same
    (line_at-here network line lines counted)
begun_at network (SyncOne node at) line lines journey counted made before =
    let same : line_begun (line_place line lines) ≡ journey = cc in
    subst (λ (j : LineJourney). line_at network (line ∷ lines) (line_number j.origin) ≡ Some j.origin) same
    (line_at-here network line lines counted)
begun_at network (Request node at) line lines journey counted made before =
    let same : line_begun (line_place line lines) ≡ journey = cc in
    subst (λ (j : LineJourney). line_at network (line ∷ lines) (line_number j.origin) ≡ Some j.origin) same
    (line_at-here network line lines counted)
begun_at network (Leave node transit at) line lines journey counted made before =
    let entered = some_step (line_left_from node (line_place line lines) (line_journey_of network lines))
    (line_at network lines transit) made in
    let copy = some_step
    (λ (c : ℕ). option_map (with_stay (line_place line lines) entered.0) (line_journey_of network lines c))
    (copy_entered node entered.0) entered.2 in
    let prior = some_image (with_stay (line_place line lines) entered.0) (line_journey_of network lines copy.0) copy.2 in
    let origin = prior.0.origin in
    subst (λ (j : LineJourney). line_at network (line ∷ lines) (line_number j.origin) ≡ Some j.origin) prior.2
    (line_at-later network line lines (line_number origin) origin (before copy.0 prior.0 prior.1))
begun_at network _ line lines journey counted made before = cc

pub origin_there : (network : Network) (lines : Lines) (number : ℕ) (journey : LineJourney)
    → line_journey_of network lines number ≡ Some journey
    → line_at network lines (line_number journey.origin) ≡ Some journey.origin
origin_there network [] number journey is = cc
origin_there network (line ∷ lines) number journey is =
    at (length lines == number) (counts network line) refl is (λ n j known. origin_there network lines n j known)
  where
    at : (here counted : Bool) → counts network line ≡ counted
        → (if here then (if counted then line_journey_made network line.event (line_place line lines)
        (line_journey_of network lines) else None) else line_journey_of network lines number) ≡ Some journey
        → ((copy : ℕ) (j : LineJourney) → line_journey_of network lines copy ≡ Some j
        → line_at network lines (line_number j.origin) ≡ Some j.origin)
        → line_at network (line ∷ lines) (line_number journey.origin) ≡ Some journey.origin
    at true true c is before = begun_at network line.event line lines journey c is before
    at true false c is before = cc
    at false counted c is before =
        line_at-later network line lines (line_number journey.origin) journey.origin (before number journey is)

-- what stands before a line is among the lines, and what later lines made is none of it

pub line_at-within : (network : Network) (lines : Lines) (k : ℕ) (f : LinePlace) (n : ℕ) (l : LinePlace)
    → line_at network lines k ≡ Some f → line_at network f.earlier n ≡ Some l → line_at network lines n ≡ Some l
line_at-within network [] k f n l there within = cc
line_at-within network (line ∷ lines) k f n l there within =
    line_at-later network line lines n l
    (at (length lines == k) (counts network line) there (λ there. line_at-within network lines k f n l there within))
  where
    at : (here counted : Bool)
        → (if here then (if counted then Some (line_place line lines) else None) else line_at network lines k) ≡ Some f
        → (line_at network lines k ≡ Some f → line_at network lines n ≡ Some l) → line_at network lines n ≡ Some l
    at true true there before =
        let same : f ≡ line_place line lines = cc in
        subst (λ (e : LinePlace). line_at network e.earlier n ≡ Some l) same within
    at true false there before = cc
    at false counted there before = before there

pub journey_before : (network : Network) (line : TraceLine) (lines : Lines) (n : ℕ) → n < length lines
    → line_journey_of network (line ∷ lines) n ≡ line_journey_of network lines n
journey_before network line lines n small = grind (arith, nat_tests)

pub line_journey_of-within : (network : Network) (lines : Lines) (k : ℕ) (a : LinePlace) (n : ℕ) → n < k
    → line_at network lines k ≡ Some a → line_journey_of network lines n ≡ line_journey_of network a.earlier n
line_journey_of-within network [] k a n small there = cc
line_journey_of-within network (line ∷ lines) k a n small there =
    at (length lines == k) (counts network line) refl there
    (λ there. line_journey_of-within network lines k a n small there)
  where
    at : (here counted : Bool) → (length lines == k) ≡ here
        → (if here then (if counted then Some (line_place line lines) else None) else line_at network lines k) ≡ Some a
        → (line_at network lines k ≡ Some a → line_journey_of network lines n ≡ line_journey_of network a.earlier n)
        → line_journey_of network (line ∷ lines) n ≡ line_journey_of network a.earlier n
    at true true h there before =
        let same : line_place line lines ≡ a = cc in
        let number : length lines ≡ k = eqb-true (length lines) k h in
        journey_before network line lines n (omega arith) ∙ ap (λ (e : LinePlace). line_journey_of network e.earlier n) same
    at true false h there before = cc
    at false counted h there before =
        let bound : k < length lines = line_at-bound network lines k a there in
        journey_before network line lines n (omega arith) ∙ before there
