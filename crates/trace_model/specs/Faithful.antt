-- What lines that tell a run have of it: which of them count, the line of each tag, what clocks read and which
-- numbers were drawn, and journeys. `laws::each_line_is_good`, `laws::each_reading_is_recorded` and
-- `laws::each_journey_is_told` promise it.
use Rattle.std.specs.Prelude.{◌≡◌, ℕ, List, [], ◌∷◌, is_some, Bool, true, false, Some, Ok, Err, Result}
use Rattle.network_model.specs.declared.event.Event.{Event}
use Rattle.network_model.specs.declared.refusal.WorldRefusal.{WorldRefusal}
use Rattle.network_model.specs.declared.stepped.Outcome.{Outcome}
use Rattle.network_model.specs.declared.stepped.Outcome.TheVariants as outcomes
use Rattle.network_model.specs.Network.{Network}
use Rattle.network_model.specs.Run.{Run, Place, place_at, until, true_moment}
use Rattle.network_model.specs.Clock.{reading}
use Rattle.network_model.specs.Journey as made
use Rattle.network_model.specs.Outcome.{outcome_of, IsRun}
use Rattle.network_model.specs.Premises.{is_of_use}
use Rattle.trace_model.specs.declared.line.TraceLine.{TraceLine}
use Rattle.trace_model.specs.Line.{Lines, counts, is_good}
use Rattle.trace_model.specs.Record.{LinePlace, line_at, reads_right}
use Rattle.trace_model.specs.Journey as lined
use Rattle.trace_model.specs.Told.{TellsEvent, TellsRun}

-- an event took effect: no port and no clock refused it, and no slave ignored it
abbrev pub is_effective : Outcome → Bool
is_effective outcomes.Done = true
is_effective outcomes.Made = true
is_effective outcomes.Entered = true
is_effective (outcomes.Heard heard) = is_of_use heard
is_effective (outcomes.Refused code) = false

-- an event was accepted and took effect
abbrev pub took_effect : Result Outcome WorldRefusal → Bool
took_effect (Ok outcome) = is_effective outcome
took_effect (Err refusal) = false

-- a good line, which counts exactly where its event took effect
pub record IsGood (network : Network) (event : Event) (earlier : Run) (line : TraceLine) : Type 0 where
  pub good : is_good network line.event line.out ≡ true
  pub counts : counts network line ≡ took_effect (outcome_of network earlier event)

-- Each line that tells an event is good, and counts exactly where the event took effect.
abbrev pub EachLineIsGood : Type 0
EachLineIsGood =
    (network : Network) (event : Event) (earlier : Run) (line : TraceLine) → TellsEvent network event earlier line
    → IsGood network event earlier line

-- a line and those before it tell an event of a run and those before it
pub record TellsPlace (network : Network) (p : Place) (e : LinePlace) : Type 0 where
  pub told : TellsEvent network p.event p.earlier e.line
  pub before : TellsRun network p.earlier e.earlier

-- lines have a line of this number that counts, and that tells an event
pub record HasLine (network : Network) (lines : Lines) (number : ℕ) (p : Place) : Type 0 where
  pub e : LinePlace
  pub there : line_at network lines number ≡ Some e
  pub tells : TellsPlace network p e

-- An event that took effect is told by the line that has its tag for a number.
abbrev pub EachEventHasItsLine : Type 0
EachEventHasItsLine =
    (network : Network) (run : Run) (lines : Lines) (tag : ℕ) (p : Place) → TellsRun network run lines
    → place_at run tag ≡ Some p → took_effect (outcome_of network p.earlier p.event) ≡ true
    → HasLine network lines tag p

-- a line has the reading of the event that it tells, and that is what the clock showed by the lines before it
pub record IsRecorded (network : Network) (p : Place) (e : LinePlace) : Type 0 where
  pub reading : e.line.reading ≡ Some (reading p)
  pub right : reads_right network e ≡ true

-- Each line that tells an event with a true moment has its reading, the one that the lines before it ask for.
abbrev pub EachEventIsRecorded : Type 0
EachEventIsRecorded =
    (network : Network) (p : Place) (e : LinePlace) → IsRun network (until p) → TellsPlace network p e
    → is_some (true_moment p.event) ≡ true → IsRecorded network p e

-- two lines tell a stay in a clock
pub record TellsStay (network : Network) (stay : made.Stay) (lines : lined.LineStay) : Type 0 where
  pub entered : TellsPlace network stay.entered lines.entered
  pub left : TellsPlace network stay.left lines.left

-- lines tell stays, one by one
abbrev pub TellsStays : Network → List made.Stay → List lined.LineStay → Type 0
TellsStays network [] [] = Unit {0}
TellsStays network (stay ∷ stays) (lines ∷ others) = TellsStay network stay lines × TellsStays network stays others
TellsStays network [] (lines ∷ others) = ⊥
TellsStays network (stay ∷ stays) [] = ⊥

-- lines tell a journey: where it began, and its stays
pub record TellsJourney (network : Network) (journey : made.Journey) (lines : lined.LineJourney) : Type 0 where
  pub origin : TellsPlace network journey.origin lines.origin
  pub stays : TellsStays network journey.stays lines.stays

-- by these lines the copy of a line made a journey, and they tell this one
pub record HasJourney (network : Network) (lines : Lines) (number : ℕ) (journey : made.Journey) : Type 0 where
  pub by_lines : lined.LineJourney
  pub there : lined.line_journey_of network lines number ≡ Some by_lines
  pub tells : TellsJourney network journey by_lines

-- The journey of each copy is the one that lines tell.
abbrev pub EachJourneyIsTold : Type 0
EachJourneyIsTold =
    (network : Network) (run : Run) (lines : Lines) (tag : ℕ) (journey : made.Journey) → TellsRun network run lines
    → made.journey_of run tag ≡ Some journey → HasJourney network lines tag journey
