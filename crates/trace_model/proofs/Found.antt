-- The line that tells an event of a run, by the event's tag.
use Rattle.std.proofs.Common.{◌≡◌, ◌∙◌, ℕ, Bool, true, false, [], ◌∷◌, length}
use Rattle.std.proofs.Common.{Some, refl, sym, ap, subst, suc, if◌then◌else◌}
use Rattle.std.specs.Prelude.{◌==◌}
use Rattle.network_model.specs.declared.event.Event.{Event}
use Rattle.network_model.specs.Network.{Network}
use Rattle.network_model.specs.Run.{Run, Place, place, place_at, tag_of}
use Rattle.network_model.specs.Outcome.{outcome_of}
use Rattle.trace_model.specs.declared.line.TraceLine.{TraceLine}
use Rattle.trace_model.specs.Line.{Lines, counts}
use Rattle.trace_model.specs.Record.{LinePlace, line_place, event_of, line_number, line_at}
use Rattle.trace_model.specs.Told.{TellsEvent, TellsRun}
use Rattle.trace_model.specs.Faithful.{took_effect, TellsPlace, HasLine, EachEventHasItsLine}
use Rattle.std.proofs.lemmas.Bool.{eqb-true}
use Rattle.trace_model.proofs.Lines.{line_at-here, line_at-before}
use Rattle.trace_model.proofs.Good.{each_line_is_good}

-- a line an event
pub same_length : (network : Network) (run : Run) (lines : Lines) → TellsRun network run lines
    → length lines ≡ length run
same_length network [] [] told = refl
same_length network [] (line ∷ lines) told = absurd told
same_length network (event ∷ earlier) [] told = absurd told
same_length network (event ∷ earlier) (line ∷ lines) told = ap suc (same_length network earlier lines told.1)

-- the event of a line
pub event_told : (network : Network) (event : Event) (earlier : Run) (line : TraceLine)
    → TellsEvent network event earlier line → line.event ≡ event
event_told network event earlier line told = told.told.event

pub same_event : (network : Network) (p : Place) (e : LinePlace) → TellsPlace network p e → event_of e ≡ p.event
same_event network p e tells = event_told network p.event p.earlier e.line tells.told

-- a line's number is its event's tag
pub same_number : (network : Network) (p : Place) (e : LinePlace) → TellsPlace network p e → line_number e ≡ tag_of p
same_number network p e tells = same_length network p.earlier e.earlier tells.before

-- the line of an event that took effect counts
pub line_counts : (network : Network) (event : Event) (earlier : Run) (line : TraceLine)
    → TellsEvent network event earlier line
    → took_effect (outcome_of network earlier event) ≡ true → counts network line ≡ true
line_counts network event earlier line told took =
    let good = each_line_is_good network event earlier line told in good.counts ∙ took

pub each_event_has_its_line : EachEventHasItsLine
each_event_has_its_line network [] [] tag p told there took = cc
each_event_has_its_line network [] (line ∷ lines) tag p told there took = absurd told
each_event_has_its_line network (event ∷ earlier) [] tag p told there took = absurd told
each_event_has_its_line network (event ∷ earlier) (line ∷ lines) tag p told there took =
    at (length earlier == tag) refl there
    (λ there. each_event_has_its_line network earlier lines tag p told.1 there took)
  where
    numbers : (length lines == tag) ≡ (length earlier == tag)
    numbers = ap (λ (n : ℕ). n == tag) (same_length network earlier lines told.1)

    at : (same : Bool) → (length earlier == tag) ≡ same
        → (if same then Some (place event earlier) else place_at earlier tag) ≡ Some p
        → (place_at earlier tag ≡ Some p → HasLine network lines tag p) → HasLine network (line ∷ lines) tag p
    at true is there before =
        let same : place event earlier ≡ p = cc in
        let took_here : took_effect (outcome_of network earlier event) ≡ true =
        subst (λ (o : Place). took_effect (outcome_of network o.earlier o.event) ≡ true) (sym same) took in
        let here : TellsPlace network (place event earlier) (line_place line lines) =
        record { told = told.0; before = told.1 } in
        record {
          e = line_place line lines;
          there = subst (λ (n : ℕ). line_at network (line ∷ lines) n ≡ Some (line_place line lines))
              (eqb-true (length lines) tag (numbers ∙ is))
              (line_at-here network line lines (line_counts network event earlier line told.0 took_here));
          tells = subst (λ (o : Place). TellsPlace network o (line_place line lines)) same here;
        }
    at false is there before =
        let found = before there in
        record {
          e = found.e;
          there =
              line_at-before network line lines tag (numbers ∙ is) ∙ found.there;
          tells = found.tells;
        }
