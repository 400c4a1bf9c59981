-- Where clocks are stepped before all else, each reading is the true moment and one difference of the node's clock.
-- So differences of readings at one node are differences of true moments.
use Rattle.std.proofs.Common.{◌≡◌, ◌∙◌, ℕ, ℤ, pos, ◌+ℤ◌, Bool, true, false, [], ◌∷◌, length, Option, Some, None, refl, sym, ap, subst, if◌then◌else◌, option_map}
use Rattle.std.specs.Prelude.{◌==◌, is_some, unwrap_or}
use Rattle.std.specs.List.{list_all}
use Rattle.std.proofs.lemmas.Bool.{and_parts}
use Rattle.network_model.specs.declared.event.Event.{Event}
use Rattle.network_model.specs.Network.{Network, NodeName, is_named}
use Rattle.network_model.specs.Run.{Run, Place, place, place_at, tag_of, IsIn, site_of, true_moment}
use Rattle.network_model.specs.Kinds.{named_difference, is_step}
use Rattle.network_model.specs.Clock.{difference, clock_shows, reading}
use Rattle.network_model.specs.Outcome.{IsRun}
use Rattle.network_model.specs.Level.{moment_at, is_steady, IsSteady}
use Rattle.network_model.proofs.Readings.{shown_reading}

-- an event that steps no clock leaves all differences
pub unstepped : (node : NodeName) (event : Event) (earlier : Run) → is_step event ≡ false → difference node (event ∷ earlier) ≡ difference node earlier
unstepped node event earlier none = by (named_difference event) refl (is_named (site_of event) node)
  where
    by : (step : Option ℤ) → named_difference event ≡ step → (named : Bool)
        → (if named then unwrap_or (named_difference event) (difference node earlier) else difference node earlier) ≡ difference node earlier
    by None e true = ap (λ (s : Option ℤ). unwrap_or s (difference node earlier)) e
    by (Some d) e true = let stepped : is_step event ≡ true = ap is_some e in cc
    by step e false = refl

-- all events are steps
all_steps : (run : Run) (tag : ℕ) (p : Place) → list_all is_step run ≡ true → place_at run tag ≡ Some p → is_step p.event ≡ true
all_steps [] tag p all there = cc
all_steps (event ∷ earlier) tag p all there =
    let parts = and_parts (is_step event) (list_all is_step earlier) all in
    at (length earlier == tag) there parts.0 (all_steps earlier tag p parts.1)
  where
    at : (same : Bool) → (if same then Some (place event earlier) else place_at earlier tag) ≡ Some p → is_step event ≡ true
        → (place_at earlier tag ≡ Some p → is_step p.event ≡ true) → is_step p.event ≡ true
    at true there now rest = let same : place event earlier ≡ p = cc in subst (λ (o : Place). is_step o.event ≡ true) same now
    at false there now rest = rest there

-- no clock is stepped after an event that steps none
steady_difference : (node : NodeName) (run : Run) (tag : ℕ) (p : Place) → is_steady run ≡ true → place_at run tag ≡ Some p → is_step p.event ≡ false
    → difference node run ≡ difference node p.earlier
steady_difference node [] tag p steady there none = cc
steady_difference node (event ∷ earlier) tag p steady there none =
    at (length earlier == tag) there (is_step event) refl steady (λ calm within. steady_difference node earlier tag p calm within none)
  where
    at : (same : Bool) → (if same then Some (place event earlier) else place_at earlier tag) ≡ Some p
        → (step : Bool) → is_step event ≡ step → (if step then list_all is_step earlier else is_steady earlier) ≡ true
        → (is_steady earlier ≡ true → place_at earlier tag ≡ Some p → difference node earlier ≡ difference node p.earlier)
        → difference node (event ∷ earlier) ≡ difference node p.earlier
    at true there step e calm rest =
        let same : place event earlier ≡ p = cc in
        subst (λ (o : Place). difference node (o.event ∷ o.earlier) ≡ difference node p.earlier) (sym same) (unstepped node p.event p.earlier none)
    at false there true e calm rest = let stepped = all_steps earlier tag p calm there in cc
    at false there false e calm rest = unstepped node event earlier e ∙ rest calm there

-- a reading, by the true moment
pub reading_is : (network : Network) (run : Run) (p : Place) (node : NodeName) → IsRun network run → IsSteady run → IsIn run p → is_some (true_moment p.event) ≡ true
    → is_step p.event ≡ false → site_of p.event ≡ node → pos (reading p) ≡ moment_at p +ℤ difference node run
reading_is network run p node accepted steady there timed none site =
    let shown = shown_reading network run p accepted there timed in
    by (true_moment p.event) refl shown
  where
    by : (moment : Option ℕ) → true_moment p.event ≡ moment → option_map (clock_shows (site_of p.event) p.earlier) (true_moment p.event) ≡ Some (pos (reading p))
        → pos (reading p) ≡ moment_at p +ℤ difference node run
    by None e shown = let none : is_some (true_moment p.event) ≡ false = ap is_some e in cc
    by (Some at) e shown =
        let showed : Some (pos at +ℤ difference (site_of p.event) p.earlier) ≡ Some (pos (reading p)) =
        sym (ap (option_map (clock_shows (site_of p.event) p.earlier)) e) ∙ shown in
        let same : pos at +ℤ difference (site_of p.event) p.earlier ≡ pos (reading p) = cc in
        sym same
        ∙ ap (λ (d : ℤ). pos at +ℤ d) (sym (steady_difference (site_of p.event) run (tag_of p) p steady there none))
        ∙ ap (λ (n : NodeName). pos at +ℤ difference n run) site
        ∙ ap (λ (m : Option ℕ). pos (unwrap_or m 0) +ℤ difference node run) (sym e)
