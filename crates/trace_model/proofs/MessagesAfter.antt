-- The journey of each copy is the one that lines tell: a stay that an Enter and a Leave event made is the stay of
-- their lines.
use Rattle.std.proofs.Common.{◌≡◌, ◌∙◌, ℕ, ◌<◌, Bool, true, false, [], ◌∷◌, length, Option, Some, None, IsOk, refl}
use Rattle.std.proofs.Common.{sym, ap, subst, option_map, option_and_then, if◌then◌else◌}
use Rattle.std.specs.Prelude.{◌==◌, ◌&&◌, nat_lt}
use Rattle.std.proofs.lemmas.Bool.{and_from, lt-ltb}
use Rattle.network_model.specs.declared.event.Event.{Event}
use Rattle.network_model.specs.declared.event.Event.TheVariants.{Sync, SyncOne, Enter, Leave, Request}
use Rattle.network_model.specs.Network.{Network, NodeName, is_named}
use Rattle.network_model.specs.Run.{Run, Place, place, site_of}
use Rattle.network_model.specs.Kinds.{entered_copy}
use Rattle.network_model.specs.Outcome.{outcome_of, IsRun}
use Rattle.network_model.proofs.Options.{ok_value}
use Rattle.network_model.proofs.Places.{accepted-place_at}
use Rattle.network_model.proofs.Sites.{named-self}
use Rattle.network_model.proofs.Journeys.{continued, same_origin}
use Rattle.network_model.proofs.Paths.{gone_on}
use Rattle.network_model.proofs.Left.{left_parts, made_before, left_made}
use Rattle.trace_model.specs.declared.line.TraceLine.{TraceLine}
use Rattle.trace_model.specs.Line.{Lines, counts}
use Rattle.trace_model.specs.Record.{LinePlace, line_place, event_of, site, line_number}
use Rattle.trace_model.specs.Told.{TellsEvent, TellsRun}
use Rattle.trace_model.specs.Faithful.{is_effective, took_effect, TellsPlace, TellsStays, TellsJourney, HasJourney}
use Rattle.trace_model.specs.Faithful.{EachJourneyIsTold}
use Rattle.trace_model.proofs.Certain.{is_certain, certain_takes}
use Rattle.trace_model.proofs.Found.{same_length, event_told, same_event, same_number, line_counts}
use Rattle.trace_model.proofs.Found.{each_event_has_its_line}
use Rattle.trace_model.proofs.Recorded.{certain_counts}
use Rattle.network_model.specs.Journey as made
use Rattle.trace_model.specs.Journey as lined

-- a run that lines tell is one
pub accepted_told : (network : Network) (run : Run) (lines : Lines) → TellsRun network run lines → IsRun network run
accepted_told network [] lines told = tt
accepted_told network (event ∷ earlier) [] told = absurd told
accepted_told network (event ∷ earlier) (line ∷ lines) told =
    (subst IsOk (sym told.0.answered.outcome) refl, accepted_told network earlier lines told.1)

pub certain_took : (network : Network) (event : Event) (earlier : Run) → is_certain event ≡ true
    → IsOk (outcome_of network earlier event) → took_effect (outcome_of network earlier event) ≡ true
certain_took network event earlier certain accepted =
    let outcome = ok_value (outcome_of network earlier event) accepted in
    ap took_effect outcome.1 ∙ certain_takes network earlier event outcome.0 certain outcome.1

pub enter_certain : (event : Event) (copy : ℕ) → entered_copy event ≡ Some copy → is_certain event ≡ true
enter_certain (Enter node c at) copy takes = refl
enter_certain _ copy takes = cc

-- the journey of the copy that a line made, which counts
pub record HasMade (network : Network) (line : TraceLine) (lines : Lines) (journey : made.Journey) : Type 0 where
  pub by_lines : lined.LineJourney
  pub counted : counts network line ≡ true
  pub there : lined.line_journey_made network line.event (line_place line lines) (lined.line_journey_of network lines)
      ≡ Some by_lines
  pub tells : TellsJourney network journey by_lines

-- the copy that entered a clock, by its line
copy_entered_told : (network : Network) (node : NodeName) (entered : Place) (e : LinePlace) (copy : ℕ)
    → TellsPlace network entered e → site_of entered.event ≡ node
    → entered_copy entered.event ≡ Some copy → copy < length entered.earlier → lined.copy_entered node e ≡ Some copy
copy_entered_told network node entered e copy tells here takes below =
    let takes_here : entered_copy (event_of e) ≡ Some copy =
    ap entered_copy (same_event network entered e tells) ∙ takes in
    let named : is_named (site e) node ≡ true =
    ap (λ (name : NodeName). is_named name node) (ap site_of (same_event network entered e tells) ∙ here)
    ∙ named-self node in
    let before : nat_lt copy (line_number e) ≡ true =
    ap (nat_lt copy) (same_number network entered e tells) ∙ lt-ltb copy (length entered.earlier) below in
    ap (option_and_then (λ (c : ℕ). if is_named (site e) node && nat_lt c (line_number e) then Some c else None))
    takes_here
    ∙ ap (λ (b : Bool). if b then Some copy else None)
    (and_from (is_named (site e) node) (nat_lt copy (line_number e)) named before)

module _ (network : Network) (earlier : Run) (line : TraceLine) (lines : Lines) (told : TellsRun network earlier lines)
    (before : (tag : ℕ) (journey : made.Journey) → made.journey_of earlier tag ≡ Some journey
    → HasJourney network lines tag journey) where
  -- a journey that begins here
  begins : (event : Event) (journey : made.Journey) → TellsEvent network event earlier line → is_certain event ≡ true
      → lined.line_journey_made network event (line_place line lines) (lined.line_journey_of network lines)
      ≡ Some (lined.line_begun (line_place line lines))
      → made.begun event earlier ≡ journey → HasMade network line lines journey
  begins event journey tells certain there same =
      let here : TellsJourney network (made.begun event earlier) (lined.line_begun (line_place line lines)) =
      record { origin = record { told = tells; before = told }; stays = tt } in
      record {
        by_lines = lined.line_begun (line_place line lines);
        counted = certain_counts network event earlier line tells certain;
        there = ap (λ (e : Event). lined.line_journey_made network e (line_place line lines)
            (lined.line_journey_of network lines)) (event_told network event earlier line tells) ∙ there;
        tells = subst (λ (j : made.Journey). TellsJourney network j (lined.line_begun (line_place line lines))) same here;
      }

  -- and one that goes on
  goes : (node : NodeName) (transit at : ℕ) (journey : made.Journey)
      → TellsEvent network (Leave node transit at) earlier line
      → made.journey_made (Leave node transit at) earlier (made.journey_of earlier) ≡ Some journey
      → HasMade network line lines journey
  goes node transit at journey tells is =
      let here : Place = place (Leave node transit at) earlier in
      let from = continued here earlier transit journey is in
      let left = left_parts network earlier node transit at tells.stepped.outcome tells.answered.outcome in
      let places : Some left.entered ≡ Some from.0 = sym left.there ∙ from.3 in
      let one : left.entered ≡ from.0 = cc in
      let copies : Some left.copy ≡ Some from.1 =
      sym left.takes ∙ ap (λ (p : Place). entered_copy p.event) one ∙ from.4 in
      let same : left.copy ≡ from.1 = cc in
      let below : from.1 < length from.0.earlier =
      subst (λ (c : ℕ). c < length from.0.earlier) same
      (subst (λ (p : Place). left.copy < length p.earlier) one
      (made_before network left.entered.earlier left.copy left.m left.message)) in
      let accepted = accepted-place_at network earlier transit from.0
      (accepted_told network earlier lines told) from.3 in
      let entered = each_event_has_its_line network earlier lines transit from.0 told from.3
      (certain_took network from.0.event from.0.earlier (enter_certain from.0.event from.1 from.4) accepted) in
      let prior = before from.1 from.2 from.5 in
      let copy_is = copy_entered_told network node from.0 entered.e from.1 entered.tells
      (ap (λ (p : Place). site_of p.event) (sym one) ∙ left.site) from.4 below in
      let by_lines : lined.LineJourney = lined.with_stay (line_place line lines) entered.e prior.by_lines in
      let on = gone_on here from.0 from.2 journey from.6 in
      let stays : TellsStays network (record { entered = from.0; left = here } ∷ from.2.stays) by_lines.stays =
      (record { entered = entered.tells; left = record { told = tells; before = told } }, prior.tells.stays) in
      record {
        by_lines = by_lines;
        counted = line_counts network (Leave node transit at) earlier line tells
            (ap took_effect tells.answered.outcome
            ∙ ap is_effective (left_made network earlier node transit at tells.stepped.outcome journey
            tells.answered.outcome is));
        there = ap (λ (e : Event). lined.line_journey_made network e (line_place line lines)
            (lined.line_journey_of network lines)) (event_told network (Leave node transit at) earlier line tells)
            ∙ ap (option_and_then (lined.line_left_from node (line_place line lines) (lined.line_journey_of network lines)))
            entered.there
            ∙ ap (option_and_then (λ (copy : ℕ). option_map (lined.with_stay (line_place line lines) entered.e)
            (lined.line_journey_of network lines copy))) copy_is
            ∙ ap (option_map (lined.with_stay (line_place line lines) entered.e)) prior.there;
        tells = record {
          origin = subst (λ (o : Place). TellsPlace network o prior.by_lines.origin)
              (same_origin here from.0 from.2 journey from.6) prior.tells.origin;
          stays = subst (λ (s : _). TellsStays network s by_lines.stays) (sym on.1) stays;
        };
      }

  pub made_told : (event : Event) (journey : made.Journey) → TellsEvent network event earlier line
      → made.journey_made event earlier (made.journey_of earlier) ≡ Some journey → HasMade network line lines journey
  made_told (Sync node at) journey tells is = begins (Sync node at) journey tells refl refl cc
  made_told (SyncOne node at) journey tells is = begins (SyncOne node at) journey tells refl refl cc
  made_told (Request node at) journey tells is = begins (Request node at) journey tells refl refl cc
  made_told (Leave node transit at) journey tells is = goes node transit at journey tells is
  made_told _ journey tells is = cc

pub each_journey_is_told : EachJourneyIsTold
each_journey_is_told network [] lines tag journey told is = cc
each_journey_is_told network (event ∷ earlier) [] tag journey told is = absurd told
each_journey_is_told network (event ∷ earlier) (line ∷ lines) tag journey told is =
    at (length earlier == tag) refl is (λ t j known. each_journey_is_told network earlier lines t j told.1 known)
  where
    numbers : (length lines == tag) ≡ (length earlier == tag)
    numbers = ap (λ (n : ℕ). n == tag) (same_length network earlier lines told.1)

    unfolded : Bool → Bool → Option lined.LineJourney
    unfolded here counted = if here
        then (if counted then lined.line_journey_made network line.event (line_place line lines)
        (lined.line_journey_of network lines) else None)
        else lined.line_journey_of network lines tag

    at : (same : Bool) → (length earlier == tag) ≡ same
        → (if same then made.journey_made event earlier (made.journey_of earlier) else made.journey_of earlier tag)
        ≡ Some journey
        → ((t : ℕ) (j : made.Journey) → made.journey_of earlier t ≡ Some j → HasJourney network lines t j)
        → HasJourney network (line ∷ lines) tag journey
    at true here is before =
        let m = made_told network earlier line lines told.1 before event journey told.0 is in
        record {
          by_lines = m.by_lines;
          there = ap (λ (b : Bool). unfolded b (counts network line)) (numbers ∙ here) ∙ ap (unfolded true) m.counted
              ∙ m.there;
          tells = m.tells;
        }
    at false here is before =
        let found = before tag journey is in
        record {
          by_lines = found.by_lines;
          there = ap (λ (b : Bool). unfolded b (counts network line)) (numbers ∙ here) ∙ found.there;
          tells = found.tells;
        }
