-- How the journey of a copy was made: at its line the message was sent, or left a clock.
use Rattle.std.proofs.Common.{◌≡◌, ◌∙◌, ℕ, ◌<◌, Bool, true, false, ◌&&◌, cond, Option, Some, None, ◌⊎◌, inl, inr, refl, ap}
use Rattle.std.proofs.Common.{is_some, arith}
use Rattle.std.specs.Prelude.{option_map, option_and_then, nat_lt}
use Rattle.std.proofs.lemmas.Bool.Decides.{nat_tests}
use Rattle.std.proofs.lemmas.Option.{same_Some, none-some}
use Rattle.slave_port.proofs.Options.{some_step, some_image}
use Rattle.network_model.specs.declared.event.Event.{Event}
use Rattle.network_model.specs.declared.event.Event.TheVariants.{Sync, SyncOne, Leave, Request}
use Rattle.network_model.specs.Network.{Network, NodeName, is_named}
use Rattle.network_model.specs.Run.{true_moment}
use Rattle.network_model.specs.Kinds.{entered_copy, named_transit}
use Rattle.trace_model.specs.Record.{LinePlace, line_number, event_of, site, line_at}
use Rattle.trace_model.specs.Journey.{LineJourney, line_begun, with_stay, copy_entered, line_left_from}
use Rattle.trace_model.specs.Journey.{line_journey_made, line_journey_of}

copy_is : (named : Bool) (made limit c : ℕ) → cond (named && nat_lt made limit) (Some made) None ≡ Some c
    → (made ≡ c) × (c < limit)
copy_is true made limit c h = grind (arith, nat_tests)
copy_is false made limit c h = grind arith

entered_is : (node : NodeName) (entered : LinePlace) (o : Option ℕ) (c : ℕ) → entered_copy (event_of entered) ≡ o
    → option_and_then (λ copy. cond (is_named (site entered) node && nat_lt copy (line_number entered))
    (Some copy) None) o ≡ Some c
    → (entered_copy (event_of entered) ≡ Some c) × (c < line_number entered)
entered_is node entered None c same h = grind arith
entered_is node entered (Some made) c same h =
    let p = copy_is (is_named (site entered) node) made (line_number entered) c h in (same ∙ ap Some p.0, p.1)

module _ (network : Network) (e : LinePlace) (event : Event) (j : LineJourney) where
  -- it was sent
  pub record IsSent : Type 0 where
    pub begun : line_begun e ≡ j
    pub alone : named_transit event ≡ None
    pub timed : is_some (true_moment event) ≡ true

  -- it left a clock
  pub record HasLeft : Type 0 where
    pub transit : ℕ
    pub entered : LinePlace
    pub copy : ℕ
    pub prior : LineJourney
    pub named : named_transit event ≡ Some transit
    pub timed : is_some (true_moment event) ≡ true
    pub there : line_at network e.earlier transit ≡ Some entered
    pub copied : entered_copy (event_of entered) ≡ Some copy
    pub low : copy < line_number entered
    pub known : line_journey_of network e.earlier copy ≡ Some prior
    pub more : with_stay e entered prior ≡ j

sent : (network : Network) (e : LinePlace) (event : Event) (j : LineJourney) → named_transit event ≡ None
    → is_some (true_moment event) ≡ true → Some (line_begun e) ≡ Some j
    → IsSent network e event j ⊎ HasLeft network e event j
sent network e event j alone timed h = inl (record { begun = same_Some _ _ h; alone = alone; timed = timed })

pub made-so : (network : Network) (e : LinePlace) (event : Event) (j : LineJourney)
    → line_journey_made network event e (line_journey_of network e.earlier) ≡ Some j
    → IsSent network e event j ⊎ HasLeft network e event j
made-so network e (Sync node at) j h = sent network e (Sync node at) j refl refl h
made-so network e (SyncOne node at) j h = sent network e (SyncOne node at) j refl refl h
made-so network e (Request node at) j h = sent network e (Request node at) j refl refl h
made-so network e (Leave node transit at) j h =
    let entered = some_step (line_left_from node e (line_journey_of network e.earlier)) (line_at network e.earlier transit) h in
    let copy = some_step (λ (c : ℕ). option_map (with_stay e entered.0) (line_journey_of network e.earlier c))
    (copy_entered node entered.0) entered.2 in
    let prior = some_image (with_stay e entered.0) (line_journey_of network e.earlier copy.0) copy.2 in
    let copied = entered_is node entered.0 (entered_copy (event_of entered.0)) copy.0 refl copy.1 in
    inr (record {
      transit = transit;
      entered = entered.0;
      copy = copy.0;
      prior = prior.0;
      named = refl;
      timed = refl;
      there = entered.1;
      copied = copied.0;
      low = copied.1;
      known = prior.1;
      more = prior.2;
    })
made-so network e _ j h = absurd (none-some j h)
