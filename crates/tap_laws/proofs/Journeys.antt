-- The journey of each copy of an event message is a way.
use Rattle.std.proofs.Common.{◌≡◌, ◌∙◌, ℕ, List, [], ◌∷◌, Some, IsOk, refl, sym, ap, subst, option_map, option_and_then}
use Rattle.slave_port.proofs.Options.{some_step}
use Rattle.network_model.specs.declared.event.Event.{Event}
use Rattle.network_model.specs.declared.event.Event.TheVariants.{Sync, SyncOne, Enter, Leave, Request}
use Rattle.network_model.specs.Network.{Network, NodeName}
use Rattle.network_model.specs.Run.{Run, Place, place, place_at, tag_of, IsIn, site_of}
use Rattle.network_model.specs.Kinds.{entered_copy, timed_copy}
use Rattle.network_model.specs.Journey.{Journey, Stay, begun, journey_made, journey_of}
use Rattle.network_model.specs.Truth.{copy_made, copy_of}
use Rattle.network_model.specs.Outcome.{outcome_of, IsRun}
use Rattle.network_model.specs.Level.{Crossing, crossing, crossing_to, crossings_of}
use Rattle.network_model.proofs.Places.{tag_of-place_at, accepted-place_at, IsRun-place_at, IsIn-place_at, IsIn-within, place_at-within}
use Rattle.network_model.proofs.Made.{copy_of-place_at, journey_of-place_at}
use Rattle.network_model.proofs.Journeys.{continued, same_origin}
use Rattle.network_model.proofs.Paths as Paths
use Rattle.network_model.proofs.Paths.{gone_on, stays_are}
use Rattle.tap_laws.specs.Way.{Leg, Cable, Clock, IsWay, cables, EachJourneyIsAWay}
use Rattle.tap_laws.proofs.Along.{entered_message}

-- what a journey was made by: the event that drew the message, or one by which it left a clock
data IsMade (q : Place) (journey : Journey) : Type 0 where
  Begun : q ≡ journey.origin → journey.stays ≡ [] → IsMade q journey
  Gone : (node : NodeName) (transit at copy : ℕ) (entered : Place) (before : Journey) → q.event ≡ Leave node transit at
      → place_at q.earlier transit ≡ Some entered → entered_copy entered.event ≡ Some copy → journey_of q.earlier copy ≡ Some before
      → journey.stays ≡ record { entered = entered; left = q } ∷ before.stays → journey.origin ≡ before.origin → IsMade q journey

drew : (event : Event) (earlier : Run) (journey : Journey) → begun event earlier ≡ journey → IsMade (place event earlier) journey
drew event earlier journey same = Begun (ap (λ (j : Journey). j.origin) same) (sym (ap (λ (j : Journey). j.stays) same))

made_by : (event : Event) (earlier : Run) (journey : Journey) → journey_made event earlier (journey_of earlier) ≡ Some journey → IsMade (place event earlier) journey
made_by (Sync node at) earlier journey made = drew (Sync node at) earlier journey cc
made_by (SyncOne node at) earlier journey made = drew (SyncOne node at) earlier journey cc
made_by (Request node at) earlier journey made = drew (Request node at) earlier journey cc
made_by (Leave node transit at) earlier journey made =
    let from = continued (place (Leave node transit at) earlier) earlier transit journey made in
    let on = gone_on (place (Leave node transit at) earlier) from.0 from.2 journey from.6 in
    Gone node transit at from.1 from.0 from.2 refl from.3 from.4 from.5 on.1
    (sym (same_origin (place (Leave node transit at) earlier) from.0 from.2 journey from.6))
made_by _ earlier journey made = absurd cc

-- the legs of a journey that ends at this event, the last one first
abbrev legs_of : Place → List Stay → Place → List Leg
legs_of origin [] end = Cable (crossing origin end) ∷ []
legs_of origin (stay ∷ stays) end = Cable (crossing stay.left end) ∷ Clock (site_of stay.entered.event) stay ∷ legs_of origin stays stay.entered

cables_of : (origin : Place) (stays : List Stay) (end : Place) → cables (legs_of origin stays end) ≡ crossings_of origin stays end
cables_of origin [] end = refl
cables_of origin (stay ∷ stays) end = ap (λ (cs : List Crossing). crossing stay.left end ∷ cs) (cables_of origin stays stay.entered)

-- an Enter, by the copy that it takes in
enters_with : (event : Event) (copy : ℕ) → entered_copy event ≡ Some copy → (at : ℕ) × (event ≡ Enter (site_of event) copy at)
enters_with (Enter node c at) copy is = let same : c ≡ copy = cc in (at, ap (λ (n : ℕ). Enter node n at) same)
enters_with _ copy is = absurd cc

-- the copy that comes to an event, and the event that made it
record Came (end : Place) (copy : ℕ) (journey : Journey) : Type 0 where
  pub q : Place
  pub there : place_at end.earlier copy ≡ Some q
  pub made : IsMade q journey
  pub over : crossing_to end ≡ Some (crossing q end)

came : (end : Place) (copy : ℕ) (journey : Journey) → timed_copy end.event ≡ Some copy → journey_of end.earlier copy ≡ Some journey → Came end copy journey
came end copy journey taken known =
    let made = some_step (λ (p : Place). journey_made p.event p.earlier (journey_of p.earlier)) (place_at end.earlier copy)
    (sym (journey_of-place_at end.earlier copy) ∙ known) in
    record {
      q = made.0;
      there = made.1;
      made = made_by made.0.event made.0.earlier journey made.2;
      over = ap (option_and_then (λ (copy : ℕ). option_and_then (λ (journey : Journey). option_map (λ made. crossing made end) (place_at end.earlier copy))
          (journey_of end.earlier copy))) taken
          ∙ ap (option_and_then (λ (journey : Journey). option_map (λ made. crossing made end) (place_at end.earlier copy))) known
          ∙ ap (option_map (λ made. crossing made end)) made.1;
    }

-- the journey of a copy was the same when it entered
known_before : (network : Network) (node : NodeName) (copy at : ℕ) (q entered : Place) (journey : Journey) → IsIn q.earlier entered
    → IsOk (outcome_of network entered.earlier (Enter node copy at)) → journey_of q.earlier copy ≡ Some journey → journey_of entered.earlier copy ≡ Some journey
known_before network node copy at q entered journey inside accepted known =
    let message = entered_message network node copy at entered.earlier accepted in
    let made = some_step (λ (p : Place). copy_made network p.event p.earlier (copy_of network p.earlier)) (place_at entered.earlier copy)
    (sym (copy_of-place_at network entered.earlier copy) ∙ message.1) in
    journey_of-place_at entered.earlier copy
    ∙ ap (option_and_then (λ (p : Place). journey_made p.event p.earlier (journey_of p.earlier))) (made.1 ∙ sym (place_at-within q.earlier entered copy made.0 inside made.1))
    ∙ sym (journey_of-place_at q.earlier copy) ∙ known

way_of : (network : Network) (run : Run) → IsRun network run → (origin : Place) (stays : List Stay) (end : Place) (copy : ℕ) → IsIn run end
    → timed_copy end.event ≡ Some copy → journey_of end.earlier copy ≡ Some (record { origin = origin; stays = stays }) → IsWay origin end (legs_of origin stays end)
way_of network run accepted origin [] end copy there taken known =
    let is = came end copy (record { origin = origin; stays = [] }) taken known in
    by is.q is.over is.made
  where
    by : (q : Place) → crossing_to end ≡ Some (crossing q end) → IsMade q (record { origin = origin; stays = [] })
        → (crossing_to end ≡ Some (crossing origin end)) × (origin ≡ origin)
    by q over (Begun same none) = (over ∙ ap (λ (p : Place). Some (crossing p end)) same, refl)
    by q over (Gone node transit at c entered before event inside takes known more from) = absurd cc
way_of network run accepted origin (stay ∷ stays) end copy there taken known =
    let is = came end copy (record { origin = origin; stays = stay ∷ stays }) taken known in
    by is.q is.over (IsIn-within run end is.q there (IsIn-place_at end.earlier copy is.q is.there)) is.made
    (λ entered c there taken known. way_of network run accepted origin stays entered c there taken known)
    (stays_are network end.earlier copy (record { origin = origin; stays = stay ∷ stays }) (IsRun-place_at network run (tag_of end) end accepted there) known).0
  where
    by : (q : Place) → crossing_to end ≡ Some (crossing q end) → IsIn run q → IsMade q (record { origin = origin; stays = stay ∷ stays })
        → ((entered : Place) (c : ℕ) → IsIn run entered → timed_copy entered.event ≡ Some c
        → journey_of entered.earlier c ≡ Some (record { origin = origin; stays = stays }) → IsWay origin entered (legs_of origin stays entered))
        → Paths.IsStay end.earlier stay
        → IsWay origin end (Cable (crossing stay.left end) ∷ Clock (site_of stay.entered.event) stay ∷ legs_of origin stays stay.entered)
    by q over q_in (Begun same none) rest at_clock = absurd cc
    by q over q_in (Gone node transit at c entered before event inside takes known more from) rest at_clock =
        let stay_is : stay ≡ record { entered = entered; left = q } = cc in
        let stays_is : stays ≡ before.stays = cc in
        let left_is : q ≡ stay.left = sym (ap (λ (s : Stay). s.left) stay_is) in
        let entered_is : entered ≡ stay.entered = sym (ap (λ (s : Stay). s.entered) stay_is) in
        let whole : before ≡ record { origin = origin; stays = stays } =
        ap (λ (o : Place). record { origin = o; stays = before.stays }) (sym from) ∙ ap (λ (ss : List Stay). record { origin = origin; stays = ss }) (sym stays_is) in
        let entered_in = IsIn-within run q entered q_in (IsIn-place_at q.earlier transit entered inside) in
        let enter = enters_with entered.event c takes in
        let ok = subst (λ (e : Event). IsOk (outcome_of network entered.earlier e)) enter.1 (accepted-place_at network run (tag_of entered) entered accepted entered_in) in
        let known_there = known_before network (site_of entered.event) c enter.0 q entered before (IsIn-place_at q.earlier transit entered inside) ok known
        ∙ ap (λ (j : Journey). Some j) whole in
        let way = rest entered c entered_in (ap timed_copy enter.1) known_there in
        let node_is : node ≡ site_of stay.entered.event =
        sym (ap site_of event) ∙ ap (λ (p : Place). site_of p.event) left_is ∙ at_clock.left_at ∙ sym at_clock.entered_at in
        let tag_is : transit ≡ tag_of stay.entered = sym (tag_of-place_at q.earlier transit entered inside) ∙ ap tag_of entered_is in (
          over ∙ ap (λ (p : Place). Some (crossing p end)) left_is,
          (
            refl,
            record {
              copy = c;
              entered_at = enter.0;
              left_at = at;
              enters = subst (λ (p : Place). p.event ≡ Enter (site_of p.event) c enter.0) entered_is enter.1;
              leaves = ap (λ (p : Place). p.event) (sym left_is) ∙ event ∙ ap (λ (n : NodeName). Leave n transit at) node_is
                  ∙ ap (λ (n : ℕ). Leave (site_of stay.entered.event) n at) tag_is;
              inside = subst (λ (p : Place). IsIn p.earlier stay.entered) left_is
                  (subst (IsIn q.earlier) entered_is (IsIn-place_at q.earlier transit entered inside));
            },
            subst (λ (p : Place). IsWay origin p (legs_of origin stays p)) entered_is way,
          ),
        )

pub each_journey : EachJourneyIsAWay
each_journey network run p copy journey accepted there taken known =
    (legs_of journey.origin journey.stays p, way_of network run accepted journey.origin journey.stays p copy there taken known, cables_of journey.origin journey.stays p)
