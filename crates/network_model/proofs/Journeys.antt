-- A journey begins at an event of the run that drew a number, which is the origin of the copy.
-- What a copy of an event message says is read off this event.
use Rattle.std.proofs.Common.{◌≡◌, ◌∙◌, ℕ, Bool, true, false, [], ◌∷◌, length, Some, None, option_map, option_and_then, refl, sym, ap, subst, if◌then◌else◌}
use Rattle.std.specs.Prelude.{◌==◌, nat_lt}
use Rattle.std.proofs.lemmas.Bool.{eq-eqb}
use Rattle.slave_port.proofs.Options.{some_step}
use Rattle.network_model.specs.declared.event.Event.{Event}
use Rattle.network_model.specs.declared.event.Event.TheVariants.{Sync, SyncOne, Leave, Request}
use Rattle.network_model.specs.Run.{Run, Place, place, place_at, tag_of, IsIn}
use Rattle.network_model.specs.Kinds.{entered_copy}
use Rattle.network_model.specs.Clock.{reading}
use Rattle.network_model.specs.Journey.{Journey, begun, goes_on, left_from, journey_made, journey_of}
use Rattle.network_model.specs.Truth.{origin_made, origin_of}
use Rattle.network_model.proofs.Places.{place_at-later}
use Rattle.network_model.proofs.Made.{journey_of-place_at, origin_of-place_at}

-- the last event is one of the run
pub IsIn-last : (event : Event) (earlier : Run) → IsIn (event ∷ earlier) (place event earlier)
IsIn-last event earlier =
    ap (λ (same : Bool). if same then Some (place event earlier) else place_at earlier (length earlier)) (eq-eqb (length earlier) (length earlier) refl)

pub same_origin : (left entered : Place) (journey further : Journey) → goes_on left entered journey ≡ Some further → journey.origin ≡ further.origin
same_origin left entered journey further on = at (nat_lt (reading left) (reading entered)) on
  where
    at : (back : Bool)
        → (if back then None else Some (record { origin = journey.origin; stays = record { entered = entered; left = left } ∷ journey.stays })) ≡ Some further
        → journey.origin ≡ further.origin
    at true on = cc
    at false on = let same : (record { origin = journey.origin; stays = record { entered = entered; left = left } ∷ journey.stays }) ≡ further = cc in
        ap (λ (j : Journey). j.origin) same

-- the journey that a Leave event continues is one of an earlier copy
pub continued : (left : Place) (earlier : Run) (transit : ℕ) (journey : Journey)
    → option_and_then (left_from left (journey_of earlier)) (place_at earlier transit) ≡ Some journey
    → (entered : Place) × (copy : ℕ) × (before : Journey)
    × (place_at earlier transit ≡ Some entered) × (entered_copy entered.event ≡ Some copy)
    × (journey_of earlier copy ≡ Some before) × (goes_on left entered before ≡ Some journey)
continued left earlier transit journey made =
    let first = some_step (left_from left (journey_of earlier)) (place_at earlier transit) made in
    let second = some_step (λ copy. option_and_then (goes_on left first.0) (journey_of earlier copy)) (entered_copy first.0.event) first.2 in
    let third = some_step (goes_on left first.0) (journey_of earlier second.0) second.2 in
    (first.0, second.0, third.0, first.1, second.1, third.1, third.2)

-- the event that drew the message of a journey is one of the run
pub IsIn-origin : (run : Run) (tag : ℕ) (journey : Journey) → journey_of run tag ≡ Some journey → IsIn run journey.origin
IsIn-origin [] tag journey made = cc
IsIn-origin (event ∷ earlier) tag journey made = at (length earlier == tag) made
    (λ t j known. place_at-later event earlier (tag_of j.origin) j.origin (IsIn-origin earlier t j known))
  where
    drew : Journey → Type 0
    drew j = IsIn (event ∷ earlier) j.origin

    start : begun event earlier ≡ journey → drew journey
    start same = subst drew same (IsIn-last event earlier)

    made_by : (e : Event) → e ≡ event → journey_made e earlier (journey_of earlier) ≡ Some journey
        → ((t : ℕ) (j : Journey) → journey_of earlier t ≡ Some j → drew j) → drew journey
    made_by (Sync node at) is made rest = start (let same : begun (Sync node at) earlier ≡ journey = cc in ap (λ (e : Event). begun e earlier) (sym is) ∙ same)
    made_by (SyncOne node at) is made rest = start (let same : begun (SyncOne node at) earlier ≡ journey = cc in ap (λ (e : Event). begun e earlier) (sym is) ∙ same)
    made_by (Request node at) is made rest = start (let same : begun (Request node at) earlier ≡ journey = cc in ap (λ (e : Event). begun e earlier) (sym is) ∙ same)
    made_by (Leave node transit at) is made rest =
        let from = continued (place (Leave node transit at) earlier) earlier transit journey made in
        subst (λ (o : Place). IsIn (event ∷ earlier) o) (same_origin (place (Leave node transit at) earlier) from.0 from.2 journey from.6) (rest from.1 from.2 from.5)
    made_by _ is made rest = cc

    at : (same : Bool) → (if same then journey_made event earlier (journey_of earlier) else journey_of earlier tag) ≡ Some journey
        → ((t : ℕ) (j : Journey) → journey_of earlier t ≡ Some j → drew j) → drew journey
    at true made rest = made_by event refl made rest
    at false made rest = rest tag journey made

-- it is the origin of the copy
pub origin_of-journey : (run : Run) (tag : ℕ) (journey : Journey) → journey_of run tag ≡ Some journey → origin_of run tag ≡ Some journey.origin
origin_of-journey run tag journey made =
    let there = some_step (λ (p : Place). journey_made p.event p.earlier (journey_of p.earlier)) (place_at run tag) (sym (journey_of-place_at run tag) ∙ made) in
    origin_of-place_at run tag ∙ ap (option_and_then (λ (p : Place). origin_made p.event p.earlier (origin_of p.earlier))) there.1 ∙ by_kind there.0.event there.0.earlier there.2
  where
    by_kind : (event : Event) (earlier : Run) → journey_made event earlier (journey_of earlier) ≡ Some journey → origin_made event earlier (origin_of earlier) ≡ Some journey.origin
    by_kind (Sync node at) earlier made = let same : begun (Sync node at) earlier ≡ journey = cc in ap (λ (j : Journey). Some j.origin) same
    by_kind (SyncOne node at) earlier made = let same : begun (SyncOne node at) earlier ≡ journey = cc in ap (λ (j : Journey). Some j.origin) same
    by_kind (Request node at) earlier made = let same : begun (Request node at) earlier ≡ journey = cc in ap (λ (j : Journey). Some j.origin) same
    by_kind (Leave node transit at) earlier made = ap (option_map (λ (j : Journey). j.origin)) made
    by_kind _ earlier made = cc
