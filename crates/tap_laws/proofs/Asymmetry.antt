-- The asymmetry of two crossings, and of a report.
use Rattle.std.proofs.Common.{◌≡◌, ◌∙◌, ℕ, ℤ, ◌+ℤ◌, ◌-ℤ◌, ◌≤◌, Bool, true, false, List, [], ◌∷◌, Option, Some, None, refl, sym, ap, subst, arith, if◌then◌else◌, option_map, option_and_then, nat_lt}
use Rattle.std.specs.Prelude.{IfSome}
use Rattle.std.proofs.lemmas.Bool.Decides.{nat_tests}
use Rattle.std.proofs.lemmas.Int.{ints}
use Rattle.event_codec.specs.Packet.{Contents}
use Rattle.network_model.specs.declared.event.Event.{Event}
use Rattle.network_model.specs.declared.event.Event.TheVariants.{Sync, SyncOne, Leave, Request}
use Rattle.network_model.specs.Network.{Network}
use Rattle.network_model.specs.Run.{Run, Place, place, place_at, tag_of, IsIn}
use Rattle.network_model.specs.Kinds.{entered_copy, timed_copy, draws_sync, is_request}
use Rattle.network_model.specs.Clock.{difference, reading}
use Rattle.network_model.specs.Journey.{Journey, Stay, goes_on, left_from, journey_made, journey_of}
use Rattle.network_model.specs.Outcome.{IsRun}
use Rattle.network_model.specs.Level.{Crossing as Leg_over, crossing, crossings_of, path_to, time_on, IsSteady}
use Rattle.network_model.specs.TrueTime.{twice}
use Rattle.network_model.proofs.Places.{IsIn-within, place_at-within}
use Rattle.slave_port.proofs.Options.{some_step}
use Rattle.network_model.proofs.Made.{journey_of-place_at}
use Rattle.network_model.proofs.TrueTime.{error_is_asymmetry}
use Rattle.tap_crossing.specs.declared.crossing.Crossing.{Crossing}
use Rattle.tap_crossing.specs.declared.crossing.MessageOutcome.{MessageOutcome}
use Rattle.tap_crossing.specs.declared.crossing.MessageOutcome.TheVariants as outcomes
use Rattle.tap_crossing.specs.declared.sighting.Place.TheVariants as places
use Rattle.tap_crossing.specs.declared.sighting.Placed.{Placed}
use Rattle.tap_crossing.specs.declared.sighting.Sighting.{Sighting}
use Rattle.tap_crossing.specs.declared.places.Places.{Places}
use Rattle.tap_crossing.specs.Record.{complete, complete_with}
use Rattle.tap_crossing.specs.Told.{closes_or_waits}
use Rattle.tap_laws.specs.Told.{message_at, Passage, Tells, AreOf, Rests}
use Rattle.tap_laws.specs.Way.{Leg, Cable, Clock, IsWay, cables}
use Rattle.tap_laws.specs.Asymmetry.{IsCrossingOn, AsymmetryIsOfTheWays, OffsetIsOffByHalf, ShowsAsymmetry}
use Rattle.tap_laws.proofs.Along.{over, sends, from_in, over_cable, through}
use Rattle.tap_laws.proofs.Resting.{cables_and_taps}

-- what rests of a crossing
crossed_rests : (rest : ℤ) (outcome : MessageOutcome) (x : Crossing) → Rests rest outcome → outcome ≡ outcomes.Crossed x → x.rest ≡ rest
crossed_rests rest outcome x rests is = subst (Rests rest) is rests

rest_of : (network : Network) (run : Run) (ahead_first ahead_second : ℤ) (from to : Place) (legs : List Leg) (x : Crossing) → IsRun network run → IsSteady run
    → IsCrossingOn network run ahead_first ahead_second from to legs x → x.rest ≡ time_on (cables legs) +ℤ (ahead_second -ℤ ahead_first)
rest_of network run ahead_first ahead_second from to legs x accepted steady is =
    crossed_rests (time_on (cables legs) +ℤ (ahead_second -ℤ ahead_first)) (closes_or_waits is.last (complete is.met)) x
    (cables_and_taps network run legs (record { first = from; second = to; general = is.general; moved = is.moved }) is.met is.last ahead_first ahead_second
    accepted steady is.there is.way is.even is.are is.tapped) is.crossed

less : (x y there back from to : ℤ) → x ≡ there +ℤ (to -ℤ from) → y ≡ back +ℤ (from -ℤ to) → x -ℤ y ≡ (there -ℤ back) +ℤ twice (to -ℤ from)
less x y there back from to first second = omega (arith, ints)

more : (x y there back from to : ℤ) → x ≡ there +ℤ (to -ℤ from) → y ≡ back +ℤ (from -ℤ to) → x +ℤ y ≡ there +ℤ back
more x y there back from to first second = omega (arith, ints)

ways_are : AsymmetryIsOfTheWays
ways_are network run ahead_from ahead_to sent arrived asked answered there back sync request accepted steady is is_back =
    let first = rest_of network run ahead_from ahead_to sent arrived there sync accepted steady is in
    let second = rest_of network run ahead_to ahead_from asked answered back request accepted steady is_back in (
      less sync.rest request.rest (time_on (cables there)) (time_on (cables back)) ahead_from ahead_to first second,
      more sync.rest request.rest (time_on (cables there)) (time_on (cables back)) ahead_from ahead_to first second,
    )

-- an event that sends an event message of its own
abbrev is_sending : Event → Bool
is_sending (Sync node at) = true
is_sending (SyncOne node at) = true
is_sending (Request node at) = true
is_sending _ = false

sending_sync : (event : Event) → draws_sync event ≡ true → is_sending event ≡ true
sending_sync (Sync node at) is = refl
sending_sync (SyncOne node at) is = refl
sending_sync _ is = cc

sending_request : (event : Event) → is_request event ≡ true → is_sending event ≡ true
sending_request (Request node at) is = refl
sending_request _ is = cc

-- the journey of what is told at an event
abbrev journey_told : Place → Option ℕ → Option Journey
journey_told p None = journey_made p.event p.earlier (journey_of p.earlier)
journey_told p (Some copy) = journey_of p.earlier copy

abbrev journey_at : Place → Option Journey
journey_at p = journey_told p (timed_copy p.event)

abbrev stays : List Leg → List Stay
stays [] = []
stays (Cable c ∷ legs) = stays legs
stays (Clock clock stay ∷ legs) = stay ∷ stays legs

begins : (event : Event) (earlier : Run) → is_sending event ≡ true → journey_at (place event earlier) ≡ Some (record { origin = place event earlier; stays = [] })
begins (Sync node at) earlier is = refl
begins (SyncOne node at) earlier is = refl
begins (Request node at) earlier is = refl
begins _ earlier is = cc

-- a journey with one stay more
abbrev further : (left entered : Place) → Journey → Journey
further left entered journey = record { origin = journey.origin; stays = record { entered = entered; left = left } ∷ journey.stays }

goes_on_by : (left entered : Place) (journey : Journey) → reading entered ≤ reading left → goes_on left entered journey ≡ Some (further left entered journey)
goes_on_by left entered journey order = by (nat_lt (reading left) (reading entered)) refl
  where
    by : (back : Bool) → nat_lt (reading left) (reading entered) ≡ back
        → (if back then None else Some (further left entered journey)) ≡ Some (further left entered journey)
    by true is = absurd (grind (arith, nat_tests))
    by false is = refl

-- a journey stays what it is
journey_since : (run : Run) (entered : Place) (copy : ℕ) (journey : Journey) → IsIn run entered → journey_of entered.earlier copy ≡ Some journey
    → journey_of run copy ≡ Some journey
journey_since run entered copy journey there known =
    let made = some_step (λ (p : Place). journey_made p.event p.earlier (journey_of p.earlier)) (place_at entered.earlier copy)
    (sym (journey_of-place_at entered.earlier copy) ∙ known) in
    journey_of-place_at run copy
    ∙ ap (option_and_then (λ (p : Place). journey_made p.event p.earlier (journey_of p.earlier))) (place_at-within run entered copy made.0 there made.1)
    ∙ made.2

-- the journey at the end of a way
journey_is : (network : Network) (run : Run) (from to : Place) (legs : List Leg) (m : Contents) → IsRun network run → IsIn run to → IsWay from to legs
    → message_at network to ≡ Some m → is_sending from.event ≡ true → journey_at to ≡ Some (record { origin = from; stays = stays legs })
journey_is network run from to [] m accepted there way told sent =
    subst (λ (p : Place). journey_at p ≡ Some (record { origin = from; stays = [] })) way (begins from.event from.earlier sent)
journey_is network run from to (Cable c ∷ legs) m accepted there way told sent =
    let is = over to c way.0 in
    let before = journey_is network run from c.from legs m accepted (from_in run to c there is) way.1 (over_cable network to c m is told) sent in
    let made : journey_at c.from ≡ journey_made c.from.event c.from.earlier (journey_of c.from.earlier) =
    ap (journey_told c.from) (sends c.from.event c.from.earlier is.journey is.journey_is) in
    ap (journey_told to) is.taken
    ∙ journey_of-place_at to.earlier is.copy
    ∙ ap (option_and_then (λ (p : Place). journey_made p.event p.earlier (journey_of p.earlier))) is.made_by
    ∙ sym made ∙ before
journey_is network run from to (Clock clock stay ∷ legs) m accepted there way told sent =
    let is = way.1 in
    let left_in = subst (IsIn run) way.0 there in
    let passes = through network run clock stay m accepted left_in is (subst (λ (p : Place). message_at network p ≡ Some m) way.0 told) in
    let entered_in = IsIn-within run stay.left stay.entered left_in is.inside in
    let before = journey_is network run from stay.entered legs passes.before accepted entered_in way.2 passes.entered sent in
    let taken : journey_of stay.entered.earlier is.copy ≡ Some (record { origin = from; stays = stays legs }) =
    sym (ap (journey_told stay.entered) (ap timed_copy is.enters)) ∙ before in
    let same : place (Leave clock (tag_of stay.entered) is.left_at) stay.left.earlier ≡ stay.left = ap (λ (e : Event). place e stay.left.earlier) (sym is.leaves) in
    subst (λ (p : Place). journey_at p ≡ Some (record { origin = from; stays = stay ∷ stays legs })) (same ∙ sym way.0)
    (ap (option_and_then (left_from (place (Leave clock (tag_of stay.entered) is.left_at) stay.left.earlier) (journey_of stay.left.earlier))) is.inside
    ∙ ap (option_and_then (λ copy. option_and_then (goes_on (place (Leave clock (tag_of stay.entered) is.left_at) stay.left.earlier) stay.entered)
    (journey_of stay.left.earlier copy))) (ap entered_copy is.enters)
    ∙ ap (option_and_then (goes_on (place (Leave clock (tag_of stay.entered) is.left_at) stay.left.earlier) stay.entered))
    (journey_since stay.left.earlier stay.entered is.copy (record { origin = from; stays = stays legs }) is.inside taken)
    ∙ ap (λ (p : Place). goes_on p stay.entered (record { origin = from; stays = stays legs })) same
    ∙ goes_on_by stay.left stay.entered (record { origin = from; stays = stays legs }) passes.order)

-- the cables on a way are the crossings of the journey
cables_are : (from to : Place) (legs : List Leg) (copy : ℕ) → timed_copy to.event ≡ Some copy → IsWay from to legs → timed_copy from.event ≡ None
    → cables legs ≡ crossings_of from (stays legs) to
cables_are from to [] copy taken way none = let both : None ≡ Some copy = sym none ∙ ap (λ (p : Place). timed_copy p.event) way ∙ taken in cc
cables_are from to (Clock clock stay ∷ legs) copy taken way none =
    let both : None ≡ Some copy = sym (ap timed_copy way.1.leaves) ∙ sym (ap (λ (p : Place). timed_copy p.event) way.0) ∙ taken in cc
cables_are from to (Cable c ∷ []) copy taken way none =
    let is = over to c way.0 in
    ap (λ (p : Place). crossing c.from p ∷ []) is.ends ∙ ap (λ (p : Place). crossing p to ∷ []) (sym way.1)
cables_are from to (Cable c ∷ Cable d ∷ legs) copy taken way none =
    let is = over to c way.0 in
    let before = over c.from d way.1.0 in
    let both : None ≡ Some before.copy = sym (sends c.from.event c.from.earlier is.journey is.journey_is) ∙ before.taken in cc
cables_are from to (Cable c ∷ Clock clock stay ∷ legs) copy taken way none =
    let is = over to c way.0 in
    ap (λ (cs : List Leg_over). c ∷ cs) (cables_are from stay.entered legs way.1.1.copy (ap timed_copy way.1.1.enters) way.1.2 none)
    ∙ ap (λ (p : Place). crossing c.from p ∷ crossings_of from (stays legs) stay.entered) is.ends
    ∙ ap (λ (p : Place). crossing p to ∷ crossings_of from (stays legs) stay.entered) way.1.0

sends_alone : (event : Event) → is_sending event ≡ true → timed_copy event ≡ None
sends_alone (Sync node at) is = refl
sends_alone (SyncOne node at) is = refl
sends_alone (Request node at) is = refl
sends_alone _ is = cc

-- they are the path of what came
path_is_way : (network : Network) (run : Run) (from to : Place) (legs : List Leg) (m : Contents) (path : List Leg_over) → IsRun network run → IsIn run to
    → IsWay from to legs → message_at network to ≡ Some m → is_sending from.event ≡ true → path_to to ≡ Some path → cables legs ≡ path
path_is_way network run from to legs m path accepted there way told sent is =
    let came = some_step (λ copy. option_map (λ (journey : Journey). crossings_of journey.origin journey.stays to) (journey_of to.earlier copy)) (timed_copy to.event) is in
    let journey : journey_of to.earlier came.0 ≡ Some (record { origin = from; stays = stays legs }) =
    sym (ap (journey_told to) came.1) ∙ journey_is network run from to legs m accepted there way told sent in
    let both : Some (crossings_of from (stays legs) to) ≡ Some path =
    sym (ap (option_map (λ (journey : Journey). crossings_of journey.origin journey.stays to)) journey) ∙ came.2 in
    let one : crossings_of from (stays legs) to ≡ path = cc in
    cables_are from to legs came.0 came.1 way (sends_alone from.event sent) ∙ one

-- a crossing was met at its second tap
second_told : (network : Network) (run : Run) (p : Passage) (met : Places) (last : Placed) (x : Crossing) → AreOf network run p met
    → closes_or_waits last (complete met) ≡ outcomes.Crossed x → (m : Contents) × (message_at network p.second ≡ Some m)
second_told network run p met last x are is = by met.first met.second are.second is
  where
    by : (first second : Option Sighting) → IfSome second (Tells network run p places.Second)
        → closes_or_waits last (option_and_then (λ one. option_and_then (λ other. complete_with met one other) second) first) ≡ outcomes.Crossed x
        → (m : Contents) × (message_at network p.second ≡ Some m)
    by None second tells is = absurd cc
    by (Some first) None tells is = absurd cc
    by (Some first) (Some second) tells is = (tells.m, tells.is_told)

off_by : (offset difference there back sync request ahead : ℤ) → offset ≡ difference +ℤ (there -ℤ back) → sync ≡ there +ℤ (ahead -ℤ ahead)
    → request ≡ back +ℤ (ahead -ℤ ahead) → offset ≡ difference +ℤ (sync -ℤ request)
off_by offset difference there back sync request ahead is first second = omega (arith, ints)

offset_is : OffsetIsOffByHalf
offset_is network run slave master report ahead sent arrived asked answered there back sync request premise steady reported present
    draws arrived_is asks answered_is is is_back =
    let accepted = premise.accepted in
    let asym = error_is_asymmetry network run slave master report premise steady reported present in
    let told = second_told network run (record { first = sent; second = arrived; general = is.general; moved = is.moved }) is.met is.last sync is.are is.crossed in
    let told_back = second_told network run (record { first = asked; second = answered; general = is_back.general; moved = is_back.moved }) is_back.met is_back.last request
    is_back.are is_back.crossed in
    let path : path_to arrived ≡ Some asym.there = sym (ap (option_and_then path_to) arrived_is) ∙ asym.sync in
    let path_back : path_to answered ≡ Some asym.back = sym (ap (option_and_then path_to) answered_is) ∙ asym.request in
    let one = path_is_way network run sent arrived there told.0 asym.there accepted is.there is.way told.1 (sending_sync sent.event draws) path in
    let other = path_is_way network run asked answered back told_back.0 asym.back accepted is_back.there is_back.way told_back.1 (sending_request asked.event asks) path_back in
    off_by report.offset2 (twice (difference slave run -ℤ difference master run)) (time_on (cables there)) (time_on (cables back)) sync.rest request.rest ahead
    (asym.offset ∙ ap (λ (t : ℤ). twice (difference slave run -ℤ difference master run) +ℤ (t -ℤ time_on asym.back)) (sym (ap time_on one))
    ∙ ap (λ (t : ℤ). twice (difference slave run -ℤ difference master run) +ℤ (time_on (cables there) -ℤ t)) (sym (ap time_on other)))
    (rest_of network run ahead ahead sent arrived there sync accepted steady is)
    (rest_of network run ahead ahead asked answered back request accepted steady is_back)

pub shows_asymmetry : ShowsAsymmetry
shows_asymmetry = record { ways = ways_are; offset = offset_is }
