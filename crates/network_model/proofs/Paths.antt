-- The path of a journey: each stay is at one clock and ends no earlier than it began, so the times of the crossings and the
-- residence add up to the whole.
use Rattle.std.proofs.Common.{◌≡◌, ◌∙◌, ℕ, ◌+◌, ◌-◌, ◌≤◌, ℤ, pos, ◌+ℤ◌, ◌-ℤ◌, Bool, true, false, List, [], ◌∷◌, length, Some, None, Ok, IsOk, refl, sym, ap, subst, arith, if◌then◌else◌, option_and_then}
use Rattle.std.specs.Prelude.{◌==◌, ◌&&◌, not, is_some, fold, nat_lt, ok_or, sum_by}
use Rattle.std.specs.List.{list_any}
use Rattle.std.proofs.lemmas.Bool.{ltb-false}
use Rattle.std.proofs.lemmas.Int.{ints}
use Rattle.std.proofs.lemmas.List.Sums.{sum_by-cons}
use Rattle.transparent_clock.specs.Forwarding.{forwarded}
use Rattle.network_model.specs.declared.event.Event.{Event}
use Rattle.network_model.specs.declared.event.Event.TheVariants.{Sync, SyncOne, Enter, Leave, Request}
use Rattle.network_model.specs.declared.refusal.WorldRefusal.TheVariants.{NoTransit}
use Rattle.network_model.specs.Network.{Network, NodeName, is_named}
use Rattle.network_model.specs.Run.{Run, Place, place, place_at, tag_of, IsIn, site_of, true_moment}
use Rattle.network_model.specs.Kinds.{entered_copy, is_leave_of, is_step}
use Rattle.network_model.specs.Clock.{difference, reading}
use Rattle.network_model.specs.Journey.{Journey, Stay, stay_length, begun, goes_on, journey_made, journey_of}
use Rattle.network_model.specs.Outcome.{◌>>=◌, node_as, clock_of, reads, open_transit, copy_in, left_outcome, outcome_of, IsRun}
use Rattle.network_model.specs.Level.{Crossing, crossing, moment_at, time_of, crossings_of, time_on, IsSteady}
use Rattle.network_model.proofs.Options.{ok_value, ok_step, ok_some}
use Rattle.network_model.proofs.Places.{place_at-later, IsIn-place_at}
use Rattle.network_model.proofs.Sites.{named-same}
use Rattle.network_model.proofs.Journeys.{IsIn-last, continued}
use Rattle.network_model.proofs.Steady.{reading_is}

-- a stay in one clock, that ends no earlier than it began
pub record IsStay (run : Run) (stay : Stay) : Type 0 where
  pub clock : NodeName
  pub entered_in : IsIn run stay.entered
  pub left_in : IsIn run stay.left
  pub entered_at : site_of stay.entered.event ≡ clock
  pub left_at : site_of stay.left.event ≡ clock
  pub entered_timed : is_some (true_moment stay.entered.event) ≡ true
  pub left_timed : is_some (true_moment stay.left.event) ≡ true
  pub entered_steps : is_step stay.entered.event ≡ false
  pub left_steps : is_step stay.left.event ≡ false
  pub order : reading stay.entered ≤ reading stay.left

abbrev pub AreStays : Run → List Stay → Type 0
AreStays run [] = Unit {0}
AreStays run (stay ∷ stays) = IsStay run stay × AreStays run stays

-- what comes later leaves stays as they were
stays-later : (event : Event) (earlier : Run) (stays : List Stay) → AreStays earlier stays → AreStays (event ∷ earlier) stays
stays-later event earlier [] are = tt
stays-later event earlier (stay ∷ stays) are = (
  record {
    clock = are.0.clock;
    entered_in = place_at-later event earlier (tag_of stay.entered) stay.entered are.0.entered_in;
    left_in = place_at-later event earlier (tag_of stay.left) stay.left are.0.left_in;
    entered_at = are.0.entered_at;
    left_at = are.0.left_at;
    entered_timed = are.0.entered_timed;
    left_timed = are.0.left_timed;
    entered_steps = are.0.entered_steps;
    left_steps = are.0.left_steps;
    order = are.0.order;
  },
  stays-later event earlier stays are.1,
)

-- an event by which a copy enters has a true moment, and steps no clock
enters : (event : Event) (copy : ℕ) → entered_copy event ≡ Some copy → (is_some (true_moment event) ≡ true) × (is_step event ≡ false)
enters (Enter node c at) copy is = (refl, refl)
enters _ copy is = cc

-- a Leave that was accepted is at the clock at which the copy entered
left_where : (network : Network) (node : NodeName) (transit at : ℕ) (earlier : Run) (entered : Place) → IsOk (outcome_of network earlier (Leave node transit at))
    → place_at earlier transit ≡ Some entered → site_of entered.event ≡ node
left_where network node transit at earlier entered accepted there =
    let outcome = ok_value (outcome_of network earlier (Leave node transit at)) accepted in
    let clock = ok_step (node_as clock_of network node)
    (λ clock. ok_or (option_and_then (open_transit node earlier transit) (place_at earlier transit)) NoTransit >>= (λ entered. ok_or (copy_in network entered) NoTransit
    >>= (λ m. reads (Leave node transit at) earlier >>= (λ now. Ok (left_outcome (forwarded (Ok m) (reading entered) now)))))) outcome.1 in
    let found = ok_step (ok_or (option_and_then (open_transit node earlier transit) (place_at earlier transit)) NoTransit)
    (λ entered. ok_or (copy_in network entered) NoTransit
    >>= (λ m. reads (Leave node transit at) earlier >>= (λ now. Ok (left_outcome (forwarded (Ok m) (reading entered) now))))) clock.2 in
    let opened : option_and_then (open_transit node earlier transit) (place_at earlier transit) ≡ Some found.0 =
    ok_some (option_and_then (open_transit node earlier transit) (place_at earlier transit)) NoTransit {x = found.0} found.1 in
    by (is_some (entered_copy entered.event)) (is_named (site_of entered.event) node) refl (not (list_any (is_leave_of transit) earlier))
    (sym (ap (option_and_then (open_transit node earlier transit)) there) ∙ opened)
  where
    by : (copy named : Bool) → is_named (site_of entered.event) node ≡ named → (fresh : Bool) {found : Place} → (if copy && named && fresh then Some entered else None) ≡ Some found
        → site_of entered.event ≡ node
    by true true e fresh is = named-same (site_of entered.event) node e
    by true false e true is = cc
    by true false e false is = cc
    by false true e fresh is = cc
    by false false e fresh is = cc

-- a journey that goes on has one stay more
pub gone_on : (left entered : Place) (before journey : Journey) → goes_on left entered before ≡ Some journey
    → (reading entered ≤ reading left) × (journey.stays ≡ record { entered = entered; left = left } ∷ before.stays)
gone_on left entered before journey is = by (nat_lt (reading left) (reading entered)) refl is
  where
    by : (back : Bool) → nat_lt (reading left) (reading entered) ≡ back
        → (if back then None else Some (record { origin = before.origin; stays = record { entered = entered; left = left } ∷ before.stays })) ≡ Some journey
        → (reading entered ≤ reading left) × (journey.stays ≡ record { entered = entered; left = left } ∷ before.stays)
    by true e is = cc
    by false e is =
        let same : (record { origin = before.origin; stays = record { entered = entered; left = left } ∷ before.stays }) ≡ journey = cc in
        (ltb-false (reading left) (reading entered) e, sym (ap (λ (j : Journey). j.stays) same))

-- the stays of each journey of an accepted run
pub stays_are : (network : Network) (run : Run) (tag : ℕ) (journey : Journey) → IsRun network run → journey_of run tag ≡ Some journey → AreStays run journey.stays
stays_are network [] tag journey accepted made = cc
stays_are network (event ∷ earlier) tag journey accepted made = at (length earlier == tag) made
    (λ t j known. stays-later event earlier j.stays (stays_are network earlier t j accepted.1 known))
  where
    start : (e : Event) → begun e earlier ≡ journey → AreStays (event ∷ earlier) journey.stays
    start e same = subst (λ (j : Journey). AreStays (event ∷ earlier) j.stays) same tt

    made_by : (e : Event) → event ≡ e → IsOk (outcome_of network earlier e) → journey_made e earlier (journey_of earlier) ≡ Some journey
        → ((t : ℕ) (j : Journey) → journey_of earlier t ≡ Some j → AreStays (event ∷ earlier) j.stays) → AreStays (event ∷ earlier) journey.stays
    made_by (Sync node at) is accepted made rest = start (Sync node at) cc
    made_by (SyncOne node at) is accepted made rest = start (SyncOne node at) cc
    made_by (Request node at) is accepted made rest = start (Request node at) cc
    made_by (Leave node transit at) is accepted made rest =
        let from = continued (place (Leave node transit at) earlier) earlier transit journey made in
        let on = gone_on (place (Leave node transit at) earlier) from.0 from.2 journey from.6 in
        let enter = enters from.0.event from.1 from.4 in
        subst (AreStays (event ∷ earlier)) (sym on.1) (
          record {
            clock = node;
            entered_in = place_at-later event earlier (tag_of from.0) from.0 (IsIn-place_at earlier transit from.0 from.3);
            left_in = subst (λ (e : Event). IsIn (event ∷ earlier) (place e earlier)) is (IsIn-last event earlier);
            entered_at = left_where network node transit at earlier from.0 accepted from.3;
            left_at = refl;
            entered_timed = enter.0;
            left_timed = refl;
            entered_steps = enter.1;
            left_steps = refl;
            order = on.0;
          },
          rest from.1 from.2 from.5,
        )
    made_by _ is accepted made rest = cc

    at : (same : Bool) → (if same then journey_made event earlier (journey_of earlier) else journey_of earlier tag) ≡ Some journey
        → ((t : ℕ) (j : Journey) → journey_of earlier t ≡ Some j → AreStays (event ∷ earlier) j.stays) → AreStays (event ∷ earlier) journey.stays
    at true made rest = made_by event refl accepted.0 made rest
    at false made rest = rest tag journey made

-- times are added up one after the other
time-from : (total : ℤ) (path : List Crossing) → fold (λ total c. total +ℤ time_of c) total path ≡ total +ℤ time_on path
time-from total [] = omega (arith, ints)
time-from total (c ∷ path) =
    let first = time-from (total +ℤ time_of c) path in
    let second = time-from (pos 0 +ℤ time_of c) path in
    omega (arith, ints)

pub time-more : (c : Crossing) (path : List Crossing) → time_on (c ∷ path) ≡ time_of c +ℤ time_on path
time-more c path = let first = time-from (pos 0 +ℤ time_of c) path in omega (arith, ints)

-- the length of a stay, by true moments
stay_is : (network : Network) (run : Run) (stay : Stay) → IsRun network run → IsSteady run → IsStay run stay
    → pos (stay_length stay) ≡ moment_at stay.left -ℤ moment_at stay.entered
stay_is network run stay accepted steady is =
    let entered = reading_is network run stay.entered is.clock accepted steady is.entered_in is.entered_timed is.entered_steps is.entered_at in
    let left = reading_is network run stay.left is.clock accepted steady is.left_in is.left_timed is.left_steps is.left_at in
    lengths (reading stay.left) (reading stay.entered) (moment_at stay.left) (moment_at stay.entered) (difference is.clock run) is.order left entered
  where
    lengths : (left entered : ℕ) (m n d : ℤ) → entered ≤ left → pos left ≡ m +ℤ d → pos entered ≡ n +ℤ d → pos (left - entered) ≡ m -ℤ n
    lengths left entered m n d order e f = omega (arith, ints)

-- the crossings and the residence are the whole
pub path_is : (network : Network) (run : Run) (origin : Place) (stays : List Stay) (end : Place) → IsRun network run → IsSteady run → AreStays run stays
    → time_on (crossings_of origin stays end) +ℤ pos (sum_by stay_length stays) ≡ moment_at end -ℤ moment_at origin
path_is network run origin [] end accepted steady are = let one = time-more (crossing origin end) [] in omega (arith, ints)
path_is network run origin (stay ∷ stays) end accepted steady are =
    let rest = path_is network run origin stays stay.entered accepted steady are.1 in
    let first = stay_is network run stay accepted steady are.0 in
    let more = time-more (crossing stay.left end) (crossings_of origin stays stay.entered) in
    whole (time_on (crossing stay.left end ∷ crossings_of origin stays stay.entered)) (time_on (crossings_of origin stays stay.entered))
    (moment_at end) (moment_at stay.left) (moment_at stay.entered) (moment_at origin) (sum_by stay_length (stay ∷ stays)) (stay_length stay) (sum_by stay_length stays)
    more (sum_by-cons stay_length stay stays) first rest
  where
    whole : (all behind e l n o : ℤ) (sum length others : ℕ) → all ≡ (e -ℤ l) +ℤ behind → sum ≡ length + others → pos length ≡ l -ℤ n → behind +ℤ pos others ≡ n -ℤ o
        → all +ℤ pos sum ≡ e -ℤ o
    whole all behind e l n o sum length others f g h k = omega (arith, ints)
