-- A message on its way: a cable changes nothing, and a clock adds how long it was there.
use Rattle.std.proofs.Common.{◌≡◌, ◌∙◌, ℕ, ℤ, pos, ◌+◌, ◌-◌, ◌≤◌, ◌+ℤ◌, Bool, true, false, List, [], ◌∷◌, Some, None, Ok, Err, IsOk, refl, sym, ap, subst, arith, if◌then◌else◌, option_map, option_and_then, nat_lt}
use Rattle.std.specs.Prelude.{int_lt, ok_or}
use Rattle.std.specs.Result.{result_ok}
use Rattle.std.proofs.lemmas.Bool.{eq-eqb, ltb-false}
use Rattle.std.proofs.lemmas.Bool.Decides.{nat_tests}
use Rattle.std.proofs.lemmas.Int.{ints}
use Rattle.ptp_units.specs.Interval.{too_big, with_residence}
use Rattle.event_codec.specs.declared.message.Body.{Body}
use Rattle.event_codec.specs.declared.message.Body.TheVariants as bodies
use Rattle.event_codec.specs.Packet.{Contents}
use Rattle.transparent_clock.specs.declared.refusal.ClockRefusal.TheVariants.{NegativeResidence, NotEvent}
use Rattle.transparent_clock.specs.Forwarding.{is_event, resided}
use Rattle.slave_port.proofs.Options.{some_step, some_image}
use Rattle.network_model.specs.declared.event.Event.{Event}
use Rattle.network_model.specs.declared.event.Event.TheVariants.{Sync, SyncOne, Enter, Leave, Request}
use Rattle.network_model.specs.declared.stepped.Outcome.TheVariants as outcomes
use Rattle.network_model.specs.declared.refusal.WorldRefusal.TheVariants.{NoCopy}
use Rattle.network_model.specs.Network.{Network, NodeName}
use Rattle.network_model.specs.Run.{Run, Place, place, place_at, tag_of, IsIn, until}
use Rattle.network_model.specs.Kinds.{entered_copy, timed_copy}
use Rattle.network_model.specs.Clock.{reading}
use Rattle.network_model.specs.Journey.{Journey, Stay, stay_length, journey_made, journey_of}
use Rattle.network_model.specs.Truth.{copy_made, copy_of}
use Rattle.network_model.specs.Outcome.{◌>>=◌, node_as, clock_of, reads, copy_in, outcome_of, IsRun}
use Rattle.network_model.specs.Level.{Crossing, crossing, crossing_to}
use Rattle.network_model.proofs.Options.{ok_value, ok_step, ok_some}
use Rattle.network_model.proofs.Places.{accepted-place_at, IsIn-place_at, IsIn-within}
use Rattle.network_model.proofs.Made.{copy_of-place_at, journey_of-place_at}
use Rattle.network_model.proofs.Leaving.{each_leave_forwards}
use Rattle.tap_crossing.specs.Placed.{needs_other}
use Rattle.tap_laws.specs.Told.{message_of, message_at}
use Rattle.tap_laws.specs.Way.{IsStay, Leg, Cable, Clock, IsWay}

-- how long the message was in the clocks on a way, by their readings
abbrev pub clocked : List Leg → ℕ
clocked [] = 0
clocked (Cable c ∷ legs) = clocked legs
clocked (Clock clock stay ∷ legs) = stay_length stay + clocked legs

-- a message later on its way, which was in clocks for so long
pub record IsLater (m later : Contents) (by : ℕ) : Type 0 where
  pub body : later.body ≡ m.body
  pub needs_other : needs_other later.header later.body ≡ needs_other m.header m.body
  pub grown : int_lt later.header.correction.0 too_big ≡ true → later.header.correction.0 ≡ m.header.correction.0 +ℤ pos by

later_self : (m : Contents) → IsLater m m 0
later_self m = record { body = refl; needs_other = refl; grown = λ small. omega (arith, ints) }

-- what isn't too big after a stay wasn't before it
small_before : (c : ℤ) (stay : ℕ) → int_lt (with_residence c stay) too_big ≡ true → int_lt c too_big ≡ true
small_before c stay small = grind (arith, ints, nat_tests)

grown_by : (c : ℤ) (stay : ℕ) → int_lt (with_residence c stay) too_big ≡ true → with_residence c stay ≡ c +ℤ pos stay
grown_by c stay small = grind (arith, ints, nat_tests)

-- a stay changes a message's correction alone
same_needs : (m : Contents) (stay : ℕ) (body : Body) → needs_other (resided m stay).header body ≡ needs_other m.header body
same_needs m stay (bodies.Sync origin) = refl
same_needs m stay _ = refl

later_more : (m before later : Contents) (by stay : ℕ) → IsLater m before by → later ≡ resided before stay → IsLater m later (stay + by)
later_more m before later by stay is same = subst (λ (c : Contents). IsLater m c (stay + by)) (sym same) (record {
  body = is.body;
  needs_other = same_needs before stay before.body ∙ is.needs_other;
  grown = λ small.
      let more = grown_by before.header.correction.0 stay small in
      let first = is.grown (small_before before.header.correction.0 stay small) in
      omega (arith, ints);
})

-- an event that makes an event message takes none in
pub sends : (event : Event) (earlier : Run) (journey : Journey) → journey_made event earlier (journey_of earlier) ≡ Some journey → timed_copy event ≡ None
sends (Sync node at) earlier journey made = refl
sends (SyncOne node at) earlier journey made = refl
sends (Leave node transit at) earlier journey made = refl
sends (Request node at) earlier journey made = refl
sends _ earlier journey made = cc

-- the message of the copy that an event makes
made_here : (network : Network) (p : Place) → copy_of network (until p) (tag_of p) ≡ copy_made network p.event p.earlier (copy_of network p.earlier)
made_here network p =
    ap (λ (b : Bool). if b then copy_made network p.event p.earlier (copy_of network p.earlier) else copy_of network p.earlier (tag_of p))
    (eq-eqb (tag_of p) (tag_of p) refl)

-- what a crossing of a cable is made of
pub record IsOver (to : Place) (c : Crossing) : Type 0 where
  pub copy : ℕ
  pub taken : timed_copy to.event ≡ Some copy
  pub journey : Journey
  pub made_by : place_at to.earlier copy ≡ Some c.from
  pub journey_is : journey_made c.from.event c.from.earlier (journey_of c.from.earlier) ≡ Some journey
  pub ends : c.to ≡ to

pub over : (to : Place) (c : Crossing) → crossing_to to ≡ Some c → IsOver to c
over to c is =
    let first = some_step (λ copy. option_and_then (λ (journey : Journey). option_map (λ made. crossing made to) (place_at to.earlier copy)) (journey_of to.earlier copy))
    (timed_copy to.event) is in
    let second = some_step (λ (journey : Journey). option_map (λ made. crossing made to) (place_at to.earlier first.0)) (journey_of to.earlier first.0) first.2 in
    let third = some_image (λ made. crossing made to) (place_at to.earlier first.0) second.2 in
    let from : third.0 ≡ c.from = ap (λ (x : Crossing). x.from) third.2 in
    let made = subst (λ (o : Place). place_at to.earlier first.0 ≡ Some o) from third.1 in
    record {
      copy = first.0;
      taken = first.1;
      journey = second.0;
      made_by = made;
      journey_is = sym (ap (option_and_then (λ (p : Place). journey_made p.event p.earlier (journey_of p.earlier))) made)
          ∙ sym (journey_of-place_at to.earlier first.0) ∙ second.1;
      ends = sym (ap (λ (x : Crossing). x.to) third.2);
    }

-- the event that made the copy is one of the run
pub from_in : (run : Run) (to : Place) (c : Crossing) → IsIn run to → IsOver to c → IsIn run c.from
from_in run to c there is = IsIn-within run to c.from there (IsIn-place_at to.earlier is.copy c.from is.made_by)

-- a cable changes nothing
pub over_cable : (network : Network) (to : Place) (c : Crossing) (m : Contents) → IsOver to c → message_at network to ≡ Some m → message_at network c.from ≡ Some m
over_cable network to c m is told =
    let copy_is : copy_of network to.earlier is.copy ≡ Some m = sym (ap (message_of network to) is.taken) ∙ told in
    ap (message_of network c.from) (sends c.from.event c.from.earlier is.journey is.journey_is)
    ∙ made_here network c.from
    ∙ sym (ap (option_and_then (λ (p : Place). copy_made network p.event p.earlier (copy_of network p.earlier))) is.made_by)
    ∙ sym (copy_of-place_at network to.earlier is.copy)
    ∙ copy_is

-- a copy that enters was made before
pub entered_message : (network : Network) (node : NodeName) (copy at : ℕ) (earlier : Run) → IsOk (outcome_of network earlier (Enter node copy at))
    → (m : Contents) × (copy_of network earlier copy ≡ Some m)
entered_message network node copy at earlier accepted =
    let outcome = ok_value (outcome_of network earlier (Enter node copy at)) accepted in
    let clock = ok_step (node_as clock_of network node)
    (λ clock. ok_or (copy_of network earlier copy) NoCopy >>= (λ m. reads (Enter node copy at) earlier >>= (λ now. Ok outcomes.Entered))) outcome.1 in
    let message = ok_step (ok_or (copy_of network earlier copy) NoCopy) (λ m. reads (Enter node copy at) earlier >>= (λ now. Ok outcomes.Entered)) clock.2 in
    (message.0, ok_some (copy_of network earlier copy) NoCopy {x = message.0} message.1)

-- what a clock lets go is what entered, with the residence added
leaves_with : (before m : Contents) (entered left : ℕ) (event fell : Bool) → nat_lt left entered ≡ fell
    → result_ok (if event then (if fell then Err NegativeResidence else Ok (resided before (left - entered))) else Err NotEvent) ≡ Some m
    → (resided before (left - entered) ≡ m) × (entered ≤ left)
leaves_with before m entered left true true e is = cc
leaves_with before m entered left true false e is = (let same : resided before (left - entered) ≡ m = cc in same, ltb-false left entered e)
leaves_with before m entered left false fell e is = cc

-- through a clock
pub record Passes (network : Network) (stay : Stay) (m : Contents) : Type 0 where
  pub before : Contents
  pub entered : message_at network stay.entered ≡ Some before
  pub left : m ≡ resided before (stay_length stay)
  pub order : reading stay.entered ≤ reading stay.left

pub through : (network : Network) (run : Run) (clock : NodeName) (stay : Stay) (m : Contents) → IsRun network run → IsIn run stay.left → IsStay clock stay
    → message_at network stay.left ≡ Some m → Passes network stay m
through network run clock stay m accepted there is told =
    let entered_in = IsIn-within run stay.left stay.entered there is.inside in
    let entered_ok = accepted-place_at network run (tag_of stay.entered) stay.entered accepted entered_in in
    let taken = entered_message network clock is.copy is.entered_at stay.entered.earlier
    (subst (λ (e : Event). IsOk (outcome_of network stay.entered.earlier e)) is.enters entered_ok) in
    let inside : copy_in network stay.entered ≡ Some taken.0 = ap (option_and_then (copy_of network stay.entered.earlier)) (ap entered_copy is.enters) ∙ taken.1 in
    let entered : message_at network stay.entered ≡ Some taken.0 = ap (message_of network stay.entered) (ap timed_copy is.enters) ∙ taken.1 in
    let left : Place = place (Leave clock (tag_of stay.entered) is.left_at) stay.left.earlier in
    let same : left ≡ stay.left = ap (λ (e : Event). place e stay.left.earlier) (sym is.leaves) in
    let made : message_at network left ≡ Some m = subst (λ (p : Place). message_at network p ≡ Some m) (sym same) told in
    let forward = sym (each_leave_forwards network stay.left.earlier clock (tag_of stay.entered) is.left_at stay.entered taken.0 is.inside inside) ∙ made in
    let with = leaves_with taken.0 m (reading stay.entered) (reading left) (is_event taken.0.body) (nat_lt (reading left) (reading stay.entered)) refl forward in
    record {
      before = taken.0;
      entered = entered;
      left = sym (subst (λ (p : Place). resided taken.0 (reading p - reading stay.entered) ≡ m) same with.0);
      order = subst (λ (p : Place). reading stay.entered ≤ reading p) same with.1;
    }

-- along a whole way
pub record Comes (network : Network) (from : Place) (m : Contents) (by : ℕ) : Type 0 where
  pub before : Contents
  pub told : message_at network from ≡ Some before
  pub later : IsLater before m by

pub along : (network : Network) (run : Run) (from to : Place) (legs : List Leg) (m : Contents) → IsRun network run → IsIn run to → IsWay from to legs
    → message_at network to ≡ Some m → Comes network from m (clocked legs)
along network run from to [] m accepted there way told =
    record { before = m; told = subst (λ (p : Place). message_at network p ≡ Some m) (sym way) told; later = later_self m }
along network run from to (Cable c ∷ legs) m accepted there way told =
    let is = over to c way.0 in
    along network run from c.from legs m accepted (from_in run to c there is) way.1 (over_cable network to c m is told)
along network run from to (Clock clock stay ∷ legs) m accepted there way told =
    let left_in = subst (IsIn run) way.0 there in
    let passes = through network run clock stay m accepted left_in way.1 (subst (λ (p : Place). message_at network p ≡ Some m) way.0 told) in
    let entered_in = IsIn-within run stay.left stay.entered left_in way.1.inside in
    let comes = along network run from stay.entered legs passes.before accepted entered_in way.2 passes.entered in
    record {
      before = comes.before;
      told = comes.told;
      later = later_more comes.before passes.before m (clocked legs) (stay_length stay) comes.later passes.left;
    }
