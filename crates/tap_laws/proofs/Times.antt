-- How long a way takes: the times of its cables, and how long its clocks kept the message.
use Rattle.std.proofs.Common.{◌≡◌, ℕ, ℤ, pos, ◌+◌, ◌-◌, ◌≤◌, ◌+ℤ◌, ◌-ℤ◌, true, false, List, [], ◌∷◌, Some, refl, sym, ap, subst, arith}
use Rattle.std.specs.Prelude.{is_some}
use Rattle.std.proofs.lemmas.Int.{ints}
use Rattle.event_codec.specs.Packet.{Contents}
use Rattle.network_model.specs.declared.event.Event.{Event}
use Rattle.network_model.specs.declared.event.Event.TheVariants.{Sync, SyncOne, Enter, Leave, Arrive, Request}
use Rattle.network_model.specs.Network.{Network}
use Rattle.network_model.specs.Run.{Run, Place, IsIn, site_of, true_moment}
use Rattle.network_model.specs.Kinds.{timed_copy, is_step}
use Rattle.network_model.specs.Clock.{difference, reading}
use Rattle.network_model.specs.Journey.{Journey, stay_length, journey_made, journey_of}
use Rattle.network_model.specs.Outcome.{IsRun}
use Rattle.network_model.specs.Level.{moment_at, time_of, time_on, IsSteady}
use Rattle.network_model.proofs.Places.{IsIn-within}
use Rattle.network_model.proofs.Paths.{time-more}
use Rattle.network_model.proofs.Steady.{reading_is}
use Rattle.tap_laws.specs.Told.{message_at}
use Rattle.tap_laws.specs.Way.{Leg, Cable, Clock, IsWay, cables}
use Rattle.tap_laws.proofs.Along.{clocked, over, from_in, over_cable, through}

-- a stay is as long by its clock as by true time
stay_time : (left_reading entered_reading : ℕ) (left entered ahead : ℤ) → pos left_reading ≡ left +ℤ ahead → pos entered_reading ≡ entered +ℤ ahead
    → entered_reading ≤ left_reading → left -ℤ entered ≡ pos (left_reading - entered_reading)
stay_time left_reading entered_reading left entered ahead at_left at_entered order = omega (arith, ints)

no_way : (m : ℤ) → m -ℤ m ≡ pos 0 +ℤ pos 0
no_way m = omega (arith, ints)

over_one : (to from begun : ℤ) (one rest whole : ℤ) (kept : ℕ) → one ≡ to -ℤ from → from -ℤ begun ≡ rest +ℤ pos kept → whole ≡ one +ℤ rest
    → to -ℤ begun ≡ whole +ℤ pos kept
over_one to from begun one rest whole kept is before all = omega (arith, ints)

through_one : (left entered begun path : ℤ) (kept stay : ℕ) → left -ℤ entered ≡ pos stay → entered -ℤ begun ≡ path +ℤ pos kept
    → left -ℤ begun ≡ path +ℤ pos (stay + kept)
through_one left entered begun path kept stay is before = omega (arith, ints)

pub times : (network : Network) (run : Run) (from to : Place) (legs : List Leg) (m : Contents) → IsRun network run → IsSteady run → IsIn run to
    → IsWay from to legs → message_at network to ≡ Some m → moment_at to -ℤ moment_at from ≡ time_on (cables legs) +ℤ pos (clocked legs)
times network run from to [] m accepted steady there way told =
    subst (λ (p : Place). moment_at p -ℤ moment_at from ≡ time_on [] +ℤ pos 0) way (no_way (moment_at from))
times network run from to (Cable c ∷ legs) m accepted steady there way told =
    let is = over to c way.0 in
    let before = times network run from c.from legs m accepted steady (from_in run to c there is) way.1 (over_cable network to c m is told) in
    over_one (moment_at to) (moment_at c.from) (moment_at from) (time_of c) (time_on (cables legs)) (time_on (c ∷ cables legs)) (clocked legs)
    (ap (λ (p : Place). moment_at p -ℤ moment_at c.from) is.ends) before (time-more c (cables legs))
times network run from to (Clock clock stay ∷ legs) m accepted steady there way told =
    let left_in = subst (IsIn run) way.0 there in
    let is = way.1 in
    let passes = through network run clock stay m accepted left_in is (subst (λ (p : Place). message_at network p ≡ Some m) way.0 told) in
    let entered_in = IsIn-within run stay.left stay.entered left_in is.inside in
    let before = times network run from stay.entered legs passes.before accepted steady entered_in way.2 passes.entered in
    let at_left = reading_is network run stay.left clock accepted steady left_in
    (ap (λ (e : Event). is_some (true_moment e)) is.leaves) (ap is_step is.leaves) (ap site_of is.leaves) in
    let at_entered = reading_is network run stay.entered clock accepted steady entered_in
    (ap (λ (e : Event). is_some (true_moment e)) is.enters) (ap is_step is.enters) (ap site_of is.enters) in
    let kept = stay_time (reading stay.left) (reading stay.entered) (moment_at stay.left) (moment_at stay.entered) (difference clock run) at_left at_entered passes.order in
    subst (λ (p : Place). moment_at p -ℤ moment_at from ≡ time_on (cables legs) +ℤ pos (stay_length stay + clocked legs)) (sym way.0)
    (through_one (moment_at stay.left) (moment_at stay.entered) (moment_at from) (time_on (cables legs)) (clocked legs) (stay_length stay) kept before)

-- an event with a true moment, which steps no clock
pub record IsTimed (p : Place) : Type 0 where
  pub timed : is_some (true_moment p.event) ≡ true
  pub steps_none : is_step p.event ≡ false

timed_to : (event : Event) (copy : ℕ) → timed_copy event ≡ Some copy → (is_some (true_moment event) ≡ true) × (is_step event ≡ false)
timed_to (Enter node c at) copy is = (refl, refl)
timed_to (Arrive node c at) copy is = (refl, refl)
timed_to _ copy is = cc

timed_from : (event : Event) (earlier : Run) (journey : Journey) → journey_made event earlier (journey_of earlier) ≡ Some journey
    → (is_some (true_moment event) ≡ true) × (is_step event ≡ false)
timed_from (Sync node at) earlier journey made = (refl, refl)
timed_from (SyncOne node at) earlier journey made = (refl, refl)
timed_from (Leave node transit at) earlier journey made = (refl, refl)
timed_from (Request node at) earlier journey made = (refl, refl)
timed_from _ earlier journey made = cc

-- the events at both ends of a way are such
pub ends_timed : (from to : Place) (leg : Leg) (legs : List Leg) → IsWay from to (leg ∷ legs) → IsTimed to
ends_timed from to (Cable c) legs way =
    let is = over to c way.0 in
    let both = timed_to to.event is.copy is.taken in
    record { timed = both.0; steps_none = both.1 }
ends_timed from to (Clock clock stay) legs way = subst IsTimed (sym way.0) (record {
  timed = ap (λ (e : Event). is_some (true_moment e)) way.1.leaves;
  steps_none = ap is_step way.1.leaves;
})

pub begins_timed : (from to : Place) (leg : Leg) (legs : List Leg) → IsWay from to (leg ∷ legs) → IsTimed from
begins_timed from to (Cable c) [] way =
    let is = over to c way.0 in
    let both = timed_from c.from.event c.from.earlier is.journey is.journey_is in
    subst IsTimed (sym way.1) (record { timed = both.0; steps_none = both.1 })
begins_timed from to (Clock clock stay) [] way = subst IsTimed (sym way.2) (record {
  timed = ap (λ (e : Event). is_some (true_moment e)) way.1.enters;
  steps_none = ap is_step way.1.enters;
})
begins_timed from to (Cable c) (next ∷ legs) way = begins_timed from c.from next legs way.1
begins_timed from to (Clock clock stay) (next ∷ legs) way = begins_timed from stay.entered next legs way.2

-- the events of a way are of the run
pub from_there : (run : Run) (from to : Place) (legs : List Leg) → IsIn run to → IsWay from to legs → IsIn run from
from_there run from to [] there way = subst (IsIn run) (sym way) there
from_there run from to (Cable c ∷ legs) there way = from_there run from c.from legs (from_in run to c there (over to c way.0)) way.1
from_there run from to (Clock clock stay ∷ legs) there way =
    from_there run from stay.entered legs (IsIn-within run stay.left stay.entered (subst (IsIn run) way.0 there) way.1.inside) way.2
