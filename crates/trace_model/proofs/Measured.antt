-- The journeys of a report's messages, by lines: each can be followed, its readings are right, its residence
-- fits, and the bracket over it is the one of the run.
use Rattle.std.proofs.Common.{◌≡◌, ◌∙◌, ℕ, ℤ, pos, ◌+◌, ◌-◌, ◌^◌, ◌<◌, ◌-ℤ◌, Bool, true, Option, Some, int_lt, sym}
use Rattle.std.proofs.Common.{ap, subst, arith, option_and_then, if◌then◌else◌}
use Rattle.std.specs.Prelude.{◌&&◌, is_some, nat_lt}
use Rattle.std.specs.List.{list_all}
use Rattle.std.proofs.lemmas.Bool.Decides.{nat_tests}
use Rattle.std.proofs.lemmas.Int.{ints}
use Rattle.ptp_units.specs.Interval.{with_residence, too_big}
use Rattle.ptp_units.specs.Moment.{fraction_of}
use Rattle.ptp_units.specs.Sequence.{of_count}
use Rattle.event_codec.specs.Packet.{Contents}
use Rattle.master_port.specs.Written.{sync, one_step_sync}
use Rattle.slave_port.specs.Written.{delay_req}
use Rattle.slave_port.proofs.Options.{some_step, some_image}
use Rattle.transparent_clock.specs.Forwarding.{resided}
use Rattle.network_model.specs.declared.event.Event.{Event}
use Rattle.network_model.specs.declared.event.Event.TheVariants.{Sync, SyncOne, Request}
use Rattle.network_model.specs.Network.{Network, PortSetup}
use Rattle.network_model.specs.Run.{Run, Place, place, place_at, tag_of, until, IsIn, true_moment}
use Rattle.network_model.specs.Kinds.{is_one_step_sync, heard_copy}
use Rattle.network_model.specs.Numbering.{number_of}
use Rattle.network_model.specs.Truth.{drawn, master_at, slave_at}
use Rattle.network_model.specs.Outcome.{IsRun}
use Rattle.network_model.specs.Exact.{IsBracketOf}
use Rattle.network_model.specs.Evidence.{IsRepresented}
use Rattle.network_model.proofs.Places.{IsIn-before, IsIn-within, IsRun-place_at, place_at-bound, place_at-within}
use Rattle.network_model.proofs.Made.{journey_of-place_at}
use Rattle.network_model.proofs.Journeys.{IsIn-last, IsIn-origin}
use Rattle.network_model.proofs.Readings.{shown_reading}
use Rattle.network_model.proofs.Paths.{stays_are}
use Rattle.trace_model.specs.Record.{LinePlace, event_of, line_number, events, reading, reads_right}
use Rattle.trace_model.specs.Sound.{where_passes, below, lines_to, unbroken, stay_reads_right, journey_reads_right}
use Rattle.trace_model.specs.Sound.{fraction_sent, fits, bracket}
use Rattle.trace_model.specs.Told.{TellsRun}
use Rattle.trace_model.specs.Faithful.{TellsPlace, TellsJourney}
use Rattle.trace_model.proofs.Found.{same_event, same_number}
use Rattle.trace_model.proofs.MessagesAfter.{accepted_told, each_journey_is_told}
use Rattle.trace_model.proofs.Stays.{reading_told, stays_told, stays_were_left, stays_once}
use Rattle.trace_model.proofs.Exchanges.{passes, found_below}
use Rattle.network_model.specs.Clock as clocks
use Rattle.network_model.specs.Journey as made
use Rattle.trace_model.specs.Journey as lined

-- what came before an event that isn't later than another one came before that one
pub before_it : (answered p : Place) → IsIn (until answered) p → tag_of p < tag_of answered → IsIn answered.earlier p
before_it answered p there lower =
    IsIn-before (until answered) answered p (IsIn-last answered.event answered.earlier) there lower

inside : (answered arrival : Place) → IsIn (until answered) arrival → (q : Place) → IsIn arrival.earlier q
    → IsIn answered.earlier q
inside answered arrival there q before =
    let whole = IsIn-within (until answered) arrival q there before in
    let first = place_at-bound arrival.earlier (tag_of q) q before in
    let second = place_at-bound (until answered) (tag_of arrival) arrival there in
    before_it answered q whole (omega arith)

-- the event that made a copy with a journey
journey_by : (run : Run) (tag : ℕ) (journey : made.Journey) → made.journey_of run tag ≡ Some journey
    → (q : Place) × (place_at run tag ≡ Some q)
    × (made.journey_made q.event q.earlier (made.journey_of q.earlier) ≡ Some journey)
journey_by run tag journey is =
    some_step (λ (p : Place). made.journey_made p.event p.earlier (made.journey_of p.earlier)) (place_at run tag)
    (sym (journey_of-place_at run tag) ∙ is)

journey_within : (run : Run) (p : Place) (tag : ℕ) (journey : made.Journey) → IsIn run p
    → made.journey_of p.earlier tag ≡ Some journey → made.journey_of run tag ≡ Some journey
journey_within run p tag journey there is =
    let by = journey_by p.earlier tag journey is in
    journey_of-place_at run tag
    ∙ ap (option_and_then (λ (p : Place). made.journey_made p.event p.earlier (made.journey_of p.earlier)))
    (place_at-within run p tag by.0 there by.1)
    ∙ by.2

-- the journey of a message that arrived, by lines
pub record IsFollowed (network : Network) (e : LinePlace) (kind : Event → Bool) (arrival : Place)
    (arrived : LinePlace) (journey : made.Journey) : Type 0 where
  pub by_lines : lined.LineJourney
  pub there : unbroken network e kind arrived ≡ Some by_lines
  pub tells : TellsJourney network journey by_lines
  pub arrival_read : reading arrived ≡ clocks.reading arrival
  pub arrival_right : reads_right network arrived ≡ true
  pub origin_read : reading by_lines.origin ≡ clocks.reading journey.origin
  pub journey_right : journey_reads_right network by_lines ≡ true
  pub residence : lined.line_residence by_lines ≡ made.residence journey

pub followed : (network : Network) (answered : Place) (e : LinePlace) → TellsPlace network answered e
    → (kind : Event → Bool) (arrival : Place) (arrived : LinePlace) (journey : made.Journey) (copy : ℕ)
    → TellsPlace network arrival arrived → IsIn (until answered) arrival → heard_copy arrival.event ≡ Some copy
    → is_some (true_moment arrival.event) ≡ true
    → made.journey_of arrival.earlier copy ≡ Some journey → kind journey.origin.event ≡ true
    → is_some (true_moment journey.origin.event) ≡ true → IsFollowed network e kind arrival arrived journey
followed network answered e tells kind arrival arrived journey copy tells_arrival there hears timed is kind_is
    origin_timed =
    let run : Run = until answered in
    let told : TellsRun network run (lines_to e) = (tells.told, tells.before) in
    let accepted : IsRun network run = accepted_told network run (lines_to e) told in
    let before : IsRun network arrival.earlier = IsRun-place_at network run (tag_of arrival) arrival accepted there in
    let by = journey_by arrival.earlier copy journey is in
    let small = place_at-bound arrival.earlier copy by.0 by.1 in
    let lines = each_journey_is_told network run (lines_to e) copy journey told
    (journey_within run arrival copy journey there is) in
    let are = stays_are network arrival.earlier copy journey before is in
    let left = stays_were_left network arrival.earlier copy journey before is in
    let once = stays_once network answered.earlier e.earlier arrival.earlier journey.stays lines.by_lines.stays
    tells.before accepted.1
    (inside answered arrival there) are left lines.tells.stays in
    let begins : kind (event_of lines.by_lines.origin) ≡ true =
    ap kind (same_event network journey.origin lines.by_lines.origin lines.tells.origin) ∙ kind_is in
    let origin_in = IsIn-origin arrival.earlier copy journey is in
    let read = reading_told network run arrival arrived accepted there tells_arrival timed in
    let origin = reading_told network arrival.earlier journey.origin lines.by_lines.origin before origin_in
    lines.tells.origin origin_timed in
    let stays = stays_told network arrival.earlier journey.stays lines.by_lines.stays before are lines.tells.stays in
    let right : reads_right network lines.by_lines.origin ≡ true = origin.1 in
    let stays_right : list_all (stay_reads_right network) lines.by_lines.stays ≡ true = stays.1 in
    record {
      by_lines = lines.by_lines;
      there = ap (λ (o : Option ℕ). where_passes (lined.left_once (events network e.earlier))
          (where_passes (λ (j : lined.LineJourney). kind (event_of j.origin))
          (option_and_then (below (lined.line_journey_of network (lines_to e)) (line_number arrived)) o)))
          (ap heard_copy (same_event network arrival arrived tells_arrival) ∙ hears)
          ∙ ap (λ (o : Option lined.LineJourney). where_passes (lined.left_once (events network e.earlier))
          (where_passes (λ (j : lined.LineJourney). kind (event_of j.origin)) o))
          (found_below (lined.line_journey_of network (lines_to e)) (line_number arrived) copy
          (subst (λ (n : ℕ). copy < n) (sym (same_number network arrival arrived tells_arrival)) small)
          ∙ lines.there)
          ∙ ap (where_passes (lined.left_once (events network e.earlier)))
          (passes (λ (j : lined.LineJourney). kind (event_of j.origin)) lines.by_lines begins)
          ∙ passes (lined.left_once (events network e.earlier)) lines.by_lines once;
      tells = lines.tells;
      arrival_read = read.0;
      arrival_right = read.1;
      origin_read = origin.0;
      journey_right = λ i. right i && stays_right i;
      residence = stays.0;
    }

-- the bracket
pub bracket_told : (network : Network) (run : Run) (kind : Event → Bool) (e : LinePlace) (arrival : Place)
    (arrived : LinePlace) (journey : made.Journey) (a : ℤ) → IsRun network run → IsIn run arrival
    → is_some (true_moment arrival.event) ≡ true → IsIn run journey.origin
    → is_some (true_moment journey.origin.event) ≡ true → IsBracketOf arrival journey a
    → (f : IsFollowed network e kind arrival arrived journey) → a ≡ bracket arrived f.by_lines
bracket_told network run kind e arrival arrived journey a accepted there timed origin_there origin_timed is f =
    let shown : Some is.arrived ≡ Some (pos (clocks.reading arrival)) =
    sym is.arrival_shown ∙ shown_reading network run arrival accepted there timed in
    let shown_left : Some is.left ≡ Some (pos (clocks.reading journey.origin)) =
    sym is.departure_shown ∙ shown_reading network run journey.origin accepted origin_there origin_timed in
    let one : is.arrived ≡ pos (clocks.reading arrival) = cc in
    let other : is.left ≡ pos (clocks.reading journey.origin) = cc in
    is.value
    ∙ ap (λ (z : ℤ). (z -ℤ is.left) -ℤ pos (made.residence journey)) one
    ∙ ap (λ (z : ℤ). (pos (clocks.reading arrival) -ℤ z) -ℤ pos (made.residence journey)) other
    ∙ sym (ap (λ (n : ℕ). (pos n -ℤ pos (reading f.by_lines.origin)) -ℤ pos (lined.line_residence f.by_lines))
    f.arrival_read
    ∙ ap (λ (n : ℕ). (pos (clocks.reading arrival) -ℤ pos n) -ℤ pos (lined.line_residence f.by_lines)) f.origin_read
    ∙ ap (λ (n : ℕ). (pos (clocks.reading arrival) -ℤ pos (clocks.reading journey.origin)) -ℤ pos n) f.residence)

drawn_correction : (network : Network) (event : Event) (earlier : Run) (d : Contents)
    → drawn network event earlier ≡ Some d
    → d.header.correction.0 ≡ pos
    (if is_one_step_sync event then fraction_of (clocks.reading (place event earlier)) else 0)
drawn_correction network (Sync node at) earlier d is =
    let port = some_image (λ (port : PortSetup). sync port.config
    (of_count (number_of port (place (Sync node at) earlier)))) (master_at network node) is in
    ap (λ (m : Contents). m.header.correction.0) (sym port.2)
drawn_correction network (SyncOne node at) earlier d is =
    let port = some_image (λ (port : PortSetup). one_step_sync port.config
    (of_count (number_of port (place (SyncOne node at) earlier)))
    (clocks.reading (place (SyncOne node at) earlier)))
    (master_at network node) is in
    ap (λ (m : Contents). m.header.correction.0) (sym port.2)
drawn_correction network (Request node at) earlier d is =
    let port = some_image (λ (port : PortSetup). delay_req port.config
    (of_count (number_of port (place (Request node at) earlier)))) (slave_at network node) is in
    ap (λ (m : Contents). m.header.correction.0) (sym port.2)
drawn_correction network _ earlier d is = cc

fits_so : (fraction residence : ℕ) → int_lt (with_residence (pos fraction) residence) too_big ≡ true
    → nat_lt (fraction + residence) (2 ^ 63 - 1) ≡ true
fits_so fraction residence small = grind (arith, ints, nat_tests)

-- the residence fits
pub fits_told : (network : Network) (kind : Event → Bool) (e : LinePlace) (arrival : Place) (arrived : LinePlace)
    (journey : made.Journey) → IsRepresented network journey
    → (f : IsFollowed network e kind arrival arrived journey) → fits f.by_lines ≡ true
fits_told network kind e arrival arrived journey is f =
    let whole = some_image (λ (m : Contents). resided m (made.residence journey))
    (drawn network journey.origin.event journey.origin.earlier) is.arrived in
    let drew = drawn_correction network journey.origin.event journey.origin.earlier whole.0 whole.1 in
    let fraction : ℕ = if is_one_step_sync journey.origin.event then fraction_of (clocks.reading journey.origin)
    else 0 in
    let correction : is.message.header.correction.0 ≡ with_residence (pos fraction) (made.residence journey) =
    ap (λ (m : Contents). m.header.correction.0) (sym whole.2)
    ∙ ap (λ (c : ℤ). with_residence c (made.residence journey)) drew in
    let small : int_lt (with_residence (pos fraction) (made.residence journey)) too_big ≡ true =
    ap (λ (c : ℤ). int_lt c too_big) (sym correction) ∙ is.small in
    let same : fraction_sent f.by_lines.origin ≡ fraction =
    ap (λ (v : Event). if is_one_step_sync v then fraction_of (reading f.by_lines.origin) else 0)
    (same_event network journey.origin f.by_lines.origin f.tells.origin)
    ∙ ap (λ (t : ℕ). if is_one_step_sync journey.origin.event then fraction_of t else 0) f.origin_read in
    ap (λ (n : ℕ). nat_lt (n + lined.line_residence f.by_lines) (2 ^ 63 - 1)) same
    ∙ ap (λ (n : ℕ). nat_lt (fraction + n) (2 ^ 63 - 1)) f.residence
    ∙ fits_so fraction (made.residence journey) small
