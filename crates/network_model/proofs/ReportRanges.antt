-- The readings of a run are moments, and residences of messages that are used are below 2^63. So the two results of a
-- report have 31 digits at the most.
use Rattle.std.proofs.Common.{◌≡◌, ◌∙◌, ℕ, ℤ, pos, negsuc, ◌^◌, ◌<◌, ◌-ℤ◌, Bool, true, false, nat_lt, int_lt, Option}
use Rattle.std.proofs.Common.{Some, None, IfSome, refl, sym, ap, arith, option_and_then, if◌then◌else◌}
use Rattle.std.specs.Prelude.{is_some, unwrap_or, unsigned_abs}
use Rattle.std.proofs.lemmas.Bool.Decides.{nat_tests}
use Rattle.std.proofs.lemmas.Int.{ints}
use Rattle.ptp_units.specs.Exchange.{offset2, path2}
use Rattle.ptp_units.specs.Interval.{with_residence, too_big}
use Rattle.ptp_units.specs.Moment.{bound, moment_of}
use Rattle.event_codec.specs.Packet.{Contents}
use Rattle.slave_port.specs.declared.heard.Report.{Report}
use Rattle.slave_port.proofs.Options.{some_image}
use Rattle.transparent_clock.specs.Forwarding.{resided}
use Rattle.network_model.specs.declared.event.Event.{Event}
use Rattle.network_model.specs.Network.{Network}
use Rattle.network_model.specs.Run.{Run, Place, until, site_of, IsIn, true_moment}
use Rattle.network_model.specs.Kinds.{draws_sync, is_request}
use Rattle.network_model.specs.Clock.{shown_at, reading_of, reading}
use Rattle.network_model.specs.Journey.{Journey, residence}
use Rattle.network_model.specs.Truth.{drawn}
use Rattle.network_model.specs.Outcome.{IsRun}
use Rattle.network_model.specs.Premises.{IsAcceptedRun}
use Rattle.network_model.specs.Reported.{Reports}
use Rattle.network_model.specs.Exact.{IsBracketOf, IsMeasurement}
use Rattle.network_model.specs.Evidence.{IsRepresented}
use Rattle.network_model.proofs.Evidence.{each_has_evidence, shown_of}
use Rattle.network_model.proofs.Journeys.{IsIn-origin}
use Rattle.network_model.proofs.Places.{IsIn-place_at, IsIn-within}
use Rattle.network_model.proofs.Readings.{shown_reading, sync_timed, request_timed}
use Rattle.network_model.proofs.Sites.{at_kind}
use Rattle.network_model.proofs.TrueTime.{origin_drawn}
use Rattle.network_model.proofs.BareCopies.{IsAtLeastZero, zero_drawn}

moment_if : (n : ℕ) (below : Bool) → nat_lt n bound ≡ below → IfSome (if below then Some n else None) (λ time. time < bound)
moment_if n true is = grind (arith, nat_tests)
moment_if n false is = tt

moment_below : (z : ℤ) → IfSome (moment_of z) (λ time. time < bound)
moment_below (pos n) = moment_if n (nat_lt n bound) refl
moment_below (negsuc n) = tt

moments_below : (o : Option ℤ) → IfSome (option_and_then moment_of o) (λ time. time < bound)
moments_below None = tt
moments_below (Some z) = moment_below z

-- a reading is a moment
pub reading_below : (p : Place) → IfSome (reading_of p) (λ time. time < bound)
reading_below p = moments_below (shown_at p)

or_zero : (o : Option ℕ) → IfSome o (λ time. time < bound) → unwrap_or o 0 < bound
or_zero None h = omega arith
or_zero (Some time) h = h

number_below : (p : Place) → reading p < bound
number_below p = or_zero (reading_of p) (reading_below p)

of_some : (o : Option Contents) (m : Contents) → o ≡ Some m → IfSome o IsAtLeastZero → IsAtLeastZero m
of_some None m is h = cc
of_some (Some d) m is h = let same : d ≡ m = cc in (h.0, ap (λ (m : Contents). m.header.correction.0) (sym same) ∙ h.1)

small_so : (c residence : ℕ) → int_lt (with_residence (pos c) residence) too_big ≡ true → residence < 2 ^ 63
small_so c residence small = grind (arith, ints, nat_tests)

-- the residence of a message whose correction isn't too big
residence_small : (network : Network) (journey : Journey) → IsRepresented network journey → residence journey < 2 ^ 63
residence_small network journey is =
    let whole = some_image (λ (m : Contents). resided m (residence journey)) (drawn network journey.origin.event journey.origin.earlier) is.arrived in
    let zero = of_some (drawn network journey.origin.event journey.origin.earlier) whole.0 whole.1 (zero_drawn network journey.origin.event journey.origin.earlier) in
    let correction : is.message.header.correction.0 ≡ with_residence (pos zero.0) (residence journey) =
    ap (λ (m : Contents). m.header.correction.0) (sym whole.2) ∙ ap (λ (c : ℤ). with_residence c (residence journey)) zero.1 in
    small_so zero.0 (residence journey) (ap (λ (c : ℤ). int_lt c too_big) (sym correction) ∙ is.small)

-- a bracket by readings
abbrev bracket_by : ℕ → ℕ → ℕ → ℤ
bracket_by arrived left residence = (pos arrived -ℤ pos left) -ℤ pos residence

bracket_is : (network : Network) (run : Run) (arrival : Place) (journey : Journey) (a : ℤ) → IsRun network run → IsIn run arrival → is_some (true_moment arrival.event) ≡ true
    → IsIn run journey.origin → is_some (true_moment journey.origin.event) ≡ true → IsBracketOf arrival journey a
    → a ≡ bracket_by (reading arrival) (reading journey.origin) (residence journey)
bracket_is network run arrival journey a accepted there timed origin_there origin_timed is =
    let shown : Some is.arrived ≡ Some (pos (reading arrival)) = sym is.arrival_shown ∙ shown_reading network run arrival accepted there timed in
    let shown_left : Some is.left ≡ Some (pos (reading journey.origin)) = sym is.departure_shown ∙ shown_reading network run journey.origin accepted origin_there origin_timed in
    let one : is.arrived ≡ pos (reading arrival) = cc in
    let other : is.left ≡ pos (reading journey.origin) = cc in
    is.value
    ∙ ap (λ (z : ℤ). (z -ℤ is.left) -ℤ pos (residence journey)) one
    ∙ ap (λ (z : ℤ). (pos (reading arrival) -ℤ z) -ℤ pos (residence journey)) other

small_offset : (z : ℤ) (p q r s t u : ℕ) → p < bound → q < bound → r < 2 ^ 63 → s < bound → t < bound → u < 2 ^ 63
    → z ≡ offset2 (bracket_by p q r) (bracket_by s t u) → unsigned_abs z < 10 ^ 31
small_offset (pos n) p q r s t u a b c d e f is = omega (arith, ints)
small_offset (negsuc n) p q r s t u a b c d e f is = omega (arith, ints)

small_path : (z : ℤ) (p q r s t u : ℕ) → p < bound → q < bound → r < 2 ^ 63 → s < bound → t < bound → u < 2 ^ 63
    → z ≡ path2 (bracket_by p q r) (bracket_by s t u) → unsigned_abs z < 10 ^ 31
small_path (pos n) p q r s t u a b c d e f is = omega (arith, ints)
small_path (negsuc n) p q r s t u a b c d e f is = omega (arith, ints)

-- the two results of a report have 31 digits at the most
abbrev pub IsSmallReport : Report → Type 0
IsSmallReport report = (unsigned_abs report.offset2 < 10 ^ 31) × (unsigned_abs report.path2 < 10 ^ 31)

pub small_report : (network : Network) (answered : Place) (report : Report) → IsAcceptedRun network (until answered) → Reports network answered report
    → IsMeasurement (until answered) (site_of answered.event) report → IsSmallReport report
small_report network answered report accepted reports measured =
    let run : Run = until answered in
    let evidence = each_has_evidence network answered report accepted reports in
    let shown = shown_of network run (site_of answered.event) report evidence.sync evidence.request measured in
    let os = measured.one_sync in
    let or = measured.one_request in
    let sync_in : IsIn run os.arrival = IsIn-place_at run report.sync_tag os.arrival os.sync.arrives.there in
    let arrival_in : IsIn run or.arrival = or.request.arrives.there in
    let sync_drawn = origin_drawn run (site_of answered.event) os.master report.follow_tag os.journey.origin os.sync.departure in
    let sync_kind = at_kind draws_sync os.master os.journey.origin.event sync_drawn in
    let request_kind = at_kind is_request (site_of answered.event) or.journey.origin.event or.request.drawn in
    let sync_arrived : is_some (true_moment os.arrival.event) ≡ true = ap (λ (v : Event). is_some (true_moment v)) os.sync.arrives.event in
    let request_arrived : is_some (true_moment or.arrival.event) ≡ true = ap (λ (v : Event). is_some (true_moment v)) or.request.arrives.event in
    let sync_origin_in = IsIn-within run os.arrival os.journey.origin sync_in (IsIn-origin os.arrival.earlier os.sync.arrives.copy os.journey os.sync.arrives.journey_is) in
    let request_origin_in = IsIn-place_at run report.request_tag or.journey.origin or.request.requested in
    let a = bracket_is network run os.arrival os.journey measured.exact.a accepted.accepted sync_in sync_arrived sync_origin_in (sync_timed os.journey.origin.event sync_kind) measured.exact.of_sync in
    let b = bracket_is network run or.arrival or.journey measured.exact.b accepted.accepted arrival_in request_arrived request_origin_in (request_timed or.journey.origin.event request_kind)
    measured.exact.of_request in
    let sync_small = residence_small network os.journey shown.sync_small in
    let request_small = residence_small network or.journey shown.request_small in
    let offset : report.offset2 ≡ offset2 (bracket_by (reading os.arrival) (reading os.journey.origin) (residence os.journey)) (bracket_by (reading or.arrival) (reading or.journey.origin) (residence or.journey)) =
    measured.exact.offset ∙ (λ i. offset2 (a i) (b i)) in
    let path : report.path2 ≡ path2 (bracket_by (reading os.arrival) (reading os.journey.origin) (residence os.journey)) (bracket_by (reading or.arrival) (reading or.journey.origin) (residence or.journey)) =
    measured.exact.path ∙ (λ i. path2 (a i) (b i)) in (
      small_offset report.offset2 _ _ _ _ _ _ (number_below os.arrival) (number_below os.journey.origin) sync_small (number_below or.arrival) (number_below or.journey.origin) request_small offset,
      small_path report.path2 _ _ _ _ _ _ (number_below os.arrival) (number_below os.journey.origin) sync_small (number_below or.arrival) (number_below or.journey.origin) request_small path,
    )
