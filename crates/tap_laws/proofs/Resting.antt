-- What rests of a record that tells one message at two events.
use Rattle.std.proofs.Common.{◌≡◌, ◌∙◌, ℕ, ℤ, pos, ◌+◌, ◌-◌, ◌≤◌, ◌+ℤ◌, ◌-ℤ◌, Bool, true, false, Option, Some, None, refl, sym, ap, subst, arith, if◌then◌else◌, not, ◌&&◌, ◌||◌, List, [], ◌∷◌}
use Rattle.std.specs.Prelude.{◌==◌, int_lt, is_none, IfSome}
use Rattle.std.proofs.lemmas.Bool.{eq-eqb}
use Rattle.std.proofs.lemmas.Int.{ints}
use Rattle.ptp_units.specs.Moment.{Stamp}
use Rattle.ptp_units.specs.Interval.{too_big}
use Rattle.ptp_units.specs.declared.sequence.Seq.{Seq}
use Rattle.event_codec.specs.Layout.{stamp_in}
use Rattle.event_codec.specs.Packet.{Contents}
use Rattle.network_model.specs.Network.{Network}
use Rattle.network_model.specs.Run.{Run, Place, IsIn, site_of}
use Rattle.network_model.specs.Clock.{difference, reading}
use Rattle.network_model.specs.Outcome.{IsRun}
use Rattle.network_model.specs.Level.{moment_at, time_on, IsSteady}
use Rattle.network_model.proofs.Steady.{reading_is}
use Rattle.tap_crossing.specs.declared.sighting.Kind.{Kind}
use Rattle.tap_crossing.specs.declared.sighting.Kind.TheVariants as kinds
use Rattle.tap_crossing.specs.declared.sighting.Place.TheVariants as places
use Rattle.tap_crossing.specs.declared.sighting.Placed.{Placed}
use Rattle.tap_crossing.specs.declared.sighting.Sighting.{Sighting}
use Rattle.tap_crossing.specs.declared.places.Places.{Places}
use Rattle.tap_crossing.specs.declared.crossing.NoCrossing.TheVariants as reasons
use Rattle.tap_crossing.specs.Record.{complete, complete_with}
use Rattle.tap_crossing.specs.Changes.{is_same_timestamp}
use Rattle.tap_crossing.specs.Crossing.{is_too_big, is_any_too_big, timestamp_told, is_other_timestamp, taken, corrected}
use Rattle.tap_crossing.specs.Told.{crossed_unless, closes, closes_or_waits}
use Rattle.tap_laws.specs.Told.{message_at, Passage, IsEven, Keeps, Tells, AreOf, Rests}
use Rattle.tap_laws.specs.Way.{Leg, Clock, IsWay, cables}
use Rattle.tap_laws.specs.Record.{NothingRestsOfAClock, CablesAndTapsRest, CablesAndClocksRest}
use Rattle.tap_laws.proofs.Along.{clocked, IsLater, Comes, along, through}
use Rattle.tap_laws.proofs.Times.{times, ends_timed, begins_timed, from_there}

same_as_itself : (s : Stamp) → not (is_same_timestamp s s) ≡ false
same_as_itself s =
    ap (λ (b : Bool). not (b && s.nanos == s.nanos)) (eq-eqb s.seconds s.seconds refl)
    ∙ ap (λ (b : Bool). not b) (eq-eqb s.nanos s.nanos refl)

no_other_stamp : (a b : Stamp) → a ≡ b → not (is_same_timestamp a b) ≡ false
no_other_stamp a b same = subst (λ (s : Stamp). not (is_same_timestamp a s) ≡ false) same (same_as_itself a)

-- the same is told at both taps, whichever is the first
no_other_timestamp : (kind : Kind) (first second : Sighting) (at_from at_to : Option Sighting)
    → timestamp_told first at_from ≡ timestamp_told second at_to → timestamp_told second at_from ≡ timestamp_told first at_to
    → is_other_timestamp kind (record { first = first; second = second; at_from = at_from; at_to = at_to }) ≡ false
no_other_timestamp kinds.Sync first second at_from at_to there back = no_other_stamp (timestamp_told first at_from) (timestamp_told second at_to) there
no_other_timestamp kinds.DelayReq first second at_from at_to there back = no_other_stamp (timestamp_told second at_from) (timestamp_told first at_to) back

second_of : (a b c d : Bool) → (a || b || c || d) ≡ false → b ≡ false
second_of true b c d is = absurd cc
second_of false true c d is = absurd cc
second_of false false c d is = refl

-- a correction that isn't too big
small : (s : Sighting) → is_too_big (Some s) ≡ false → int_lt s.correction.0 too_big ≡ true
small s is = by (int_lt s.correction.0 too_big) is
  where
    by : (below : Bool) → is_none (if below then Some s.correction.0 else None) ≡ false → below ≡ true
    by true is = refl
    by false is = absurd cc

-- a record that has what it needs is a crossing, unless a correction is too big
closes_with : (rest : ℤ) (kind : Kind) (number : Seq) (first second : Sighting) (at_from at_to : Option Sighting) → (first.needs_other && not second.needs_other) ≡ false
    → is_other_timestamp kind (record { first = first; second = second; at_from = at_from; at_to = at_to }) ≡ false
    → (is_any_too_big (record { first = first; second = second; at_from = at_from; at_to = at_to }) ≡ false
    → taken (record { first = first; second = second; at_from = at_from; at_to = at_to })
    -ℤ corrected (record { first = first; second = second; at_from = at_from; at_to = at_to }) ≡ rest)
    → Rests rest (closes kind number (record { first = first; second = second; at_from = at_from; at_to = at_to }))
closes_with rest kind number first second at_from at_to step other value =
    by (is_any_too_big (record { first = first; second = second; at_from = at_from; at_to = at_to })) refl (first.needs_other && not second.needs_other) step
    (is_other_timestamp kind (record { first = first; second = second; at_from = at_from; at_to = at_to })) other
  where
    by : (big : Bool) → is_any_too_big (record { first = first; second = second; at_from = at_from; at_to = at_to }) ≡ big → (two_step : Bool) → two_step ≡ false
        → (another : Bool) → another ≡ false
        → Rests rest (crossed_unless (if big then Some reasons.TooBig else if two_step then Some reasons.TwoStepAtFromAlone
        else if another then Some reasons.OtherTimestamp else None) kind number (record { first = first; second = second; at_from = at_from; at_to = at_to }))
    by true is two_step single another same = tt
    by false is true single another same = absurd cc
    by false is false single true same = absurd cc
    by false is false single false same = value is

-- the arithmetic: what was taken less what was corrected
rest_is : (t1 t2 c1 c2 cf ct v1 v2 rest : ℤ) (grown : ℕ) → c2 ≡ c1 +ℤ (pos grown +ℤ (v2 -ℤ v1)) → ct -ℤ cf ≡ v1 -ℤ v2 → (t2 -ℤ t1) -ℤ pos grown ≡ rest
    → (t2 -ℤ t1) -ℤ ((c2 -ℤ c1) +ℤ (ct -ℤ cf)) ≡ rest
rest_is t1 t2 c1 c2 cf ct v1 v2 rest grown first general is = omega (arith, ints)

grew : (said said_later c later v1 v2 : ℤ) (grown : ℕ) → said ≡ c +ℤ v1 → said_later ≡ later +ℤ v2 → later ≡ c +ℤ pos grown
    → said_later ≡ said +ℤ (pos grown +ℤ (v2 -ℤ v1))
grew said said_later c later v1 v2 grown first second is = omega (arith, ints)

nothing_moved : (v1 v2 : ℤ) → v2 ≡ v1 → pos 0 -ℤ pos 0 ≡ v1 -ℤ v2
nothing_moved v1 v2 same = omega (arith, ints)

as_much_moved : (from to c v1 v2 moved_from moved_to : ℤ) → from ≡ c +ℤ moved_from → to ≡ c +ℤ moved_to → v2 +ℤ moved_to ≡ v1 +ℤ moved_from → to -ℤ from ≡ v1 -ℤ v2
as_much_moved from to c v1 v2 moved_from moved_to first second same = omega (arith, ints)

-- two event messages of a record, of which one is later on its way, and what its other messages say
module _ (rest : ℤ) (kind : Kind) (number : Seq) (before later : Contents) (grown : ℕ) (is : IsLater before later grown)
    (first second : Sighting) (v1 v2 : ℤ) (keeps : Keeps v1 before first) (keeps_later : Keeps v2 later second)
    (value : (pos second.time -ℤ pos first.time) -ℤ pos grown ≡ rest) where
  one_need : first.needs_other ≡ second.needs_other
  one_need = keeps.needs_other ∙ sym is.needs_other ∙ sym keeps_later.needs_other

  one_stamp : first.timestamp ≡ second.timestamp
  one_stamp = keeps.timestamp ∙ sym (ap stamp_in is.body) ∙ sym keeps_later.timestamp

  no_step : (a b : Bool) → a ≡ b → (a && not b) ≡ false
  no_step true true same = refl
  no_step true false same = absurd cc
  no_step false b same = refl

  -- by how much the event message was corrected
  grown_second : (at_from at_to : Option Sighting)
      → is_any_too_big (record { first = first; second = second; at_from = at_from; at_to = at_to }) ≡ false
      → second.correction.0 ≡ first.correction.0 +ℤ (pos grown +ℤ (v2 -ℤ v1))
  grown_second at_from at_to none =
      let small_second = small second (second_of (is_too_big (Some first)) (is_too_big (Some second)) (is_too_big at_from) (is_too_big at_to) none) in
      grew first.correction.0 second.correction.0 before.header.correction.0 later.header.correction.0 v1 v2 grown
      keeps.correction keeps_later.correction (is.grown (keeps_later.too_big small_second))

  closes_alone : v2 ≡ v1 → Rests rest (closes kind number (record { first = first; second = second; at_from = None; at_to = None }))
  closes_alone unmoved = closes_with rest kind number first second None None
      (no_step first.needs_other second.needs_other one_need)
      (no_other_timestamp kind first second None None one_stamp (sym one_stamp))
      (λ none. rest_is (pos first.time) (pos second.time) first.correction.0 second.correction.0 (pos 0) (pos 0) v1 v2 rest grown
      (grown_second None None none) (nothing_moved v1 v2 unmoved) value)

  closes_both : (from to : Sighting) (m : Contents) (moved_from moved_to : ℤ) → Keeps moved_from m from → Keeps moved_to m to
      → v2 +ℤ moved_to ≡ v1 +ℤ moved_from
      → Rests rest (closes kind number (record { first = first; second = second; at_from = Some from; at_to = Some to }))
  closes_both from to m moved_from moved_to kept kept_too whole = closes_with rest kind number first second (Some from) (Some to)
      (no_step first.needs_other second.needs_other one_need)
      (no_other_timestamp kind first second (Some from) (Some to)
      (kept.timestamp ∙ sym kept_too.timestamp) (kept.timestamp ∙ sym kept_too.timestamp))
      (λ none. rest_is (pos first.time) (pos second.time) first.correction.0 second.correction.0 from.correction.0 to.correction.0 v1 v2 rest grown
      (grown_second (Some from) (Some to) none)
      (as_much_moved from.correction.0 to.correction.0 m.header.correction.0 v1 v2 moved_from moved_to kept.correction kept_too.correction whole) value)

-- an event message that needs another, or doesn't
abbrev needing : Bool → Sighting → Sighting
needing need s = record s { needs_other = need }

-- the arrival of the last message that a record needs
module _ (network : Network) (run : Run) (p : Passage) (last : Placed) (rest : ℤ) (grown : ℕ) (IsFirst IsSecond : ℕ → Type 0)
    (even : IsEven network p)
    (comes : (m : Contents) → message_at network p.second ≡ Some m → Comes network p.first m grown)
    (value : (m : Contents) → message_at network p.second ≡ Some m → (t1 t2 : ℕ) → IsFirst t1 → IsSecond t2 → (pos t2 -ℤ pos t1) -ℤ pos grown ≡ rest) where
  general : (at_from at_to : Option Sighting) → IfSome at_from (Tells network run p places.AtFrom) → IfSome at_to (Tells network run p places.AtTo)
      → (need : Bool) (first second : Sighting) (before later : Contents) → IsLater before later grown
      → Keeps p.moved.first before (needing need first) → Keeps p.moved.second later (needing need second)
      → (need ≡ false → p.moved.second ≡ p.moved.first) → (pos second.time -ℤ pos first.time) -ℤ pos grown ≡ rest
      → Rests rest (closes_or_waits last (complete_with (record { first = None; second = None; at_from = at_from; at_to = at_to })
      (needing need first) (needing need second)))
  general at_from at_to tells tells_too false first second before later is kept kept_too alone v =
      closes_alone rest last.kind last.number before later grown is (needing false first) (needing false second) p.moved.first p.moved.second kept kept_too v (alone refl)
  general None at_to tells tells_too true first second before later is kept kept_too alone v = tt
  general (Some from) None tells tells_too true first second before later is kept kept_too alone v = tt
  general (Some from) (Some to) tells tells_too true first second before later is kept kept_too alone v =
      let both : Some tells.m ≡ Some tells_too.m = sym tells.is_told ∙ tells_too.is_told in
      let one : tells.m ≡ tells_too.m = cc in
      closes_both rest last.kind last.number before later grown is (needing true first) (needing true second) p.moved.first p.moved.second kept kept_too v
      from to tells.m p.moved.at_from p.moved.at_to tells.keeps (subst (λ (m : Contents). Keeps p.moved.at_to m to) (sym one) tells_too.keeps) even.whole

  closing : (first second at_from at_to : Option Sighting) → IfSome first (Tells network run p places.First) → IfSome second (Tells network run p places.Second)
      → IfSome at_from (Tells network run p places.AtFrom) → IfSome at_to (Tells network run p places.AtTo)
      → IfSome first (λ s. IsFirst s.time) → IfSome second (λ s. IsSecond s.time)
      → Rests rest (closes_or_waits last (complete (record { first = first; second = second; at_from = at_from; at_to = at_to })))
  closing None second at_from at_to tells tells_second tells_from tells_to is_first is_second = tt
  closing (Some first) None at_from at_to tells tells_second tells_from tells_to is_first is_second = tt
  closing (Some first) (Some second) at_from at_to tells tells_second tells_from tells_to is_first is_second =
      let from = comes tells_second.m tells_second.is_told in
      let both : Some tells.m ≡ Some from.before = sym tells.is_told ∙ from.told in
      let one : tells.m ≡ from.before = cc in
      let kept = subst (λ (m : Contents). Keeps p.moved.first m first) one tells.keeps in
      let same : second.needs_other ≡ first.needs_other = tells_second.keeps.needs_other ∙ from.later.needs_other ∙ sym kept.needs_other in
      let need_is : needing first.needs_other second ≡ second = ap (λ (need : Bool). needing need second) (sym same) in
      subst (λ (s : Sighting). Rests rest (closes_or_waits last (complete_with (record { first = None; second = None; at_from = at_from; at_to = at_to }) first s))) need_is
      (general at_from at_to tells_from tells_to first.needs_other first second from.before tells_second.m from.later kept
      (subst (Keeps p.moved.second tells_second.m) (sym need_is) tells_second.keeps)
      (λ none. even.alone tells_second.m tells_second.is_told (sym tells_second.keeps.needs_other ∙ same ∙ none))
      (value tells_second.m tells_second.is_told first.time second.time is_first is_second))

  pub resting : (met : Places) → AreOf network run p met → IfSome met.first (λ s. IsFirst s.time) → IfSome met.second (λ s. IsSecond s.time)
      → Rests rest (closes_or_waits last (complete met))
  resting met are is_first is_second = closing met.first met.second met.at_from met.at_to are.first are.second are.at_from are.at_to is_first is_second

clock_value : (left entered t1 t2 : ℕ) → entered ≤ left → t1 ≡ entered → t2 ≡ left → (pos t2 -ℤ pos t1) -ℤ pos (left - entered + 0) ≡ pos 0
clock_value left entered t1 t2 order first second = omega (arith, ints)

-- of what a clock let go nothing rests
pub nothing_rests : NothingRestsOfAClock
nothing_rests network run clock p met last accepted there stay even are read =
    resting network run p last (pos 0) (clocked (Clock clock (record { entered = p.first; left = p.second }) ∷ []))
    (λ (t : ℕ). t ≡ reading p.first) (λ (t : ℕ). t ≡ reading p.second) even
    (λ m told. along network run p.first p.second (Clock clock (record { entered = p.first; left = p.second }) ∷ []) m accepted there (refl, stay, refl) told)
    (λ m told t1 t2 first second. clock_value (reading p.second) (reading p.first) t1 t2
    (through network run clock (record { entered = p.first; left = p.second }) m accepted there stay told).order first second)
    met are read.first read.second

tap_value : (first second path ahead_first ahead_second t1 t2 : ℤ) (kept : ℕ) → second -ℤ first ≡ path +ℤ pos kept → t1 ≡ first +ℤ ahead_first → t2 ≡ second +ℤ ahead_second
    → (t2 -ℤ t1) -ℤ pos kept ≡ path +ℤ (ahead_second -ℤ ahead_first)
tap_value first second path ahead_first ahead_second t1 t2 kept way at_first at_second = omega (arith, ints)

pub cables_and_taps : CablesAndTapsRest
cables_and_taps network run legs p met last ahead_first ahead_second accepted steady there way even are tapped =
    resting network run p last (time_on (cables legs) +ℤ (ahead_second -ℤ ahead_first)) (clocked legs)
    (λ (t : ℕ). pos t ≡ moment_at p.first +ℤ ahead_first) (λ (t : ℕ). pos t ≡ moment_at p.second +ℤ ahead_second) even
    (λ m told. along network run p.first p.second legs m accepted there way told)
    (λ m told t1 t2 first second. tap_value (moment_at p.first) (moment_at p.second) (time_on (cables legs)) ahead_first ahead_second (pos t1) (pos t2) (clocked legs)
    (times network run p.first p.second legs m accepted steady there way told) first second)
    met are tapped.first tapped.second

-- at one event nothing rests
same_value : (read t1 t2 : ℕ) (ahead : ℤ) → t1 ≡ read → t2 ≡ read → (pos t2 -ℤ pos t1) -ℤ pos 0 ≡ pos 0 +ℤ (ahead -ℤ ahead)
same_value read t1 t2 ahead first second = omega (arith, ints)

node_value : (network : Network) (run : Run) (legs : List Leg) (from to : Place) (m : Contents) → IsRun network run → IsSteady run → IsIn run to
    → IsWay from to legs → message_at network to ≡ Some m → (t1 t2 : ℕ) → t1 ≡ reading from → t2 ≡ reading to
    → (pos t2 -ℤ pos t1) -ℤ pos (clocked legs) ≡ time_on (cables legs) +ℤ (difference (site_of to.event) run -ℤ difference (site_of from.event) run)
node_value network run [] from to m accepted steady there way told t1 t2 first second =
    subst (λ (p : Place). (pos t2 -ℤ pos t1) -ℤ pos 0 ≡ time_on [] +ℤ (difference (site_of p.event) run -ℤ difference (site_of from.event) run)) way
    (same_value (reading from) t1 t2 (difference (site_of from.event) run) first (second ∙ ap reading (sym way)))
node_value network run (leg ∷ legs) from to m accepted steady there way told t1 t2 first second =
    let ends = ends_timed from to leg legs way in
    let begins = begins_timed from to leg legs way in
    let at_to = reading_is network run to (site_of to.event) accepted steady there ends.timed ends.steps_none refl in
    let at_from = reading_is network run from (site_of from.event) accepted steady (from_there run from to (leg ∷ legs) there way) begins.timed begins.steps_none refl in
    tap_value (moment_at from) (moment_at to) (time_on (cables (leg ∷ legs))) (difference (site_of from.event) run) (difference (site_of to.event) run)
    (pos t1) (pos t2) (clocked (leg ∷ legs)) (times network run from to (leg ∷ legs) m accepted steady there way told)
    (ap (λ (t : ℕ). pos t) first ∙ at_from) (ap (λ (t : ℕ). pos t) second ∙ at_to)

pub cables_and_clocks : CablesAndClocksRest
cables_and_clocks network run legs p met last accepted steady there way even are read =
    resting network run p last (time_on (cables legs) +ℤ (difference (site_of p.second.event) run -ℤ difference (site_of p.first.event) run)) (clocked legs)
    (λ (t : ℕ). t ≡ reading p.first) (λ (t : ℕ). t ≡ reading p.second) even
    (λ m told. along network run p.first p.second legs m accepted there way told)
    (λ m told t1 t2 first second. node_value network run legs p.first p.second m accepted steady there way told t1 t2 first second)
    met are read.first read.second
