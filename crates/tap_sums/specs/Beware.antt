-- What speaks against the numbers of crossings. What is rounded here is what a step and a line through rests come to.
use Rattle.std.specs.Prelude.{◌≡◌, ℕ, ◌-◌, ◌*◌, ◌==◌, nat_lt, ℤ, pos, ◌+ℤ◌, int_lt, unsigned_abs, Bool, false, not, ◌&&◌, ◌||◌, if◌then◌else◌}
use Rattle.std.specs.Prelude.{List, [], ◌∷◌, is_some, Option, Some, None, option_and_then}
use Rattle.std.specs.Option.{option_or}
use Rattle.statistics.specs.declared.rounded.Growth.{Growth}
use Rattle.statistics.specs.declared.rounded.Shift.{Shift}
use Rattle.statistics.specs.declared.step.Change.{Change}
use Rattle.tap_crossing.specs.declared.crossing.Crossing.{Crossing}
use Rattle.tap_crossing.specs.declared.sighting.Kind.{Kind}
use Rattle.tap_crossing.specs.declared.sighting.Kind.TheVariants as kinds
use Rattle.tap_sums.specs.declared.beware.Beware.{Beware}
use Rattle.tap_sums.specs.declared.beware.Beware.TheVariants.{TakenBelow, RestBelow, Step, Drift, Uncorrected, SteepRate, ClocksDiffer}
use Rattle.tap_sums.specs.declared.beware.Way.{Way}
use Rattle.tap_sums.specs.declared.beware.Ways.{Ways}
use Rattle.tap_sums.specs.declared.spread.Spread.{Spread}
use Rattle.tap_sums.specs.Course.{IsCourse}
use Rattle.tap_sums.specs.Sums.{of_kind, counted_of, statistics, both_ways}

-- how many crossings of a kind there are
abbrev pub count_of : Way → ℕ
count_of w = w.course.rests.all.count

abbrev pub are_few : Way → Bool
are_few w = nat_lt (count_of w) 16

-- so many are most of 16 or more: more than three of four
abbrev pub are_most : (count of : ℕ) → Bool
are_most count of = not (nat_lt of 16) && nat_lt (3 * of) (4 * count)

-- ---- what is below 0
-- most took less than 0
abbrev pub takes_below : Way → Bool
takes_below w = are_most w.course.taken_below.count (count_of w)

-- less than 0 rests of most
abbrev pub rests_below : Way → Bool
rests_below w = are_most w.course.rest_below.count (count_of w)

abbrev pub taken_below : Way → (other : Way) → Option Beware
taken_below w other = if takes_below w then Some (TakenBelow (record {
  kind = w.statistics.kind;
  cases = w.course.taken_below;
  of = count_of w;
  is_of_both = takes_below other;
})) else None

abbrev pub rest_below : Way → (other : Way) → Option Beware
rest_below w other = if rests_below w && not (takes_below w) then Some (RestBelow (record {
  kind = w.statistics.kind;
  cases = w.course.rest_below;
  of = count_of w;
  is_of_both = rests_below other;
})) else None

-- ---- rests that move in time
-- 4 crossings and more are before a change, and behind it
abbrev pub is_lasting : Change → (of : ℕ) → Bool
is_lasting change of = not (nat_lt change.before.count 4) && not (nat_lt (of - change.before.count) 4)

-- one step of 100 ns or more explains most of how the rests of 16 or more vary
abbrev pub is_step : Way → Change → Shift → Bool
is_step w change shift =
    not (are_few w) && is_lasting change (count_of w) && shift.explains_most && not (nat_lt shift.by.size 100000)

abbrev pub step_at : Way → Option Change → Option Shift → Option Beware
step_at w (Some change) (Some shift) =
    if is_step w change shift then Some (Step w.statistics.kind shift.by change.to.line) else None
step_at w _ shift = None

abbrev pub step : Way → Option Beware
step w = step_at w w.course.rests.greatest w.shift

-- a line of 0.1 ppm of time or more explains half of how they vary, or more
abbrev pub is_drift : Way → Growth → Bool
is_drift w growth = not (are_few w) && growth.explains_half && not (nat_lt growth.rate.size 100)

abbrev pub drift : Way → Option Beware
drift w = option_and_then (λ growth. if is_drift w growth then Some (Drift w.statistics.kind growth.rate) else None) w.growth

-- a step, or else a drift
abbrev pub move_of : Way → Option Beware
move_of w = option_or (step w) (drift w)

-- that of Syncs, or else of Delay_Reqs
abbrev pub moves : Ways → Option Beware
moves w = option_or (move_of w.syncs) (move_of w.requests)

-- ---- corrections
-- each of 16 or more took more than 0 and was corrected by 0
abbrev pub are_uncorrected : Way → Bool
are_uncorrected w = not (are_few w) && w.course.uncorrected.count == count_of w

abbrev pub uncorrected : Way → Option Beware
uncorrected w =
    if are_uncorrected w then Some (Uncorrected w.statistics.kind w.course.uncorrected) else None

-- rests grow by more than 100 ppm of their corrections, and that explains half of how they vary, or more
abbrev pub is_steep : Growth → Bool
is_steep rate = rate.explains_half && nat_lt 100000 rate.rate.size

-- rests move in time, or of Syncs are fewer than 16
abbrev pub has_no_rate : Ways → Bool
has_no_rate w = is_some (moves w) || are_few w.syncs

abbrev pub steep_rate : Ways → Option Beware
steep_rate w = if has_no_rate w then None
    else option_and_then (λ rate. if is_steep rate then Some (SteepRate rate.rate) else None) w.rate

-- how much rests grow by corrections, from 1 ppm on, where nothing speaks against that
abbrev pub told_rate : Ways → Option Growth
told_rate w = if has_no_rate w then None
    else option_and_then (λ rate. if not (nat_lt rate.rate.size 1000) && not (is_steep rate) then Some rate else None) w.rate

-- ---- asymmetry
-- an asymmetry is greater than half of this, which isn't below 0
abbrev pub is_beyond_half : (asymmetry taken : ℤ) → Bool
is_beyond_half asymmetry taken = not (int_lt taken (pos 0)) && nat_lt (unsigned_abs taken) (2 * unsigned_abs asymmetry)

-- it is greater than the mean of what both ways took, where that isn't below 0
abbrev pub is_beyond_ways : (asymmetry : ℤ) → (syncs requests : Option Spread) → Bool
is_beyond_ways asymmetry (Some syncs) (Some requests) = is_beyond_half asymmetry (syncs.mean +ℤ requests.mean)
is_beyond_ways asymmetry _ requests = false

-- it is greater than 100 us, or than 100 ns and that
abbrev pub is_too_great : Ways → (asymmetry : ℤ) → Bool
is_too_great w asymmetry =
    nat_lt 6553600000 (unsigned_abs asymmetry)
    || (nat_lt 6553600 (unsigned_abs asymmetry) && is_beyond_ways asymmetry w.syncs.statistics.taken w.requests.statistics.taken)

-- most of both kinds took less than 0
abbrev pub are_exchanged : Ways → Bool
are_exchanged w = takes_below w.syncs && takes_below w.requests

abbrev pub clocks_differ : Ways → Option Beware
clocks_differ w = if is_some (moves w) || are_exchanged w then None
    else option_and_then (λ a. if is_too_great w a then Some (ClocksDiffer a) else None) w.both.asymmetry

-- the asymmetry, where nothing speaks against that
abbrev pub told_asymmetry : Ways → Option ℤ
told_asymmetry w = if is_some (moves w) || takes_below w.syncs || takes_below w.requests then None
    else option_and_then (λ a. if not (is_too_great w a) then Some a else None) w.both.asymmetry

-- the mean rest of both, where rests don't move and the taps aren't exchanged
abbrev pub told_mean_rest : Ways → Option ℤ
told_mean_rest w = if is_some (moves w) || are_exchanged w then None else w.both.mean_rest

-- ---- all
-- all that speaks against the numbers, in the order in which it is told
abbrev pub bewares : Ways → List (Option Beware)
bewares w =
    taken_below w.syncs w.requests ∷ taken_below w.requests w.syncs
    ∷ rest_below w.syncs w.requests ∷ rest_below w.requests w.syncs
    ∷ moves w ∷ clocks_differ w ∷ uncorrected w.syncs ∷ uncorrected w.requests ∷ steep_rate w ∷ []

-- this is what the crossings of a kind come to
pub record IsWay (kind : Kind) (all : List Crossing) (w : Way) : Type 0 where
  pub statistics : w.statistics ≡ statistics kind (counted_of kind all)
  pub course : IsCourse (of_kind kind all) w.course

-- and those of both
pub record AreWays (all : List Crossing) (w : Ways) : Type 0 where
  pub syncs : IsWay kinds.Sync all w.syncs
  pub requests : IsWay kinds.DelayReq all w.requests
  pub both : w.both ≡ both_ways (counted_of kinds.Sync all) (counted_of kinds.DelayReq all)
