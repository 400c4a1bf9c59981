-- What is told at the end of a course of which it is known whose messages are followed.
use Rattle.std.specs.Prelude.{◌≡◌, ℕ, ◌+◌, ◌%◌, ◌^◌, Bool, true, false, List, map, is_some, unwrap_or, Option, Some, None, IfSome}
use Rattle.statistics.specs.declared.recent.Middle.{Middle}
use Rattle.statistics.specs.Median.{IsMedian, last}
use Rattle.datagram_source.specs.declared.input.InputOutcome.{InputOutcome}
use Rattle.datagram_source.specs.declared.input.InputOutcome.TheVariants.{Lines, Capture}
use Rattle.tap_crossing.specs.declared.places.Filled.{Filled}
use Rattle.tap_crossing.specs.declared.sighting.Kind.{Kind}
use Rattle.tap_crossing.specs.declared.sighting.Kind.TheVariants as kinds
use Rattle.tap_sums.specs.declared.beware.Ways.{Ways}
use Rattle.tap_sums.specs.declared.spread.Quantity.{Quantity}
use Rattle.tap_sums.specs.declared.spread.Quantity.TheVariants as quantities
use Rattle.tap_sums.specs.Beware.{AreWays, bewares, told_rate, told_asymmetry, told_mean_rest}
use Rattle.tap_sums.specs.Changed.{AreChanged, changes_in}
use Rattle.tap_sums.specs.Sums.{of_kind, counted_of, value_of, statistics}
use Rattle.tap_sums.specs.Untold.{AreUntold}
use Rattle.tap_follow.specs.declared.ending.Ending.{Ending}
use Rattle.tap_follow.specs.declared.ending.InputUnit.{InputUnit}
use Rattle.tap_follow.specs.declared.ending.InputUnit.TheVariants.{Line, Packet}
use Rattle.tap_follow.specs.declared.ending.KindEnding.{KindEnding}
use Rattle.tap_follow.specs.declared.followed.Followed.{Followed}
use Rattle.tap_follow.specs.declared.fault.FollowFault.{FollowFault}
use Rattle.tap_follow.specs.declared.lost.Lost.{Lost}
use Rattle.tap_follow.specs.Course.{Course}
use Rattle.tap_follow.specs.SoFar.{followed_so_far, crossings_so_far, open_so_far, outcomes_so_far}

-- what an input has, by what came of it
abbrev pub unit_of : InputOutcome FollowFault → InputUnit
unit_of (Lines answer) = Line
unit_of (Capture answer) = Packet

-- ---- what was lost
-- how many records of a kind are open in which just these places are filled: the event message at the first tap and at the second,
-- and the message that belongs to it at `from` and at `to`
abbrev pub open_in : Kind → (first second at_from at_to : Bool) → Course → ℕ
open_in kind first second at_from at_to c =
    unwrap_or (open_so_far kind (record { first = first; second = second; at_from = at_from; at_to = at_to }) c) 0

-- a sum modulo 2^64
abbrev pub plus : ℕ → ℕ → ℕ
plus a b = (a + b) % 2 ^ 64

-- how many have the event message just where it is told, whatever else they have
abbrev pub alone_in : Kind → (first second : Bool) → Course → ℕ
alone_in kind first second c =
    plus (plus (plus (open_in kind first second false false c) (open_in kind first second false true c))
    (open_in kind first second true false c)) (open_in kind first second true true c)

-- how many have it at both taps, and lack the message that belongs to it
abbrev pub unanswered_in : Kind → Course → ℕ
unanswered_in kind c =
    plus (plus (open_in kind true true false false c) (open_in kind true true false true c)) (open_in kind true true true false c)

abbrev pub lost_in : Kind → Course → Lost
lost_in kind c = record {
  at_first = alone_in kind true false c;
  at_second = alone_in kind false true c;
  unanswered = unanswered_in kind c;
}

-- ---- what is told of a kind
-- these are the two in the middle of what the last crossings of a kind have; for want of memory there are none
abbrev pub IsMedianOf : Quantity → Kind → Course → Option Middle → Type 0
IsMedianOf quantity kind c median =
    IfSome median (λ middle. IsMedian (last (map (value_of quantity) (of_kind kind (crossings_so_far c)))) (Some middle))

pub record IsKindEnding (kind : Kind) (c : Course) (e : KindEnding) : Type 0 where
  pub statistics : e.statistics ≡ statistics kind (counted_of kind (crossings_so_far c))
  pub taken : IsMedianOf quantities.Taken kind c e.taken
  pub corrected : IsMedianOf quantities.Corrected kind c e.corrected
  pub rest : IsMedianOf quantities.Rest kind c e.rest
  pub lost : e.lost ≡ lost_in kind c
  pub untold : AreUntold (outcomes_so_far kind c) e.untold

-- ---- what is told
-- by what the crossings come to, where what a step and a line through their rests come to is rounded
pub record IsToldBy (w : Ways) (e : Ending) : Type 0 where
  pub rate : e.rate ≡ told_rate w
  pub asymmetry : e.asymmetry ≡ told_asymmetry w
  pub mean_rest : e.mean_rest ≡ told_mean_rest w
  pub bewares : e.bewares ≡ bewares w

-- where these messages are followed
pub record IsEndingOf (f : Followed) (c : Course) (e : Ending) : Type 0 where
  pub from : e.from ≡ f.from_name
  pub to : e.to ≡ f.to_name
  pub is_slave_known : e.is_slave_known ≡ is_some f.watched.slave
  pub syncs : IsKindEnding kinds.Sync c e.syncs
  pub requests : IsKindEnding kinds.DelayReq c e.requests
  pub ways : (w : Ways) × AreWays (crossings_so_far c) w × IsToldBy w e
  pub changed : AreChanged (changes_in (crossings_so_far c)) e.changed

-- what is told at the end of a course, where it is known whose messages are followed
abbrev pub IsEnding : Course → Option Ending → Type 0
IsEnding c None = followed_so_far c ≡ None
IsEnding c (Some e) = (f : Followed) × (followed_so_far c ≡ Some f) × IsEndingOf f c e
