-- The law on asymmetry (IEEE 1588-2019, 7.4.2): what a Sync rests more than a Delay_Req is what its way takes more, and
-- by half of that a slave's offset is off. `laws::asymmetry_is_of_the_ways` promises it.
use Rattle.std.specs.Prelude.{◌≡◌, ℕ, ℤ, ◌+ℤ◌, ◌-ℤ◌, List, Some, option_and_then, IsTrue}
use Rattle.slave_port.specs.declared.heard.Report.{Report}
use Rattle.network_model.specs.Network.{Network, NodeName}
use Rattle.network_model.specs.Run.{Run, Place, IsIn, place_at}
use Rattle.network_model.specs.Kinds.{draws_sync, is_request}
use Rattle.network_model.specs.Clock.{difference}
use Rattle.network_model.specs.Outcome.{IsRun}
use Rattle.network_model.specs.Present.{present_master}
use Rattle.network_model.specs.Premises.{exact_limits, IsFreshAndTickedFor}
use Rattle.network_model.specs.Reported.{ReportedIn}
use Rattle.network_model.specs.Level.{time_on, maker_heard, IsSteady}
use Rattle.network_model.specs.TrueTime.{twice}
use Rattle.tap_crossing.specs.declared.sighting.Placed.{Placed}
use Rattle.tap_crossing.specs.declared.places.Places.{Places}
use Rattle.tap_crossing.specs.declared.crossing.Crossing.{Crossing}
use Rattle.tap_crossing.specs.declared.crossing.MessageOutcome.TheVariants as outcomes
use Rattle.tap_crossing.specs.Record.{complete}
use Rattle.tap_crossing.specs.Told.{closes_or_waits}
use Rattle.tap_laws.specs.Told.{Moved, IsEven, AreOf}
use Rattle.tap_laws.specs.Way.{Leg, IsWay, cables}
use Rattle.tap_laws.specs.Record.{AreTapped}

-- a crossing of a message that was met at two events of its way, by clocks that are ahead by so much
pub record IsCrossingOn (network : Network) (run : Run) (ahead_first ahead_second : ℤ) (from to : Place) (legs : List Leg) (x : Crossing) : Type 0 where
  pub general : ℕ
  pub moved : Moved
  pub met : Places
  pub last : Placed
  pub there : IsIn run to
  pub way : IsWay from to legs
  pub even : IsEven network (record { first = from; second = to; general = general; moved = moved })
  pub are : AreOf network run (record { first = from; second = to; general = general; moved = moved }) met
  pub tapped : AreTapped ahead_first ahead_second (record { first = from; second = to; general = general; moved = moved }) met
  pub crossed : closes_or_waits last (complete met) ≡ outcomes.Crossed x

-- A Sync that went from `from` to `to`, and a Delay_Req that went back, by two clocks of which that at `to` is more ahead: rest of
-- the one less rest of the other is the cables' time of the one way less that of the other, and twice what the clock is ahead;
-- and in their sum the clocks don't stand.
abbrev pub AsymmetryIsOfTheWays : Type 0
AsymmetryIsOfTheWays =
    (network : Network) (run : Run) (ahead_from ahead_to : ℤ) (sent arrived asked answered : Place) (there back : List Leg) (sync request : Crossing)
    → IsRun network run → IsSteady run
    → IsCrossingOn network run ahead_from ahead_to sent arrived there sync
    → IsCrossingOn network run ahead_to ahead_from asked answered back request
    → (sync.rest -ℤ request.rest ≡ (time_on (cables there) -ℤ time_on (cables back)) +ℤ twice (ahead_to -ℤ ahead_from))
    × (sync.rest +ℤ request.rest ≡ time_on (cables there) +ℤ time_on (cables back))

-- The Sync of a report, from its sending to its arrival, and its Delay_Req, from its sending to the arrival at the master: both were
-- met there by one clock. Then twice the offset is twice the true difference of slave and master, and the asymmetry.
abbrev pub OffsetIsOffByHalf : Type 0
OffsetIsOffByHalf =
    (network : Network) (run : Run) (slave master : NodeName) (report : Report) (ahead : ℤ) (sent arrived asked answered : Place)
    (there back : List Leg) (sync request : Crossing)
    → IsFreshAndTickedFor exact_limits network slave run → IsSteady run
    → (reported : ReportedIn network run slave report) → present_master slave reported.answered.earlier ≡ Some master
    → IsTrue (draws_sync sent.event) → place_at run report.sync_tag ≡ Some arrived
    → IsTrue (is_request asked.event) → option_and_then maker_heard (place_at run report.response_tag) ≡ Some answered
    → IsCrossingOn network run ahead ahead sent arrived there sync
    → IsCrossingOn network run ahead ahead asked answered back request
    → report.offset2 ≡ twice (difference slave run -ℤ difference master run) +ℤ (sync.rest -ℤ request.rest)

-- what a Sync rests more than a Delay_Req is what its way takes more, and a slave's offset is off by half of it
pub record ShowsAsymmetry : Type 0 where
  pub ways : AsymmetryIsOfTheWays
  pub offset : OffsetIsOffByHalf
