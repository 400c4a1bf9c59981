-- The laws of one record: what rests of a message that passed a clock (IEEE 1588-2019, 10.2), and of one on its way
-- (7.4.2). `laws` promises them.
use Rattle.std.specs.Prelude.{◌≡◌, ℤ, pos, ◌+ℤ◌, ◌-ℤ◌, List, IfSome}
use Rattle.network_model.specs.Network.{Network, NodeName}
use Rattle.network_model.specs.Run.{Run, IsIn, site_of}
use Rattle.network_model.specs.Clock.{difference, reading}
use Rattle.network_model.specs.Outcome.{IsRun}
use Rattle.network_model.specs.Level.{moment_at, time_on, IsSteady}
use Rattle.tap_crossing.specs.declared.sighting.Placed.{Placed}
use Rattle.tap_crossing.specs.declared.places.Places.{Places}
use Rattle.tap_crossing.specs.Record.{complete}
use Rattle.tap_crossing.specs.Told.{closes_or_waits}
use Rattle.tap_laws.specs.Told.{Passage, IsEven, AreOf, Rests}
use Rattle.tap_laws.specs.Way.{IsStay, Leg, IsWay, cables}

-- the events were met by the readings of their nodes
pub record AreRead (p : Passage) (met : Places) : Type 0 where
  pub first : IfSome met.first (λ s. s.time ≡ reading p.first)
  pub second : IfSome met.second (λ s. s.time ≡ reading p.second)

-- the events were met by the clocks of the taps, of which each is ahead of true time by so much
pub record AreTapped (ahead_first ahead_second : ℤ) (p : Passage) (met : Places) : Type 0 where
  pub first : IfSome met.first (λ s. pos s.time ≡ moment_at p.first +ℤ ahead_first)
  pub second : IfSome met.second (λ s. pos s.time ≡ moment_at p.second +ℤ ahead_second)

-- In an accepted run, of a record that tells what entered a clock and what left it of that, by the clock's readings, nothing rests.
abbrev pub NothingRestsOfAClock : Type 0
NothingRestsOfAClock =
    (network : Network) (run : Run) (clock : NodeName) (p : Passage) (met : Places) (last : Placed)
    → IsRun network run → IsIn run p.second
    → IsStay clock (record { entered = p.first; left = p.second }) → IsEven network p → AreOf network run p met → AreRead p met
    → Rests (pos 0) (closes_or_waits last (complete met))

-- Of a record that tells a message at two events of its way, by clocks that are ahead by so much, the true times of the cables
-- in between rest, and what the second is more ahead than the first.
abbrev pub CablesAndTapsRest : Type 0
CablesAndTapsRest =
    (network : Network) (run : Run) (legs : List Leg) (p : Passage) (met : Places) (last : Placed) (ahead_first ahead_second : ℤ)
    → IsRun network run → IsSteady run → IsIn run p.second
    → IsWay p.first p.second legs → IsEven network p → AreOf network run p met → AreTapped ahead_first ahead_second p met
    → Rests (time_on (cables legs) +ℤ (ahead_second -ℤ ahead_first)) (closes_or_waits last (complete met))

-- The same by the readings of the nodes at these events.
abbrev pub CablesAndClocksRest : Type 0
CablesAndClocksRest =
    (network : Network) (run : Run) (legs : List Leg) (p : Passage) (met : Places) (last : Placed)
    → IsRun network run → IsSteady run → IsIn run p.second
    → IsWay p.first p.second legs → IsEven network p → AreOf network run p met → AreRead p met
    → Rests (time_on (cables legs) +ℤ (difference (site_of p.second.event) run -ℤ difference (site_of p.first.event) run))
    (closes_or_waits last (complete met))
