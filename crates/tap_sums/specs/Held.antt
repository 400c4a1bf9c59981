-- What is held of crossings, of which so many of each kind count.
use Rattle.std.specs.Prelude.{◌≡◌, List}
use Rattle.tap_crossing.specs.declared.crossing.Crossing.{Crossing}
use Rattle.tap_crossing.specs.declared.sighting.Kind.TheVariants as kinds
use Rattle.tap_sums.specs.declared.sums.Sums.{Sums}
use Rattle.tap_sums.specs.Sums.{counted_of, worst}
use Rattle.tap_sums.specs.KindHeld.{AreKindSums}

-- this is held of these crossings
pub record AreSums (all : List Crossing) (s : Sums) : Type 0 where
  pub syncs : AreKindSums (counted_of kinds.Sync all) s.syncs
  pub requests : AreKindSums (counted_of kinds.DelayReq all) s.requests
  pub worst : s.worst ≡ worst all
