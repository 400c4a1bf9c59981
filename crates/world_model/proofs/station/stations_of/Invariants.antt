use Rattle.std.proofs.Common.{◌≡◌, length, []}
use Rattle.world_model.specs.Inner.Stands.{EachStands}
use Rattle.world_model.proofs.station.stations_of.Given as goal

abbrev pub invariant-loop-index : goal.invariant-loop-index
invariant-loop-index l = record {
  count : length l.stations.items ≡ l.index;
  each : EachStands l.nodes [] l.stations.items;
}
