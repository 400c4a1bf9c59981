use Rattle.std.proofs.Common.{take}
use Rattle.std.specs.List.{flat_map}
use Rattle.sha2.specs.Hashers.{Holds256}
use Rattle.network_model.specs.Inner.Keyed.{octets_of_node}
use Rattle.network_model.proofs.keyed.KeyedState.new.Given as goal

abbrev pub invariant-loop-node : goal.invariant-loop-node
invariant-loop-node l = record {
  holds : Holds256 l.digest (flat_map octets_of_node (take l.node-index l.nodes));
}
