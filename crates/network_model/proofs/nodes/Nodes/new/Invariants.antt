use Rattle.std.proofs.Common.{◌≡◌, take, drop}
use Rattle.network_model.specs.Network.{IsNetwork, identities}
use Rattle.network_model.specs.Clash.{clash_after, first_clash}
use Rattle.network_model.proofs.nodes.Nodes.new.Given as goal

abbrev pub invariant-loop-node : goal.invariant-loop-node
invariant-loop-node l = record {
  admitted : l.network ≡ take l.node-index l.nodes;
  taken : l.taken.keys ≡ identities l.network;
  network : IsNetwork l.network;
  passed : first_clash l.nodes ≡ clash_after l.network (drop l.node-index l.nodes);
}
