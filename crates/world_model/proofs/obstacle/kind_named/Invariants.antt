use Rattle.std.proofs.Common.{◌≡◌, drop}
use Rattle.network_model.specs.Network.{node_of}
use Rattle.world_model.proofs.obstacle.kind_named.Given as goal

abbrev pub invariant-loop-node : goal.invariant-loop-node
invariant-loop-node l = node_of l.nodes l.name ≡ node_of (drop l.node-index l.nodes) l.name
