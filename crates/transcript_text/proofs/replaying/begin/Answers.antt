use Rattle.std.proofs.Common.{◌<◌, inl, length, arith, rules}
use Rattle.std.proofs.KnownBytes.{Appends-trans}
use Rattle.std.proofs.lemmas.Result.{err_from_is_err_and}
use Rattle.transcript_text.proofs.NodeLines.{nodes_text-more, no_line, no_network}
use Rattle.transcript_text.proofs.replaying.begin.Goals as goal

pub returns-in_err-network-clause-begun : goal.returns-in_err-network-clause-begun
returns-in_err-network-clause-begun g c =
    let e = err_from_is_err_and c.from_residual.result c.from_residual.ensures.1 in
    rw (e.1, e.2) (no_network _ c.args.nodes.now _ c.in_err-network.ensures.decided)

pub returns-in_err-world-clause-begun : goal.returns-in_err-world-clause-begun
returns-in_err-world-clause-begun g c =
    let e = err_from_is_err_and c.from_residual-in_err-world.result c.from_residual-in_err-world.ensures.1 in
    rw (e.1, e.2) (no_network _ c.args.nodes.now _ (inl c.in_err-world.ensures.refused))

pub returns-in_err-write_node-clause-begun : goal.returns-in_err-write_node-clause-begun
returns-in_err-write_node-clause-begun g c =
    let e = err_from_is_err_and c.from_residual-in_err-write_node.result c.from_residual-in_err-write_node.ensures.1 in
    rw (e.1, e.2)
    (no_line _ c.loop-node.node-index c.args.nodes.now _ _ _ c.loop-node.invariant.written c.in_ok-network.ensures.decided.1 c.in_err-write_node.ensures.written)

pub loop-node-preserved : goal.loop-node-preserved
loop-node-preserved g c =
    let within : c.loop-node.node-index < length c.args.nodes.now = omega arith in
    record {
      written = rw (nodes_text-more c.loop-node.node-index c.args.nodes.now c.node-item.result within c.node-item.is)
          (Appends-trans _ _ _ _ _ c.loop-node.invariant.written c.in_ok-write_node.ensures.written);
      writer = search rules;
    }
