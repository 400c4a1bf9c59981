use Rattle.std.proofs.Common.{◌≡◌, ◌∙◌, Some, slice_get, length, sym, ap, arith, option_copied}
use Rattle.std.proofs.lemmas.Grind.{common_steps}
use Rattle.network_model.specs.declared.node.NodeSpec.{NodeSpec}
use Rattle.world_model.proofs.Stations.{is_there, is_lent, EachStands-push}
use Rattle.world_model.proofs.station.stations_of.Goals as goal

pub loop-index-preserved : goal.loop-index-preserved
loop-index-preserved c =
    let node : NodeSpec = c.unwrap-node.result.now in
    let here : slice_get c.args.nodes.now c.loop-index.index ≡ Some node = sym c.get_index.ensures ∙ ap option_copied c.unwrap-node.ensures in
    let at : slice_get c.args.nodes.now (length c.loop-index.stations.items) ≡ Some node = ap (slice_get c.args.nodes.now) c.loop-index.invariant.count ∙ here in
    record {
      count = grind (arith, common_steps);
      each = rw c.in_ok-push.ensures.items
          (EachStands-push c.args.nodes.now _ c.loop-index.stations.items node c.new.result c.loop-index.invariant.each at (c.new.ensures c.args.nodes.now node.name));
    }

pub returns-clause-stand : goal.returns-clause-stand
returns-clause-stand c = record {
  count = omega (arith, c.loop-index.invariant.count, c.len-index-end.ensures.value);
  each = c.loop-index.invariant.each;
}

pub unwrap-node-requires : goal.unwrap-node-requires
unwrap-node-requires c =
    is_lent c.get_index.result (slice_get c.args.nodes.now c.loop-index.index) c.get_index.ensures
    (is_there c.args.nodes.now c.loop-index.index (omega (arith, c.loop-index-test.true, c.len-index-end.ensures.value)))
