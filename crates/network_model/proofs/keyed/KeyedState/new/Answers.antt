use Rattle.std.proofs.Common.{◌∙◌, ap}
use Rattle.std.specs.List.{flat_map}
use Rattle.std.specs.Hash.DefaultHasher.{write}
use Rattle.std.proofs.lemmas.List.{take_all}
use Rattle.sha2.specs.Sha256.{sha256}
use Rattle.network_model.specs.Inner.Keyed.{octets_of_node}
use Rattle.network_model.proofs.keyed.KeyedState.new.Goals as goal

pub returns : goal.returns
returns c =
    c.write.ensures
    ∙ ap (λ state. write state c.finalize.result) c.new-keyed.ensures
    ∙ ap (write _) (c.finalize.ensures _ c.loop-node.invariant.holds ∙ ap (λ nodes. sha256 (flat_map octets_of_node nodes)) (take_all c.loop-node.node-index c.args.nodes.now c.loop-node-test.false))
