use Rattle.std.proofs.Common.{◌∙◌}
use Rattle.network_model.proofs.Networks.{lookup-node_of}
use Rattle.network_model.proofs.nodes.Nodes.get.Goals as goal

pub returns : goal.returns
returns c =
    c.get.ensures.value ∙ lookup-node_of c.self.inside.by_name.entries c.args.self.now c.args.name.now c.self.invariant c.self.view_is
