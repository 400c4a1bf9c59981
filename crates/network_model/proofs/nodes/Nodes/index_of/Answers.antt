use Rattle.std.proofs.Common.{◌∙◌, sym, ap, is_some, slice_get}
use Rattle.std.proofs.lemmas.Option.{IfSome_then}
use Rattle.network_model.proofs.Networks.{lookup-node_of}
use Rattle.network_model.proofs.nodes.Nodes.index_of.Goals as goal

pub returns-clause-found : goal.returns-clause-found
returns-clause-found c =
    c.get_index_of.ensures.found
    ∙ ap is_some (lookup-node_of c.self.inside.by_name.entries c.args.self.now c.args.name.now c.self.invariant c.self.view_is)

pub returns-clause-node : goal.returns-clause-node
returns-clause-node c =
    IfSome_then
    c.get_index_of.result c.get_index_of.ensures.value
    (λ index at.
    sym (ap (λ nodes. slice_get nodes index) c.self.view_is) ∙ at
    ∙ lookup-node_of c.self.inside.by_name.entries c.args.self.now c.args.name.now c.self.invariant c.self.view_is)
