use Rattle.std.proofs.Common.{◌≡◌, false, rules}
use Rattle.network_model.specs.Clash.{has_name}
use Rattle.network_model.specs.Inner.Index.{IsIndex}
use Rattle.network_model.proofs.Networks.{values_of-admitted, identities-admitted, IsIndex-admitted}
use Rattle.network_model.proofs.nodes.Nodes.admit.Goals as goal

fresh : (c : goal.In_ok-insert) → has_name c.args.self.now c.args.node.name ≡ false
fresh c = search rules

index : (c : goal.In_ok-insert) → IsIndex c.insert.new.self.entries
index c =
    let done = c.in_ok-insert.ensures in
    let claimed = c.in_ok-claim.ensures in
    IsIndex-admitted c.self.inside.by_name c.args.self.now c.args.node c.insert.new.self.entries c.self.invariant c.self.view_is (fresh c) done.entries
    c.args.taken.now.keys c.claim.new.taken.keys c.requires claimed.decided.0 done.unique claimed.apart

pub invariant_of-self-2 : goal.invariant_of-self-2
invariant_of-self-2 c = index c

pub returns-clause-network : goal.returns-clause-network
returns-clause-network c = (index c).network

pub returns-clause-decided : goal.returns-clause-decided
returns-clause-decided c =
    (values_of-admitted c.self.inside.by_name c.args.self.now c.args.node c.insert.new.self.entries c.self.invariant c.self.view_is (fresh c) c.in_ok-insert.ensures.entries, search rules)

pub returns-clause-identities : goal.returns-clause-identities
returns-clause-identities c =
    identities-admitted c.self.inside.by_name c.args.self.now c.args.node c.insert.new.self.entries c.self.invariant c.self.view_is (fresh c) c.in_ok-insert.ensures.entries
    c.args.taken.now.keys c.claim.new.taken.keys c.requires c.in_ok-claim.ensures.decided.0
