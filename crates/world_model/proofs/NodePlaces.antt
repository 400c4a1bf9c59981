-- Nodes by their places.
use Rattle.std.proofs.Common.{◌≡◌, ◌∙◌, ℕ, zero, suc, Bool, true, false, cond, [], ◌∷◌, Some, slice_get, refl, sym, ap, arith}
use Rattle.std.proofs.lemmas.Slice.Eq.{bytes_eq-Decides}
use Rattle.network_model.specs.declared.node.NodeSpec.{NodeSpec}
use Rattle.network_model.specs.Network.{Network, NodeName, IsNetwork, AllDiffer, names, node_of, is_named}
use Rattle.network_model.proofs.Networks.{names_differ}

others_differ : (node : NodeSpec) (others : Network) → AllDiffer (names (node ∷ others)) → AllDiffer (names others)
others_differ node others apart i j d lower within = apart (suc i) (suc j) d (omega arith) (omega arith)

of_name : (network : Network) (place : ℕ) (node : NodeSpec) (name : NodeName) → AllDiffer (names network)
    → slice_get network place ≡ Some node → node.name ≡ name → node_of network name ≡ Some node
of_name [] place node name apart at is = cc
of_name (first ∷ others) zero node name apart at is =
    let same : first ≡ node = cc in
    let test : is_named name first.name ≡ true = (bytes_eq-Decides name first.name).1 (sym (ap (λ (n : NodeSpec). n.name) same ∙ is)) in
    (λ i. cond (test i) (Some first) (node_of others name)) ∙ ap Some same
of_name (first ∷ others) (suc place) node name apart at is =
    by (is_named name first.name) refl (of_name others place node name (others_differ first others apart) at is)
  where
    by : (b : Bool) → is_named name first.name ≡ b → node_of others name ≡ Some node → node_of (first ∷ others) name ≡ Some node
    by true e rest = absurd (names_differ (first ∷ others) apart 0 (suc place) first node refl at (omega arith)
        (sym ((bytes_eq-Decides name first.name).0 e) ∙ sym is))
    by false e rest = (λ i. cond (e i) (Some first) (node_of others name)) ∙ rest

-- a node at a place is the one of its name
pub node_at : (network : Network) (place : ℕ) (node : NodeSpec) (name : NodeName) → IsNetwork network
    → slice_get network place ≡ Some node → is_named node.name name ≡ true → node_of network name ≡ Some node
node_at network place node name sound at test = of_name network place node name sound.names at ((bytes_eq-Decides node.name name).0 test)
