-- What the digest of a network's names and identities is fed with, piece by piece.
use Rattle.std.proofs.Common.{◌≡◌, ◌∙◌, ℕ, List, [], ◌∷◌, ◌++◌, length, sym, ap}
use Rattle.std.proofs.lemmas.List.{append_assoc}
use Rattle.network_model.specs.declared.node.NodeSpec.{NodeSpec}
use Rattle.network_model.specs.Network.{identity_of}
use Rattle.network_model.specs.Inner.Keyed.{octets_of_identity, octets_of_node}

-- a number and two texts behind each other
pub appended : (front : List ℕ) (n : ℕ) (a b : List ℕ) → ((front ++ (n ∷ [])) ++ a) ++ b ≡ front ++ (n ∷ a ++ b)
appended front n a b = append_assoc (front ++ (n ∷ [])) a b ∙ append_assoc front (n ∷ []) (a ++ b)

-- a node behind others
pub node_appended : (front name rest : List ℕ) (node : NodeSpec) → name ≡ node.name → octets_of_identity (identity_of node.kind) ≡ rest
    → ((front ++ (length name ∷ [])) ++ name) ++ rest ≡ front ++ octets_of_node node
node_appended front name rest node same_name same_rest =
    appended front (length name) name rest
    ∙ ap (λ text. front ++ (length text ∷ text ++ rest)) same_name
    ∙ ap (λ octets. front ++ (length node.name ∷ node.name ++ octets)) (sym same_rest)
