-- One identity, one node: no two ports of a network share an identity.
-- So a message from the present master's identity is from the present master.
use Rattle.std.proofs.Common.{◌≡◌, ◌∙◌, ℕ, suc, ◌<◌, Bool, true, false, List, [], ◌∷◌, length, get_or, Option, Some, None, refl, sym, arith, if◌then◌else◌, option_map, option_and_then}
use Rattle.std.specs.List.{cons_option}
use Rattle.event_codec.specs.declared.port.PortIdentity.{PortIdentity}
use Rattle.network_model.specs.declared.node.NodeKind.{NodeKind}
use Rattle.network_model.specs.declared.node.NodeKind.TheVariants.{Master, Slave, Clock}
use Rattle.network_model.specs.declared.node.NodeSpec.{NodeSpec}
use Rattle.network_model.specs.Network.{Network, NodeName, PortSetup, AllDiffer, node_of, master_port, slave_port, identity_of, identities, is_named}
use Rattle.network_model.specs.Truth.{master_at, slave_at}
use Rattle.network_model.proofs.Sites.{named-same}

-- the identity of the node of a name
abbrev pub identity_at : Network → NodeName → Option PortIdentity
identity_at network name = option_and_then (λ (n : NodeSpec). identity_of n.kind) (node_of network name)

-- where no two identities are one, the first differs from those after it
differs : {X : Type 0} (x : X) (xs : List X) (k : ℕ) (d : X) → AllDiffer (x ∷ xs) → k < length xs → get_or xs k d ≡ x → ⊥
differs x xs k d apart within same = apart 0 (suc k) d (omega arith) (omega arith) (sym same)

apart_rest : {X : Type 0} (x : X) (xs : List X) → AllDiffer (x ∷ xs) → AllDiffer xs
apart_rest x xs apart i j d lower within = apart (suc i) (suc j) d (omega arith) (omega arith)

-- an identity that a node has is among the identities
listed : (network : Network) (name : NodeName) (i : PortIdentity) → identity_at network name ≡ Some i
    → (k : ℕ) × (k < length (identities network)) × ((d : PortIdentity) → get_or (identities network) k d ≡ i)
listed [] name i is = cc
listed (node ∷ others) name i is = by (is_named name node.name) (identity_of node.kind) refl is (listed others name i)
  where
    Place : List PortIdentity → Type 0
    Place all = (k : ℕ) × (k < length all) × ((d : PortIdentity) → get_or all k d ≡ i)

    by : (same : Bool) (own : Option PortIdentity) → identity_of node.kind ≡ own
        → option_and_then (λ (n : NodeSpec). identity_of n.kind) (if same then Some node else node_of others name) ≡ Some i
        → (identity_at others name ≡ Some i → Place (identities others)) → Place (cons_option own (identities others))
    by true None e is rest = cc
    by true (Some own) e is rest = let same : own ≡ i = cc in (0, omega arith, λ d. same)
    by false None e is rest = rest is
    by false (Some own) e is rest = let found = rest is in (suc found.0, omega (arith, found.1), λ d. found.2 d)

-- two names of which each is that of a node with this identity are one
pub same_name : (network : Network) → AllDiffer (identities network) → (a b : NodeName) (i : PortIdentity)
    → identity_at network a ≡ Some i → identity_at network b ≡ Some i → a ≡ b
same_name [] apart a b i is is_too = cc
same_name (node ∷ others) apart a b i is is_too =
    by (is_named a node.name) (is_named b node.name) refl refl (identity_of node.kind) refl is is_too apart (same_name others)
  where
    by : (first second : Bool) → is_named a node.name ≡ first → is_named b node.name ≡ second
        → (own : Option PortIdentity) → identity_of node.kind ≡ own
        → option_and_then (λ (n : NodeSpec). identity_of n.kind) (if first then Some node else node_of others a) ≡ Some i
        → option_and_then (λ (n : NodeSpec). identity_of n.kind) (if second then Some node else node_of others b) ≡ Some i
        → AllDiffer (cons_option own (identities others))
        → (AllDiffer (identities others) → (a b : NodeName) (i : PortIdentity) → identity_at others a ≡ Some i → identity_at others b ≡ Some i → a ≡ b)
        → a ≡ b
    by true true ea eb own o is is_too apart rest = named-same a node.name ea ∙ sym (named-same b node.name eb)
    by true false ea eb None o is is_too apart rest = cc
    by true false ea eb (Some own) o is is_too apart rest =
        let same : own ≡ i = cc in
        let found = listed others b i is_too in
        absurd (differs own (identities others) found.0 own apart found.1 (found.2 own ∙ sym same))
    by false true ea eb None o is is_too apart rest = cc
    by false true ea eb (Some own) o is is_too apart rest =
        let same : own ≡ i = cc in
        let found = listed others a i is in
        absurd (differs own (identities others) found.0 own apart found.1 (found.2 own ∙ sym same))
    by false false ea eb None o is is_too apart rest = rest apart a b i is is_too
    by false false ea eb (Some own) o is is_too apart rest = rest (apart_rest own (identities others) apart) a b i is is_too

-- the identities of a master and of a slave
pub identity_of_master : (network : Network) (name : NodeName) (port : PortSetup) → master_at network name ≡ Some port → identity_at network name ≡ Some port.config.identity
identity_of_master network name port is = by (node_of network name) is
  where
    kind : (k : NodeKind) → master_port k ≡ Some port → identity_of k ≡ Some port.config.identity
    kind (Master config first) is = cc
    kind (Slave config first) is = cc
    kind Clock is = cc

    by : (n : Option NodeSpec) → option_and_then master_port (option_map (λ (n : NodeSpec). n.kind) n) ≡ Some port
        → option_and_then (λ (n : NodeSpec). identity_of n.kind) n ≡ Some port.config.identity
    by None is = cc
    by (Some n) is = kind n.kind is

pub identity_of_slave : (network : Network) (name : NodeName) (port : PortSetup) → slave_at network name ≡ Some port → identity_at network name ≡ Some port.config.identity
identity_of_slave network name port is = by (node_of network name) is
  where
    kind : (k : NodeKind) → slave_port k ≡ Some port → identity_of k ≡ Some port.config.identity
    kind (Master config first) is = cc
    kind (Slave config first) is = cc
    kind Clock is = cc

    by : (n : Option NodeSpec) → option_and_then slave_port (option_map (λ (n : NodeSpec). n.kind) n) ≡ Some port
        → option_and_then (λ (n : NodeSpec). identity_of n.kind) n ≡ Some port.config.identity
    by None is = cc
    by (Some n) is = kind n.kind is
