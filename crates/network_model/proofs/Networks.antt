-- Nodes in an index, and the clashes of a network.
use Rattle.std.proofs.Common.{◌≡◌, ◌≢◌, ◌∙◌, ℕ, zero, suc, ◌<◌, Bool, true, false, cond, if◌then◌else◌, List, [], ◌∷◌, ◌++◌, length, Option, Some, None, is_some, slice_get, slice_index_or, refl, sym, ap, subst, arith}
use Rattle.std.specs.List.{IsDistinct, filter_map}
use Rattle.std.specs.Map.{keys_of, values_of, lookup}
use Rattle.std.specs.Option.{option_to_list}
use Rattle.std.specs.Str.{bytes_eq}
use Rattle.std.proofs.lemmas.List.Elements.{filter_map-append}
use Rattle.std.proofs.lemmas.Map.Made.{AllPairs-from_IsDistinct}
use Rattle.std.proofs.lemmas.Slice.Eq.{bytes_eq-Decides}
use Rattle.event_codec.specs.declared.port.PortIdentity.{PortIdentity}
use Rattle.event_codec.specs.Port.{is_same_port}
use Rattle.event_codec.proofs.SamePort.{is_same_port-Decides}
use Rattle.indexmap.specs.IndexMap.{IndexMap, get, insert_entry}
use Rattle.indexmap.proofs.CallerLemmas.{insert_entry-new}
use Rattle.network_model.specs.declared.node.NodeSpec.{NodeSpec}
use Rattle.network_model.specs.Network.{Network, NodeName, AllDiffer, node_of, names, identities, identity_of, is_named}
use Rattle.network_model.specs.Clash.{has_name}
use Rattle.network_model.specs.Inner.Index.{Entries, IsIndex, entries_of}

lookup-entries_of : (nodes : Network) (name : NodeName) → lookup (bytes_eq name) (entries_of nodes) ≡ node_of nodes name
lookup-entries_of [] name = refl
lookup-entries_of (node ∷ others) name = ap (λ rest. cond (bytes_eq name node.name) (Some node) rest) (lookup-entries_of others name)

-- the node of a name, as an index has it
pub lookup-node_of : (entries : Entries) (nodes : Network) (name : NodeName) → IsIndex entries → values_of entries ≡ nodes
    → lookup (bytes_eq name) entries ≡ node_of nodes name
lookup-node_of entries nodes name index same =
    ap (lookup (bytes_eq name)) index.at_names ∙ lookup-entries_of (values_of entries) name ∙ ap (λ found. node_of found name) same

-- the node of a name has this name
pub named_so : (network : Network) (name : NodeName) (node : NodeSpec) → node_of network name ≡ Some node → node.name ≡ name
named_so [] name node there = cc
named_so (first ∷ others) name node there = by_test (is_named name first.name) refl there (named_so others name node)
  where
    by_test : (b : Bool) → is_named name first.name ≡ b → (if b then Some first else node_of others name) ≡ Some node
        → (node_of others name ≡ Some node → node.name ≡ name) → node.name ≡ name
    by_test true test found later = (let same : first ≡ node = cc in ap (λ (n : NodeSpec). n.name) (sym same)) ∙ sym ((bytes_eq-Decides name first.name).0 test)
    by_test false test found later = later found

name_at : (network : Network) (i : ℕ) (node : NodeSpec) → slice_get network i ≡ Some node
    → (i < length (names network)) × ((d : NodeName) → slice_index_or (names network) i d ≡ node.name)
name_at [] i node there = absurd (cc)
name_at (first ∷ others) zero node there = (omega arith, λ d. let same : first ≡ node = cc in ap (λ (n : NodeSpec). n.name) same)
name_at (first ∷ others) (suc i) node there = let rest = name_at others i node there in (omega (arith, rest.0), rest.1)

-- two nodes have two names
pub names_differ : (network : Network) → AllDiffer (names network) → (i j : ℕ) (a b : NodeSpec) → slice_get network i ≡ Some a → slice_get network j ≡ Some b
    → i < j → a.name ≢ b.name
names_differ network apart i j a b at_i at_j less same =
    let first = name_at network i a at_i in
    let second = name_at network j b at_j in
    apart i j a.name less second.0 (first.1 a.name ∙ same ∙ sym (second.1 a.name))

keys_of-entries_of : (nodes : Network) → keys_of (entries_of nodes) ≡ names nodes
keys_of-entries_of [] = refl
keys_of-entries_of (node ∷ others) = ap (λ rest. node.name ∷ rest) (keys_of-entries_of others)

values_of-entries_of : (nodes : Network) → values_of (entries_of nodes) ≡ nodes
values_of-entries_of [] = refl
values_of-entries_of (node ∷ others) = ap (λ rest. node ∷ rest) (values_of-entries_of others)

entries_of-push : (nodes : Network) (node : NodeSpec) → entries_of (nodes ++ node ∷ []) ≡ entries_of nodes ++ (node.name, node) ∷ []
entries_of-push [] node = refl
entries_of-push (first ∷ others) node = ap (λ rest. (first.name, first) ∷ rest) (entries_of-push others node)

-- the identities of one more node's ports come last
identities-push : (nodes : Network) (node : NodeSpec) → identities (nodes ++ node ∷ []) ≡ identities nodes ++ option_to_list (identity_of node.kind)
identities-push nodes node = filter_map-append (λ (n : NodeSpec). identity_of n.kind) nodes (node ∷ []) ∙ ap (λ xs. identities nodes ++ xs) (one (identity_of node.kind))
  where
    one : (o : Option PortIdentity) → filter_map (λ (i : Option PortIdentity). i) (o ∷ []) ≡ option_to_list o
    one None = refl
    one (Some x) = refl

-- identities that `==` tells apart differ
pub AllDiffer-identities : (taken : List PortIdentity) → IsDistinct is_same_port taken → AllDiffer taken
AllDiffer-identities = AllPairs-from_IsDistinct is_same_port-Decides

None-from_is_some : {X : Type 0} (o : Option X) → is_some o ≡ false → o ≡ None
None-from_is_some None h = refl
None-from_is_some (Some x) h = cc

-- what `admit` leaves: entries with a node of a new name put into those of the nodes before it
module _ {S : Type 0} (m : IndexMap NodeName NodeSpec S) (earlier : Network) (node : NodeSpec) (entries : Entries)
    (index : IsIndex m.entries) (is_earlier : values_of m.entries ≡ earlier) (fresh : has_name earlier node.name ≡ false)
    (put : entries ≡ insert_entry bytes_eq m.entries node.name node) where
  at_names : entries ≡ entries_of (earlier ++ node ∷ [])
  at_names =
      let at : m.entries ≡ entries_of earlier = index.at_names ∙ ap entries_of is_earlier in
      let none : get bytes_eq m node.name ≡ None = ap (lookup (bytes_eq node.name)) at ∙ lookup-entries_of earlier node.name ∙ None-from_is_some (node_of earlier node.name) fresh in
      put ∙ insert_entry-new bytes_eq m node.name node none ∙ ap (λ es. es ++ (node.name, node) ∷ []) at ∙ sym (entries_of-push earlier node)

  -- the nodes, with the new one last
  pub values_of-admitted : values_of entries ≡ earlier ++ node ∷ []
  values_of-admitted = ap values_of at_names ∙ values_of-entries_of (earlier ++ node ∷ [])

  module _ (before taken : List PortIdentity) (known : before ≡ identities earlier) (claimed : taken ≡ before ++ option_to_list (identity_of node.kind)) where
    -- the identities that are taken, as `admit` needs them for the next node
    pub identities-admitted : taken ≡ identities (values_of entries)
    identities-admitted =
        claimed ∙ ap (λ xs. xs ++ option_to_list (identity_of node.kind)) known ∙ sym (identities-push earlier node) ∙ sym (ap identities values_of-admitted)

    -- distinct keys and distinct identities make the index of a network
    pub IsIndex-admitted : IsDistinct bytes_eq (keys_of entries) → (AllDiffer before → AllDiffer taken) → IsIndex entries
    IsIndex-admitted distinct apart =
        let keys : keys_of entries ≡ names (values_of entries) =
        ap keys_of at_names ∙ keys_of-entries_of (earlier ++ node ∷ []) ∙ sym (ap names values_of-admitted) in
        let before_apart : AllDiffer before = subst AllDiffer (ap identities is_earlier ∙ sym known) index.network.identities in
        record {
          at_names = at_names ∙ sym (ap entries_of values_of-admitted);
          network = record {
            names = subst AllDiffer keys (AllPairs-from_IsDistinct bytes_eq-Decides (keys_of entries) distinct);
            identities = subst AllDiffer identities-admitted (apart before_apart);
          };
        }
