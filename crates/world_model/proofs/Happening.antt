-- A world after one more event.
use Rattle.std.proofs.Common.{◌≡◌, ◌∙◌, ℕ, zero, suc, ◌<◌, true, List, [], ◌∷◌, ◌++◌, length, slice_get, slice_set, slice_index_or, Option, Some, None, Result, is_some, option_map, sym, ap, refl, subst, arith}
use Rattle.network_model.specs.declared.event.Event.{Event}
use Rattle.network_model.specs.declared.node.NodeSpec.{NodeSpec}
use Rattle.network_model.specs.declared.refusal.WorldRefusal.{WorldRefusal}
use Rattle.network_model.specs.Network.{Network, NodeName, node_of}
use Rattle.network_model.specs.Run.{Run, site_of}
use Rattle.network_model.specs.Outcome.{IsStepped}
use Rattle.world_model.specs.Inner.Stands.{Entry}
use Rattle.world_model.specs.declared.entry.Happened.{Happened}
use Rattle.world_model.specs.declared.station.Station.{Station}
use Rattle.world_model.specs.Inner.Stands.{run_of, Keeps, Stands, AllStand, IsWorld}
use Rattle.world_model.specs.Inner.Acts.{Brings, Answers, ActsIn, entries_after}
use Rattle.network_model.proofs.Networks.{named_so}
use Rattle.world_model.proofs.Stations.{AllStand-after}
use Rattle.world_model.proofs.Entries.{run_of-after, Keeps-after}

-- the node of a name, and its place
pub record Found (network : Network) (name : NodeName) (index : ℕ) : Type 0 where
  pub node : NodeSpec
  pub at : slice_get network index ≡ Some node
  pub is : node_of network name ≡ Some node

pub found : (network : Network) (name : NodeName) (index : ℕ) → slice_get network index ≡ node_of network name → true ≡ is_some (node_of network name)
    → Found network name index
found network name index at some = by_node (node_of network name) refl some
  where
    by_node : (node : Option NodeSpec) → node_of network name ≡ node → true ≡ is_some node → Found network name index
    by_node None is there = absurd (cc)
    by_node (Some node) is there = record { node = node; at = at ∙ is; is = is }

-- what an index reads
pub reads_at : {X : Type 0} (xs : List X) (i : ℕ) (x : X) → i < length xs → x ≡ slice_index_or xs i x → slice_get xs i ≡ Some x
reads_at [] i x less same = absurd (omega arith)
reads_at (y ∷ ys) zero x less same = ap Some (sym same)
reads_at (y ∷ ys) (suc i) x less same = reads_at ys i x (omega arith) same

set_same : {X : Type 0} (xs : List X) (i : ℕ) (x : X) → x ≡ slice_index_or xs i x → slice_set xs i x ≡ xs
set_same [] i x same = refl
set_same (y ∷ ys) zero x same = ap (λ z. z ∷ ys) same
set_same (y ∷ ys) (suc i) x same = ap (λ rest. y ∷ rest) (set_same ys i x same)

module _ (network : Network) (event : Event) (stations : List Station) (entries : List Entry) (world : IsWorld network stations entries)
    (name : NodeName) (is_site : name ≡ site_of event) (index : ℕ) (here : Found network name index)
    (less : index < length stations) (old new : Station) (is_old : old ≡ slice_index_or stations index old) (HasRoom : Type 0) where
  named_here : here.node.name ≡ site_of event
  named_here = named_so network name here.node here.is ∙ is_site

  stood : Stands network (run_of entries) (site_of event) here.node.kind old
  stood = subst (λ (n : NodeName). Stands network (run_of entries) n here.node.kind old) named_here
      (world.nodes.each index here.node old here.at (reads_at stations index old less is_old))

  -- what comes of the event
  pub answered : (result : Result Happened WorldRefusal) → ActsIn network event entries old new HasRoom result
      → Answers network (run_of entries) event HasRoom (Stands network (event ∷ run_of entries) (site_of event) here.node.kind new) (new ≡ old) result
  answered result acts =
      acts (run_of entries) here.node.kind
      (ap (option_map (λ (n : NodeSpec). n.kind)) (ap (node_of network) (sym is_site) ∙ here.is)) stood world.events

  pub done-world : (happened : Happened) → Brings network (run_of entries) event (Stands network (event ∷ run_of entries) (site_of event) here.node.kind new) happened
      → IsWorld network (slice_set stations index new) (entries_after event entries ++ (record { event = event; left = happened.left }) ∷ [])
  done-world happened brings = record {
    apart = world.apart;
    nodes = subst (λ (run : Run). AllStand network run (slice_set stations index new)) (sym (run_of-after event entries happened.left))
        (AllStand-after network world.apart (run_of entries) event stations world.nodes index here.node here.at named_here new brings.stands);
    events = subst (λ (run : Run). Keeps network run (entries_after event entries ++ (record { event = event; left = happened.left }) ∷ [])) (sym (run_of-after event entries happened.left))
        (Keeps-after network (run_of entries) event entries _ happened world.events brings);
  }

  pub done-stepped : (happened : Happened) → Brings network (run_of entries) event (Stands network (event ∷ run_of entries) (site_of event) here.node.kind new) happened
      → IsStepped network (run_of entries) event (record { tag = length entries; reading = happened.reading; outcome = happened.outcome })
  done-stepped happened brings = record { tag = sym world.events.count; reading = brings.read; outcome = brings.outcome }

  pub refused-world : new ≡ old → IsWorld network (slice_set stations index new) entries
  refused-world same = subst (λ (ss : List Station). IsWorld network ss entries) (sym (ap (slice_set stations index) same ∙ set_same stations index old is_old)) world
