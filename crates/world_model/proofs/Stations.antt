-- All nodes after an event of one of them.
use Rattle.std.proofs.Common.{◌≡◌, ◌≢◌, ◌∙◌, ℕ, zero, suc, ◌<◌, ◌⊎◌, inl, inr, ⊎_elim, Bool, true, false, List, [], ◌∷◌, ◌++◌, ◌==◌, if◌then◌else◌, length, slice_get, slice_set, Option, Some, None, IsSome, is_some, option_copied, Bor, refl, sym, ap, subst, arith}
use Rattle.std.proofs.lemmas.Bool.{cases_lt}
use Rattle.std.proofs.lemmas.Bool.Decides.{nat_tests}
use Rattle.std.proofs.lemmas.Slice.Eq.{bytes_eq-Decides}
use Rattle.network_model.specs.declared.event.Event.{Event}
use Rattle.network_model.specs.declared.node.NodeSpec.{NodeSpec}
use Rattle.network_model.specs.Network.{Network, NodeName, IsNetwork, is_named}
use Rattle.network_model.specs.Run.{Run, site_of}
use Rattle.network_model.proofs.Networks.{names_differ}
use Rattle.world_model.specs.declared.station.Station.{Station}
use Rattle.world_model.specs.Inner.Stands.{Stands, EachStands, AllStand}
use Rattle.world_model.proofs.Entries.{get-push}
use Rattle.world_model.proofs.Elsewhere.{Stands-elsewhere}

module _ {X : Type 0} where
  length-set : (xs : List X) (i : ℕ) (x : X) → length (slice_set xs i x) ≡ length xs
  length-set [] i x = refl
  length-set (y ∷ ys) zero x = refl
  length-set (y ∷ ys) (suc i) x = ap suc (length-set ys i x)

  get-set-same : (xs : List X) (i : ℕ) (x y : X) → slice_get (slice_set xs i x) i ≡ Some y → y ≡ x
  get-set-same [] i x y there = cc
  get-set-same (z ∷ zs) zero x y there = cc
  get-set-same (z ∷ zs) (suc i) x y there = get-set-same zs i x y there

  get-set-other : (xs : List X) (i j : ℕ) (x : X) → j ≢ i → slice_get (slice_set xs i x) j ≡ slice_get xs j
  get-set-other [] i j x differ = refl
  get-set-other (z ∷ zs) zero zero x differ = absurd (differ refl)
  get-set-other (z ∷ zs) zero (suc j) x differ = refl
  get-set-other (z ∷ zs) (suc i) zero x differ = refl
  get-set-other (z ∷ zs) (suc i) (suc j) x differ = get-set-other zs i j x (λ same. differ (ap suc same))

-- a place that is there
pub is_there : {X : Type 0} (xs : List X) (i : ℕ) → i < length xs → IsSome (slice_get xs i)
is_there [] i less = absurd (omega arith)
is_there (x ∷ xs) zero less = refl
is_there (x ∷ xs) (suc i) less = is_there xs i (omega arith)

-- a reference to what is there
pub is_lent : {X : Type 0} (lent : Option (Bor X)) (there : Option X) → option_copied lent ≡ there → IsSome there → IsSome lent
is_lent None there same some = let e : is_some there ≡ false = sym (ap is_some same) in absurd (cc)
is_lent (Some x) there same some = refl

one_place : (i j : ℕ) → (i ≡ j) ⊎ ((i < j) ⊎ (j < i))
one_place i j = ⊎_elim (λ less. inr (inl less)) (λ least. ⊎_elim (λ more. inr (inr more)) (λ most. inl (omega arith)) (cases_lt j i)) (cases_lt i j)

not_named : (a b : NodeName) → a ≢ b → is_named a b ≡ false
not_named a b differ = by_test (is_named a b) refl
  where
    by_test : (test : Bool) → is_named a b ≡ test → test ≡ false
    by_test true same = absurd (differ ((bytes_eq-Decides a b).0 same))
    by_test false same = refl

module _ (network : Network) (apart : IsNetwork network) (run : Run) (event : Event) (stations : List Station) (all : AllStand network run stations)
    (index : ℕ) (node : NodeSpec) (at : slice_get network index ≡ Some node) (name : node.name ≡ site_of event)
    (new : Station) (stands : Stands network (event ∷ run) (site_of event) node.kind new) where
  elsewhere : (i : ℕ) (other : NodeSpec) → slice_get network i ≡ Some other → i ≢ index → is_named (site_of event) other.name ≡ false
  elsewhere i other there differ = not_named (site_of event) other.name (λ same. ⊎_elim (λ e. differ e)
      (λ order. ⊎_elim (λ less. names_differ network apart.names i index other node there at less (sym same ∙ sym name))
      (λ less. names_differ network apart.names index i node other at there less (name ∙ same)) order)
      (one_place i index))

  each : (i : ℕ) (other : NodeSpec) (station : Station) → slice_get network i ≡ Some other → slice_get (slice_set stations index new) i ≡ Some station
      → Stands network (event ∷ run) other.name other.kind station
  each i other station there put = by_place (one_place i index)
    where
      here : i ≡ index → Stands network (event ∷ run) other.name other.kind station
      here e =
          let at_index : slice_get (slice_set stations index new) index ≡ Some station = ap (slice_get (slice_set stations index new)) (sym e) ∙ put in
          let is_new : station ≡ new = get-set-same stations index new station at_index in
          let both : Some node ≡ Some other = sym at ∙ ap (slice_get network) (sym e) ∙ there in
          let is_node : node ≡ other = cc in
          subst (λ (s : Station). Stands network (event ∷ run) other.name other.kind s) (sym is_new)
          (subst (λ (n : NodeSpec). Stands network (event ∷ run) n.name n.kind new) is_node
          (subst (λ (n : NodeName). Stands network (event ∷ run) n node.kind new) (sym name) stands))

      there_else : i ≢ index → Stands network (event ∷ run) other.name other.kind station
      there_else differ =
          Stands-elsewhere event run other.name (elsewhere i other there differ) network other.kind station
          (all.each i other station there (sym (get-set-other stations index i new differ) ∙ put))

      by_place : (i ≡ index) ⊎ ((i < index) ⊎ (index < i)) → Stands network (event ∷ run) other.name other.kind station
      by_place (inl e) = here e
      by_place (inr order) = there_else (omega arith)

  -- all nodes stand after an event of one of them, if that one does
  pub AllStand-after : AllStand network (event ∷ run) (slice_set stations index new)
  AllStand-after = record { count = length-set stations index new ∙ all.count; each = each }

-- one more station after those before it
pub EachStands-push : (network : Network) (run : Run) (stations : List Station) (node : NodeSpec) (station : Station)
    → EachStands network run stations → slice_get network (length stations) ≡ Some node → Stands network run node.name node.kind station
    → EachStands network run (stations ++ station ∷ [])
EachStands-push network run stations node station each next stands i other found at put =
    by_test (length stations == i) refl (sym (get-push stations station i) ∙ put)
  where
    by_test : (b : Bool) → (length stations == i) ≡ b → (if b then Some station else slice_get stations i) ≡ Some found → Stands network run other.name other.kind found
    by_test true same there =
        let e : length stations ≡ i = grind (arith, nat_tests) in
        let nodes : Some node ≡ Some other = sym next ∙ ap (slice_get network) e ∙ at in
        let is_node : node ≡ other = cc in
        let is_station : station ≡ found = cc in
        subst (λ (n : NodeSpec). Stands network run n.name n.kind found) is_node (subst (Stands network run node.name node.kind) is_station stands)
    by_test false same there = each i other found at there
