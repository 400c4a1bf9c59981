-- Tests by which a network, and the events of a run, are seen to be accepted.
use Rattle.std.proofs.Common.{◌≡◌, Bool, true, false, List, [], ◌∷◌, refl}
use Rattle.std.specs.Prelude.{◌&&◌, not, is_ok}
use Rattle.std.specs.List.{IsDistinct, AllByRecursion, list_all}
use Rattle.std.specs.Str.{bytes_eq}
use Rattle.std.proofs.lemmas.Map.Made.{AllPairs-from_IsDistinct}
use Rattle.std.proofs.lemmas.Slice.Eq.{bytes_eq-Decides}
use Rattle.event_codec.specs.Port.{is_same_port}
use Rattle.network_model.specs.Network.{Network, IsNetwork, names, identities}
use Rattle.network_model.specs.Run.{Run}
use Rattle.network_model.specs.Outcome.{outcome_of, IsRun}
use Rattle.network_model.proofs.Networks.{AllDiffer-identities}

-- no member is equal to a later one
abbrev pub are_distinct : {K : Type 0} → (K → K → Bool) → List K → Bool
are_distinct eq [] = true
are_distinct eq (k ∷ others) = list_all (λ other. not (eq k other)) others && are_distinct eq others

both : (a b : Bool) → (a && b) ≡ true → (a ≡ true) × (b ≡ true)
both true b h = (refl, h)
both false b h = absurd (cc)

neither : (a b : Bool) → (not a && b) ≡ true → (a ≡ false) × (b ≡ true)
neither true b h = absurd (cc)
neither false b h = (refl, h)

none_equal : {K : Type 0} (eq : K → K → Bool) (k : K) (others : List K)
    → list_all (λ other. not (eq k other)) others ≡ true → AllByRecursion (λ other. eq k other ≡ false) others
none_equal eq k [] h = tt
none_equal eq k (other ∷ others) h =
    let differ = neither (eq k other) (list_all (λ o. not (eq k o)) others) h in
    (differ.0, none_equal eq k others differ.1)

IsDistinct-test : {K : Type 0} (eq : K → K → Bool) (ks : List K) → are_distinct eq ks ≡ true → IsDistinct eq ks
unfolding IsDistinct
IsDistinct-test eq [] h = tt
IsDistinct-test eq (k ∷ others) h =
    let parts = both (list_all (λ other. not (eq k other)) others) (are_distinct eq others) h in
    (none_equal eq k others parts.0, IsDistinct-test eq others parts.1)

-- no two names and no two identities are equal
pub IsNetwork-test : (nodes : Network) → are_distinct bytes_eq (names nodes) ≡ true → are_distinct is_same_port (identities nodes) ≡ true → IsNetwork nodes
IsNetwork-test nodes of_names of_identities = record {
  names = AllPairs-from_IsDistinct bytes_eq-Decides (names nodes) (IsDistinct-test bytes_eq (names nodes) of_names);
  identities = AllDiffer-identities (identities nodes) (IsDistinct-test is_same_port (identities nodes) of_identities);
}

-- every event has an outcome
abbrev pub accepts : Network → Run → Bool
accepts network [] = true
accepts network (event ∷ earlier) = is_ok (outcome_of network earlier event) && accepts network earlier

pub IsRun-test : (network : Network) (run : Run) → accepts network run ≡ true → IsRun network run
IsRun-test network [] h = tt
IsRun-test network (event ∷ earlier) h =
    let parts = both (is_ok (outcome_of network earlier event)) (accepts network earlier) h in
    (parts.0, IsRun-test network earlier parts.1)
