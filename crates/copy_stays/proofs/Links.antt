-- How many copies have another after them, and copies that have none kept.
use Rattle.std.proofs.Common.{◌≡◌, ℕ, zero, suc, ◌+◌, ◌<◌, ◌≤◌, Bool, true, false, cond}
use Rattle.std.proofs.Common.{eqb, List, [], ◌∷◌, ◌++◌, length, refl, ap, arith}
use Rattle.std.specs.Prelude.{is_some}
use Rattle.std.proofs.lemmas.Bool.{eqb-true}
use Rattle.std.proofs.lemmas.Bool.Decides.{nat_tests}
use Rattle.copy_stays.specs.declared.stays.CopyState.{CopyState}
use Rattle.copy_stays.specs.Stays.{CopyStates, root, state_in}
use Rattle.copy_stays.specs.Inner.Steps.{with_state}

abbrev pub link : CopyState → ℕ
link state = cond (is_some state.next) 1 0

abbrev pub links : CopyStates → ℕ → ℕ
links states zero = 0
links states (suc n) = link (states n) + links states n

links_past : (states : CopyStates) (i : ℕ) (v : CopyState) (n : ℕ) → n ≤ i
    → links (with_state i v states) n ≡ links states n
links_past states i v zero h = refl
links_past states i v (suc n) h =
    let apart : eqb i n ≡ false = grind (arith, nat_tests) in
    λ j. link (cond (apart j) v (states n)) + links_past states i v n (omega (arith, h)) j

-- with what is kept of one copy replaced
pub links_with : (states : CopyStates) (i : ℕ) (v : CopyState) (n : ℕ) → i < n
    → links (with_state i v states) n + link (states i) ≡ links states n + link v
links_with states i v zero h = absurd (omega (arith, h))
links_with states i v (suc n) h = by (eqb i n) refl (links_with states i v n)
  where
    by : (b : Bool) → eqb i n ≡ b
        → (i < n → links (with_state i v states) n + link (states i) ≡ links states n + link v)
        → (link (cond b v (states n)) + links (with_state i v states) n) + link (states i)
        ≡ (link (states n) + links states n) + link v
    by true e before =
        let same : i ≡ n = eqb-true i n e in
        let past : links (with_state i v states) n ≡ links states n =
        links_past states i v n (omega (arith, same)) in
        let at : link (states i) ≡ link (states n) = ap (λ (x : ℕ). link (states x)) same in
        omega (arith, past, at)
    by false e before =
        let apart : i < n = grind (arith, nat_tests) in
        let rest : links (with_state i v states) n + link (states i) ≡ links states n + link v = before apart in
        omega (arith, rest)

-- a copy that has depth is kept
pub deep_within : (items : List CopyState) (n : ℕ) → 0 < (state_in items n).depth → n < length items
deep_within [] n h = absurd (omega (arith, h))
deep_within (x ∷ items) zero h = omega arith
deep_within (x ∷ items) (suc n) h = let rest : n < length items = deep_within items n h in omega (arith, rest)

pub push_root : (items : List CopyState) → state_in (items ++ root ∷ []) ≡ state_in items
push_root items = λ i n. at items n i
  where
    at : (l : List CopyState) (n : ℕ) → state_in (l ++ root ∷ []) n ≡ state_in l n
    at [] zero = refl
    at [] (suc n) = refl
    at (x ∷ l) zero = refl
    at (x ∷ l) (suc n) = at l n
