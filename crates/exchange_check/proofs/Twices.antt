-- The stay that was left twice first, by what is kept: one stay after the other, and all of them.
use Rattle.std.proofs.Common.{◌≡◌, ◌∙◌, ℕ, zero, suc, ◌+◌, ◌<◌, Bool, true, false, cond, Option, Some, None}
use Rattle.std.proofs.Common.{refl, sym, ap, arith}
use Rattle.std.specs.Prelude.{nat_lt, option_map, option_and_then}
use Rattle.std.specs.Option.{option_map_or}
use Rattle.std.proofs.lemmas.Bool.{ltb-true}
use Rattle.std.proofs.lemmas.Bool.Decides.{nat_tests}
use Rattle.std.proofs.lemmas.Option.{none-some, same_Some}
use Rattle.network_model.specs.Kinds.{entered_copy}
use Rattle.trace_model.specs.Sound.{where_passes}
use Rattle.exchange_check.specs.declared.exchange.Stay.{Stay}
use Rattle.exchange_check.specs.declared.way_finding.Twice.{Twice}
use Rattle.exchange_check.specs.Evidence.{Table}
use Rattle.exchange_check.specs.Inner.Kept.{Facts}
use Rattle.exchange_check.specs.Inner.Telling.{last_stay_by}
use Rattle.exchange_check.specs.Inner.WayFinding.{stay_before, twice_at, earlier_twice, first_twice_of, first_twice}

pub earlier-none : (one : Option Twice) → earlier_twice one None ≡ one
earlier-none None = refl
earlier-none (Some one) = refl

pub earlier-assoc : (a b c : Option Twice)
    → earlier_twice (earlier_twice a b) c ≡ earlier_twice a (earlier_twice b c)
earlier-assoc None b c = refl
earlier-assoc (Some a) None c = refl
earlier-assoc (Some a) (Some b) None = earlier-none (earlier_twice (Some a) (Some b))
earlier-assoc (Some a) (Some b) (Some c) = by (nat_lt b.second a.second) refl (nat_lt c.second b.second) refl
  where
    by : (t : Bool) → nat_lt b.second a.second ≡ t → (u : Bool) → nat_lt c.second b.second ≡ u
        → earlier_twice (cond t (Some b) (Some a)) (Some c) ≡ earlier_twice (Some a) (cond u (Some c) (Some b))
    by true p true q =
        let below : nat_lt c.second a.second ≡ true = grind (arith, nat_tests) in
        (λ i. cond (q i) (Some c) (Some b)) ∙ sym (λ i. cond (below i) (Some c) (Some a))
    by true p false q = (λ i. cond (q i) (Some c) (Some b)) ∙ sym (λ i. cond (p i) (Some b) (Some a))
    by false p true q = refl
    by false p false q =
        let above : nat_lt c.second a.second ≡ false = grind (arith, nat_tests) in
        (λ i. cond (above i) (Some c) (Some a)) ∙ sym (λ i. cond (p i) (Some b) (Some a))

module _ (facts : Facts) (seconds : Table ℕ) where
  -- of the last stay, and of those before it
  abbrev pub with_rest : (ℕ → Option Twice) → Option (ℕ × ℕ) → Option Twice
  with_rest rest o = option_map_or (λ stay. earlier_twice (twice_at seconds stay.0) (rest stay.1)) o None

  pub first_twice_of-suc : (count copy : ℕ) → first_twice_of facts seconds (suc count) copy
      ≡ with_rest (first_twice_of facts seconds count) (stay_before facts copy)
  unfolding first_twice_of
  first_twice_of-suc count copy = refl

  before_low : (copy : ℕ) (s : ℕ × ℕ) → stay_before facts copy ≡ Some s → s.1 < copy
  before_low copy s h = by (last_stay_by facts copy) h
    where
      test : (b : Bool) (number before : ℕ) → nat_lt before copy ≡ b
          → option_map (λ (n : ℕ). (number, n)) (cond b (Some before) None) ≡ Some s → s.1 < copy
      test true number before small e =
          let low : before < copy = ltb-true before copy small in
          let same : before ≡ s.1 = ap (λ (p : ℕ × ℕ). p.1) (same_Some _ _ e) in
          omega (arith, low, same)
      test false number before small e = absurd (none-some s e)

      at : (number : ℕ) (o : Option ℕ)
          → option_map (λ (n : ℕ). (number, n)) (where_passes (λ (n : ℕ). nat_lt n copy) o) ≡ Some s → s.1 < copy
      at number None e = absurd (none-some s e)
      at number (Some before) e = test (nat_lt before copy) number before refl e

      by : (o : Option Stay) → option_and_then (λ (stay : Stay). option_map (λ (n : ℕ). (stay.entered.number, n))
          (where_passes (λ (n : ℕ). nat_lt n copy) (entered_copy stay.entered.event))) o ≡ Some s → s.1 < copy
      by None e = absurd (none-some s e)
      by (Some stay) e = at stay.entered.number (entered_copy stay.entered.event) e

  -- of enough last stays it is that of all
  agree : (a b copy : ℕ) → copy < a → copy < b → first_twice_of facts seconds a copy ≡ first_twice_of facts seconds b copy
  agree zero b copy one other = absurd (omega arith)
  agree (suc a) zero copy one other = absurd (omega arith)
  agree (suc a) (suc b) copy one other =
      first_twice_of-suc a copy ∙ by (stay_before facts copy) refl (λ rest. agree a b rest) ∙ sym (first_twice_of-suc b copy)
    where
      by : (o : Option (ℕ × ℕ)) → stay_before facts copy ≡ o
          → ((rest : ℕ) → rest < a → rest < b → first_twice_of facts seconds a rest ≡ first_twice_of facts seconds b rest)
          → with_rest (first_twice_of facts seconds a) o ≡ with_rest (first_twice_of facts seconds b) o
      by None is before = refl
      by (Some s) is before =
          let low : s.1 < copy = before_low copy s is in
          ap (earlier_twice (twice_at seconds s.0)) (before s.1 (omega (arith, low, one)) (omega (arith, low, other)))

  more : (copy : ℕ) → first_twice facts seconds copy
      ≡ with_rest (first_twice_of facts seconds copy) (stay_before facts copy)
  more copy =
      let one_more : copy + 1 ≡ suc copy = omega arith in
      ap (λ (n : ℕ). first_twice_of facts seconds n copy) one_more ∙ first_twice_of-suc copy copy

  pub first-none : (copy : ℕ) → stay_before facts copy ≡ None → first_twice facts seconds copy ≡ None
  first-none copy is = more copy ∙ ap (with_rest (first_twice_of facts seconds copy)) is

  pub first-some : (copy entered before : ℕ) → stay_before facts copy ≡ Some (entered, before)
      → first_twice facts seconds copy ≡ earlier_twice (twice_at seconds entered) (first_twice facts seconds before)
  first-some copy entered before is =
      let low : before < copy = before_low copy (entered, before) is in
      more copy ∙ ap (with_rest (first_twice_of facts seconds copy)) is
      ∙ ap (earlier_twice (twice_at seconds entered)) (agree copy (before + 1) before low (omega arith))

  -- of the stays that are left to look at, after one more
  pub one-looked : (first : Option Twice) (at entered before : ℕ) → stay_before facts at ≡ Some (entered, before)
      → earlier_twice (earlier_twice first (twice_at seconds entered)) (first_twice facts seconds before)
      ≡ earlier_twice first (first_twice facts seconds at)
  one-looked first at entered before is =
      earlier-assoc first (twice_at seconds entered) (first_twice facts seconds before)
      ∙ sym (ap (earlier_twice first) (first-some at entered before is))

  -- and where there are none
  pub all-looked : (first : Option Twice) (at : ℕ) → stay_before facts at ≡ None
      → first ≡ earlier_twice first (first_twice facts seconds at)
  all-looked first at is = sym (ap (earlier_twice first) (first-none at is) ∙ earlier-none first)
