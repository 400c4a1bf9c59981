-- Runs of the order, after a copy was put into it or taken out of it.
use Rattle.std.proofs.Common.{◌≡◌, ◌∙◌, ℕ, ◌+◌, ◌<◌, ◌≤◌, Bool, true, false, eqb, List}
use Rattle.std.proofs.Common.{[], ◌∷◌, Option, Some, None, refl, sym, ap, subst, arith}
use Rattle.std.proofs.lemmas.Bool.{eqb-true, eqb-false}
use Rattle.std.proofs.lemmas.Option.{same_Some, none-some}
use Rattle.copy_stays.specs.Stays.{IsStretch, Stretch}

-- a run of deeper copies is one of less deep copies
pub weaker : (depth : ℕ → ℕ) (next : ℕ → Option ℕ) (above lower : ℕ) → lower ≤ above
    → (l : List ℕ) (from : Option ℕ) (to : ℕ)
    → IsStretch depth next above from l to → IsStretch depth next lower from l to
weaker depth next above lower fits [] from to h = h
weaker depth next above lower fits (x ∷ l) from to h =
    let d : above < depth x = h.1 in
    (h.0, omega (arith, d, fits), weaker depth next above lower fits l (next x) to h.2)

-- no run leads on from a copy that isn't deep enough
pub no_run : (depth : ℕ → ℕ) (next : ℕ → Option ℕ) (above y to : ℕ) → depth y ≤ above → above < depth to
    → (l : List ℕ) → IsStretch depth next above (Some y) l to → ⊥
no_run depth next above y to shallow deep [] h =
    let e : depth y ≡ depth to = ap depth (same_Some _ _ h) in
    absurd (omega (arith, e, shallow, deep))
no_run depth next above y to shallow deep (x ∷ l) h =
    let e : depth y ≡ depth x = ap depth (same_Some _ _ h.0) in
    let d : above < depth x = h.1 in
    absurd (omega (arith, e, shallow, d))

pub ends_nowhere : (depth : ℕ → ℕ) (next : ℕ → Option ℕ) (above to : ℕ) → (l : List ℕ)
    → IsStretch depth next above None l to → ⊥
ends_nowhere depth next above to [] h = none-some to h
ends_nowhere depth next above to (x ∷ l) h = none-some x h.0

-- the copy before the end of a run is deeper than what the run is above
pub before_run : (depth : ℕ → ℕ) (next : ℕ → Option ℕ) (c y : ℕ) → next c ≡ Some y
    → ((one other n : ℕ) → next one ≡ Some n → next other ≡ Some n → one ≡ other)
    → (above : ℕ) (l : List ℕ) (from : Option ℕ) → IsStretch depth next above from l y
    → (from ≡ Some y → above < depth c) → above < depth c
before_run depth next c y follows one above [] from h k = k h
before_run depth next c y follows one above (x ∷ l) from h k =
    before_run depth next c y follows one above l (next x) h.2
    (λ e. subst (λ (a : ℕ). above < depth a) (one x c y e follows) h.1)

-- a copy without depth is on no run
pub run_past : (depth : ℕ → ℕ) (next after : ℕ → Option ℕ) (n : ℕ) → depth n ≡ 0
    → ((x : ℕ) → eqb n x ≡ false → after x ≡ next x)
    → (above : ℕ) (l : List ℕ) (from : Option ℕ) (to : ℕ) → IsStretch depth next above from l to
    → IsStretch depth after above from l to
run_past depth next after n flat others above [] from to h = h
run_past depth next after n flat others above (x ∷ l) from to h =
    (h.0, h.1, rest (eqb n x) refl (run_past depth next after n flat others above l (next x) to h.2))
  where
    rest : (b : Bool) → eqb n x ≡ b → IsStretch depth after above (next x) l to
        → IsStretch depth after above (after x) l to
    rest true e past =
        let d : above < depth x = h.1 in
        let same : depth n ≡ depth x = ap depth (eqb-true n x e) in
        absurd (omega (arith, d, same, flat))
    rest false e past = subst (λ (o : Option ℕ). IsStretch depth after above o l to) (sym (others x e)) past

-- n is put after p
module _ (depth later : ℕ → ℕ) (next after : ℕ → Option ℕ) (p n : ℕ) (fresh : depth n ≡ 0)
    (depth_p : later p ≡ depth p) (depth_n : later n ≡ depth p + 1)
    (next_p : after p ≡ Some n) (next_n : after n ≡ next p)
    (others : (x : ℕ) → eqb p x ≡ false → eqb n x ≡ false → (later x ≡ depth x) × (after x ≡ next x)) where
  through_p : (above x to : ℕ) (from : Option ℕ) → p ≡ x → Stretch later after above (next x) to → from ≡ Some x
      → above < depth x → Stretch later after above from to
  through_p above x to from e rest f d =
      let same : depth p ≡ depth x = ap depth e in
      record {
        through = p ∷ n ∷ rest.through;
        leads = (
          f ∙ ap Some (sym e),
          omega (arith, d, same, depth_p),
          (
            next_p,
            omega (arith, d, same, depth_n),
            subst (λ (o : Option ℕ). IsStretch later after above o rest.through to)
                (sym (next_n ∙ ap next e)) rest.leads,
          ),
        );
      }

  through_other : (above x to : ℕ) (from : Option ℕ) → eqb p x ≡ false → (b : Bool) → eqb n x ≡ b
      → Stretch later after above (next x) to → from ≡ Some x → above < depth x → Stretch later after above from to
  through_other above x to from apart true e rest f d =
      let same : depth n ≡ depth x = ap depth (eqb-true n x e) in
      absurd (omega (arith, d, same, fresh))
  through_other above x to from apart false e rest f d =
      let o = others x apart e in
      let deep : later x ≡ depth x = o.0 in
      record {
        through = x ∷ rest.through;
        leads = (
          f,
          omega (arith, d, deep),
          subst (λ (o : Option ℕ). IsStretch later after above o rest.through to)
              (sym o.1) rest.leads,
        );
      }

  pub grown_run : (above : ℕ) (l : List ℕ) (from : Option ℕ) (to : ℕ) → IsStretch depth next above from l to
      → Stretch later after above from to
  grown_run above [] from to h = record { through = []; leads = h }
  grown_run above (x ∷ l) from to h = by (eqb p x) refl (grown_run above l (next x) to h.2)
    where
      by : (b : Bool) → eqb p x ≡ b → Stretch later after above (next x) to → Stretch later after above from to
      by true e rest = through_p above x to from (eqb-true p x e) rest h.0 h.1
      by false e rest = through_other above x to from e (eqb n x) refl rest h.0 h.1

-- y is taken out after c
module _ (depth : ℕ → ℕ) (next after : ℕ → Option ℕ) (c y : ℕ) (follows : next c ≡ Some y) (deeper : depth c < depth y)
    (one_before : (one other n : ℕ) → next one ≡ Some n → next other ≡ Some n → one ≡ other)
    (next_c : after c ≡ next y) (others : (x : ℕ) → eqb c x ≡ false → eqb y x ≡ false → after x ≡ next x) where
  pub not_itself : next y ≡ Some y → ⊥
  not_itself h =
      let e : depth y ≡ depth c = ap depth (one_before y c y h follows) in
      absurd (omega (arith, e, deeper))

  not_y : (x : ℕ) (from : Option ℕ) (b : Bool) → eqb y x ≡ b → from ≡ Some x → (from ≡ Some y → ⊥) → eqb y x ≡ false
  not_y x from true e f apart = absurd (apart (f ∙ ap Some (sym (eqb-true y x e))))
  not_y x from false e f apart = e

  put : (above x to : ℕ) (from : Option ℕ) → from ≡ Some x → above < depth x → eqb c x ≡ false → eqb y x ≡ false
      → Stretch depth after above (next x) to → Stretch depth after above from to
  put above x to from f d at_c at_y rest = record {
    through = x ∷ rest.through;
    leads = (
      f,
      d,
      subst (λ (o : Option ℕ). IsStretch depth after above o rest.through to)
          (sym (others x at_c at_y)) rest.leads,
    );
  }

  put_c : (above x to : ℕ) (from : Option ℕ) → from ≡ Some x → above < depth x → c ≡ x
      → Stretch depth after above (next y) to → Stretch depth after above from to
  put_c above x to from f d e rest = record {
    through = x ∷ rest.through;
    leads = (
      f,
      d,
      subst (λ (o : Option ℕ). IsStretch depth after above o rest.through to)
          (sym (ap after (sym e) ∙ next_c)) rest.leads,
    );
  }

  apart_from : (x : ℕ) → eqb c x ≡ false → next x ≡ Some y → ⊥
  apart_from x at_c h =
      let e : eqb x x ≡ false = subst (λ (a : ℕ). eqb a x ≡ false) (sym (one_before x c y h follows)) at_c in
      eqb-false x x e refl

  pub shrunk_run : (above : ℕ) (l : List ℕ) (from : Option ℕ) (to : ℕ) → IsStretch depth next above from l to
      → (from ≡ Some y → ⊥) → (to ≡ y → ⊥) → Stretch depth after above from to
  shrunk_run above [] from to h apart other = record { through = []; leads = h }
  shrunk_run above (x ∷ []) from to h apart other = by (eqb c x) refl
    where
      by : (b : Bool) → eqb c x ≡ b → Stretch depth after above from to
      by true e = absurd (other (same_Some to y (sym h.2 ∙ ap next (sym (eqb-true c x e)) ∙ follows)))
      by false e = put above x to from h.0 h.1 e (not_y x from (eqb y x) refl h.0 apart)
          (record { through = []; leads = h.2 })
  shrunk_run above (x ∷ z ∷ l) from to h apart other =
      by (eqb c x) refl
      (λ past. shrunk_run above l (next y) to past not_itself other)
      (λ past. shrunk_run above (z ∷ l) (next x) to h.2 past other)
    where
      by : (b : Bool) → eqb c x ≡ b
          → (IsStretch depth next above (next y) l to → Stretch depth after above (next y) to)
          → ((next x ≡ Some y → ⊥) → Stretch depth after above (next x) to)
          → Stretch depth after above from to
      by true e after_y after_x =
          let same : z ≡ y = same_Some z y (sym h.2.0 ∙ ap next (sym (eqb-true c x e)) ∙ follows) in
          put_c above x to from h.0 h.1 (eqb-true c x e)
          (after_y (subst (λ (a : ℕ). IsStretch depth next above (next a) l to) same h.2.2))
      by false e after_y after_x =
          put above x to from h.0 h.1 e (not_y x from (eqb y x) refl h.0 apart) (after_x (apart_from x e))
