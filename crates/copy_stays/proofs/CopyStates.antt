-- What is kept of copies, after one more copy and after a stay was left again.
use Rattle.std.proofs.Common.{◌≡◌, ◌∙◌, ℕ, ◌+◌, ◌<◌, ◌≤◌, Bool, true, false, ◌&&◌, cond, eqb, List, []}
use Rattle.std.proofs.Common.{◌∷◌, Option, Some, None, ◌⊎◌, inl, inr, refl, sym, ap, subst, arith}
use Rattle.std.specs.Prelude.{is_some, option_map, IfSome}
use Rattle.std.proofs.lemmas.Bool.{true≢false, eqb-true, eq-eqb}
use Rattle.std.proofs.lemmas.Bool.Decides.{nat_tests}
use Rattle.std.proofs.lemmas.Option.{same_Some, none-some}
use Rattle.copy_stays.specs.declared.stays.CopyState.{CopyState}
use Rattle.copy_stays.specs.Leaves.{Leaves, left_again, Firsts, LastStays, with_stay, is_once}
use Rattle.copy_stays.specs.Stays.{CopyStates, root, IsStretch, Stretch, depths, nexts, IsOrdered, is_whole}
use Rattle.copy_stays.specs.Stays.{AreCopyStates}
use Rattle.copy_stays.specs.Inner.Steps.{with_state, with_first}
use Rattle.copy_stays.proofs.Stretches.{run_past, grown_run}

pub less-apart : (x n : ℕ) → x < n → eqb n x ≡ false
less-apart x n h = grind (arith, nat_tests)

itself : (n : ℕ) → eqb n n ≡ true
itself n = eq-eqb n n refl

-- what is kept of a copy, and of the others
pub with_state-here : (states : CopyStates) (n : ℕ) (state : CopyState) → with_state n state states n ≡ state
with_state-here states n state = λ i. cond (itself n i) state (states n)

pub with_state-there : (states : CopyStates) (n : ℕ) (state : CopyState) (x : ℕ) → eqb n x ≡ false
    → with_state n state states x ≡ states x
with_state-there states n state x e = λ i. cond (e i) state (states x)

made : (number : ℕ) (stay : Option (ℕ × ℕ)) (stays : LastStays) (n : ℕ) (s : ℕ × ℕ)
    → with_stay number stay stays n ≡ Some s
    → ((number ≡ n) × (stay ≡ Some s)) ⊎ ((eqb number n ≡ false) × (stays n ≡ Some s))
made number stay stays n s h = by (eqb number n) refl h
  where
    by : (b : Bool) → eqb number n ≡ b → cond b stay (stays n) ≡ Some s
        → ((number ≡ n) × (stay ≡ Some s)) ⊎ ((eqb number n ≡ false) × (stays n ≡ Some s))
    by true e g = inl (eqb-true number n e, g)
    by false e g = inr (e, g)

-- a copy without a stay changes nothing
pub with_none : (number : ℕ) (stays : LastStays) → stays number ≡ None → with_stay number None stays ≡ stays
with_none number stays none = λ i n. at n (eqb number n) refl i
  where
    at : (n : ℕ) (b : Bool) → eqb number n ≡ b → cond b None (stays n) ≡ stays n
    at n true e = sym none ∙ ap stays (eqb-true number n e)
    at n false e = refl

-- numbers that aren't used yet don't matter
pub ordered_later : (states : CopyStates) (firsts : Firsts) (stays : LastStays) (leaves : Leaves) (number limit : ℕ)
    → number ≤ limit
    → IsOrdered states firsts stays leaves number → IsOrdered states firsts stays leaves limit
ordered_later states firsts stays leaves number limit fits h = record {
  within = λ n t c s. let w = h.within n t c s in let b : n < number = w.1 in (w.0, omega (arith, b, fits));
  ended = h.ended;
  known = h.known;
  earlier = λ t f s. let b : f < number = h.earlier t f s in omega (arith, b, fits);
  of_first = h.of_first;
  first = h.first;
  flat = h.flat;
  low = h.low;
  deeper = h.deeper;
  runs = h.runs;
  one_before = h.one_before;
  no_link_to_a_root = h.no_link_to_a_root;
}

pub later : (states : CopyStates) (firsts : Firsts) (stays : LastStays) (leaves : Leaves) (number limit : ℕ)
    → number ≤ limit
    → AreCopyStates states firsts stays leaves number → AreCopyStates states firsts stays leaves limit
later states firsts stays leaves number limit fits h =
    record { ordered = ordered_later states firsts stays leaves number limit fits h.ordered; once = h.once }

-- no stay of a number that isn't used yet
pub unused : (states : CopyStates) (firsts : Firsts) (stays : LastStays) (leaves : Leaves) (number : ℕ)
    → AreCopyStates states firsts stays leaves number → stays number ≡ None
unused states firsts stays leaves number h = by (stays number) refl
  where
    by : (o : Option (ℕ × ℕ)) → stays number ≡ o → o ≡ None
    by None e = refl
    by (Some s) e =
        let b : number < number = (h.ordered.within number s.0 s.1 e).1 in
        absurd (omega (arith, b))

pub same_states : (states after : CopyStates) (firsts named : Firsts) (stays : LastStays) (leaves : Leaves)
    (number : ℕ) → after ≡ states → named ≡ firsts
    → AreCopyStates states firsts stays leaves number → AreCopyStates after named stays leaves number
same_states states after firsts named stays leaves number b f h =
    subst (λ (x : CopyStates). AreCopyStates x named stays leaves number) (sym b)
    (subst (λ (x : Firsts). AreCopyStates states x stays leaves number) (sym f) h)

-- one more copy without a stay
pub one_more : (states : CopyStates) (firsts : Firsts) (stays : LastStays) (leaves : Leaves) (number : ℕ)
    → AreCopyStates states firsts stays leaves number
    → AreCopyStates states firsts (with_stay number None stays) leaves (number + 1)
one_more states firsts stays leaves number h =
    subst (λ (s : LastStays). AreCopyStates states firsts s leaves (number + 1))
    (sym (with_none number stays (unused states firsts stays leaves number h)))
    (later states firsts stays leaves number (number + 1) (omega arith) h)

-- the first Leave line of a stay
module _ (states : CopyStates) (firsts : Firsts) (stays : LastStays) (leaves : Leaves) (number transit : ℕ)
    (h : AreCopyStates states firsts stays leaves number) (none : firsts transit ≡ None) where
  abbrev named : Firsts
  named = with_first transit number firsts

  other_stay : (n t c : ℕ) → stays n ≡ Some (t, c) → eqb transit t ≡ false
  other_stay n t c s = by (eqb transit t) refl
    where
      by : (b : Bool) → eqb transit t ≡ b → b ≡ false
      by true e =
          let one : firsts t ≡ None = ap firsts (sym (eqb-true transit t e)) ∙ none in
          let some : is_some (firsts t) ≡ true = h.ordered.ended n t c s in
          sym some ∙ ap (λ (o : Option ℕ). is_some o) one
      by false e = refl

  named-other : (t : ℕ) → eqb transit t ≡ false → named t ≡ firsts t
  named-other t e = λ i. cond (e i) (Some number) (firsts t)

  named-either : (t f : ℕ) → named t ≡ Some f → ((transit ≡ t) × (number ≡ f)) ⊎ (firsts t ≡ Some f)
  named-either t f e = by (eqb transit t) refl e
    where
      by : (b : Bool) → eqb transit t ≡ b → cond b (Some number) (firsts t) ≡ Some f
          → ((transit ≡ t) × (number ≡ f)) ⊎ (firsts t ≡ Some f)
      by true s g = inl (eqb-true transit t s, same_Some number f g)
      by false s g = inr g

  named-known : (t : ℕ) → is_some (named t) ≡ is_some (left_again transit leaves t)
  named-known t = by (eqb transit t)
    where
      by : (b : Bool) → is_some (cond b (Some number) (firsts t))
          ≡ is_some (cond b (Some (is_some (leaves t))) (leaves t))
      by true = refl
      by false = h.ordered.known t

  whole-before : (o : Option (ℕ × ℕ)) → ((s : ℕ × ℕ) → o ≡ Some s → eqb transit s.0 ≡ false)
      → is_whole states leaves o ≡ is_whole states (left_again transit leaves) o
  whole-before None other = refl
  whole-before (Some s) other =
      sym (λ i. is_once (cond (other s refl i) (Some (is_some (leaves s.0))) (leaves s.0)) && (states s.1).once)

  pub first_named : AreCopyStates states named stays (left_again transit leaves) (number + 1)
  first_named = record {
    ordered = record {
      within = λ n t c s. let w = h.ordered.within n t c s in let b : n < number = w.1 in (w.0, omega (arith, b));
      ended = λ n t c s. ap (λ (o : Option ℕ). is_some o) (named-other t (other_stay n t c s))
          ∙ h.ordered.ended n t c s;
      known = named-known;
      earlier = λ t f s. elim (named-either t f s) [
        | inl p ↦ let e : number ≡ f = p.1 in omega (arith, e)
        | inr p ↦ let b : f < number = h.ordered.earlier t f p in omega (arith, b)
      ];
      of_first = λ t f other c n s. elim (named-either t f n) [
        | inl p ↦ let b : f < number =
            (h.ordered.within f other c s).1 in let e : number ≡ f = p.1 in absurd (omega (arith, b, e))
        | inr p ↦ h.ordered.of_first t f other c p s
      ];
      first = λ n t c s alive. named-other t (other_stay n t c s) ∙ h.ordered.first n t c s alive;
      flat = h.ordered.flat;
      low = h.ordered.low;
      deeper = h.ordered.deeper;
      runs = h.ordered.runs;
      one_before = h.ordered.one_before;
      no_link_to_a_root = h.ordered.no_link_to_a_root;
    };
    once = λ n. h.once n ∙ whole-before (stays n) (λ s e. other_stay n s.0 s.1 e);
  }

-- one more copy, which left its clock after a stay
module _ (states after : CopyStates) (firsts : Firsts) (stays : LastStays) (leaves : Leaves) (n transit p : ℕ)
    (h : AreCopyStates states firsts stays leaves (n + 1)) (fresh : stays n ≡ None) (below : p < n)
    (is_named : is_some (firsts transit) ≡ true) (its : (t : ℕ) → firsts t ≡ Some n → t ≡ transit) where
  abbrev more : LastStays
  more = with_stay n (Some (transit, p)) stays

  flat_n : (states n).depth ≡ 0
  flat_n = h.ordered.flat n fresh

  pair : (s : ℕ × ℕ) → Some (transit, p) ≡ Some s → (transit ≡ s.0) × (p ≡ s.1)
  pair s e = (ap (λ (x : ℕ × ℕ). x.0) (same_Some _ _ e), ap (λ (x : ℕ × ℕ). x.1) (same_Some _ _ e))

  more_within : (m t c : ℕ) → more m ≡ Some (t, c) → (c < m) × (m < n + 1)
  more_within m t c s = elim (made n (Some (transit, p)) stays m (t, c) s) [
    | inl q ↦
        let e : n ≡ m = q.0 in
        let g : p ≡ c = (pair (t, c) q.1).1 in
        (omega (arith, e, g, below), omega (arith, e))
    | inr q ↦ h.ordered.within m t c q.1
  ]

  more_ended : (m t c : ℕ) → more m ≡ Some (t, c) → is_some (firsts t) ≡ true
  more_ended m t c s = elim (made n (Some (transit, p)) stays m (t, c) s) [
    | inl q ↦ subst (λ (x : ℕ). is_some (firsts x) ≡ true) (pair (t, c) q.1).0 is_named
    | inr q ↦ h.ordered.ended m t c q.1
  ]

  more_of_first : (t f other c : ℕ) → firsts t ≡ Some f → more f ≡ Some (other, c) → other ≡ t
  more_of_first t f other c first s = elim (made n (Some (transit, p)) stays f (other, c) s) [
    | inl q ↦ sym (pair (other, c) q.1).0 ∙ sym (its t (first ∙ ap Some (sym q.0)))
    | inr q ↦ h.ordered.of_first t f other c first q.1
  ]

  more_flat : (m : ℕ) → more m ≡ None → (eqb n m ≡ false) × (stays m ≡ None)
  more_flat m s = by (eqb n m) refl s
    where
      by : (b : Bool) → eqb n m ≡ b → cond b (Some (transit, p)) (stays m) ≡ None
          → (eqb n m ≡ false) × (stays m ≡ None)
      by true e g = absurd (none-some (transit, p) (sym g))
      by false e g = (e, g)

  -- the copy of an older copy's last stay isn't the new one
  from_before : (m t c : ℕ) → stays m ≡ Some (t, c) → eqb n c ≡ false
  from_before m t c s =
      let w = h.ordered.within m t c s in
      let a : c < m = w.0 in
      let b : m < n + 1 = w.1 in
      less-apart c n (omega (arith, a, b))

  module _ (at_p : after p ≡ record (states p) { next = Some n })
      (at_n : after n ≡ record { once = true; depth = (states p).depth + 1; next = (states p).next })
      (others : (x : ℕ) → eqb p x ≡ false → eqb n x ≡ false → after x ≡ states x)
      (alive : (states p).once ≡ true) (once : is_once (leaves transit) ≡ true)
      (first : firsts transit ≡ Some n) where
    grown-old : (x : ℕ) → eqb n x ≡ false
        → ((after x).once ≡ (states x).once) × ((after x).depth ≡ (states x).depth)
    grown-old x apart = by (eqb p x) refl
      where
        by : (b : Bool) → eqb p x ≡ b → ((after x).once ≡ (states x).once) × ((after x).depth ≡ (states x).depth)
        by true e =
            let Q : ℕ → Type 0 = λ y. ((after y).once ≡ (states y).once) × ((after y).depth ≡ (states y).depth) in
            subst Q (eqb-true p x e) (ap (λ (b : CopyState). b.once) at_p, ap (λ (b : CopyState). b.depth) at_p)
        by false e = let o = others x e apart in (ap (λ (b : CopyState). b.once) o, ap (λ (b : CopyState). b.depth) o)

    depth_p : (after p).depth ≡ (states p).depth
    depth_p = ap (λ (b : CopyState). b.depth) at_p

    depth_n : (after n).depth ≡ (states p).depth + 1
    depth_n = ap (λ (b : CopyState). b.depth) at_n

    next_p : (after p).next ≡ Some n
    next_p = ap (λ (b : CopyState). b.next) at_p

    next_n : (after n).next ≡ (states p).next
    next_n = ap (λ (b : CopyState). b.next) at_n

    grown-deeper : (m t c : ℕ) → more m ≡ Some (t, c) → (after m).once ≡ true → (after m).depth ≡ (after c).depth + 1
    grown-deeper m t c s on = elim (made n (Some (transit, p)) stays m (t, c) s) [
      | inl q ↦
          let g : p ≡ c = (pair (t, c) q.1).1 in
          ap (λ (x : ℕ). (after x).depth) (sym q.0) ∙ depth_n
          ∙ ap (λ (d : ℕ). d + 1) (sym depth_p ∙ ap (λ (x : ℕ). (after x).depth) g)
      | inr q ↦
          let o = grown-old m q.0 in
          o.1 ∙ h.ordered.deeper m t c q.1 (sym o.0 ∙ on)
          ∙ ap (λ (d : ℕ). d + 1) (sym (grown-old c (from_before m t c q.1)).1)
    ]

    run_on : (above : ℕ) (l : List ℕ) (from : Option ℕ) (to : ℕ)
        → IsStretch (depths states) (nexts states) above from l to
        → Stretch (depths after) (nexts after) above from to
    run_on = grown_run (depths states) (depths after) (nexts states)
        (nexts after) p n flat_n depth_p depth_n next_p next_n
        (λ x at at_new. let o = others x at at_new in (ap (λ (b : CopyState). b.depth) o, ap (λ (b : CopyState). b.next) o))

    -- a run that begins after a copy
    run_from : (c m : ℕ) → eqb n c ≡ false
        → Stretch (depths states) (nexts states) (states c).depth (states c).next m
        → Stretch (depths after) (nexts after) (after c).depth (after c).next m
    run_from c m apart run = by (eqb p c) refl
      where
        same : (after c).depth ≡ (states c).depth
        same = (grown-old c apart).1

        old : Stretch (depths after) (nexts after) (states c).depth (states c).next m
        old = run_on (states c).depth run.through (states c).next m run.leads

        by : (b : Bool) → eqb p c ≡ b → Stretch (depths after) (nexts after) (after c).depth (after c).next m
        by true e =
            let g : p ≡ c = eqb-true p c e in
            let d : (states p).depth ≡ (states c).depth = ap (λ (x : ℕ). (states x).depth) g in
            let link : (after n).next ≡ (states c).next = next_n ∙ ap (λ (x : ℕ). (states x).next) g in
            subst (λ (a : ℕ). Stretch (depths after) (nexts after) a (after c).next m) (sym same) (record {
              through = n ∷ old.through;
              leads = (
                ap (λ (x : ℕ). (after x).next) (sym g) ∙ next_p,
                omega (arith, d, depth_n),
                subst (λ (o : Option ℕ). IsStretch (depths after) (nexts after) (states c).depth o old.through m)
                    (sym link) old.leads,
              );
            })
        by false e =
            subst (λ (a : ℕ). Stretch (depths after) (nexts after) a (after c).next m) (sym same)
            (subst (λ (o : Option ℕ). Stretch (depths after) (nexts after) (states c).depth o m)
            (sym (ap (λ (b : CopyState). b.next) (others c e apart))) old)

    grown-runs : (m t c : ℕ) → more m ≡ Some (t, c) → (after m).once ≡ true → (after c).once ≡ true
        → Stretch (depths after) (nexts after) (after c).depth (after c).next m
    grown-runs m t c s on from_on = elim (made n (Some (transit, p)) stays m (t, c) s) [
      | inl q ↦
          let g : p ≡ c = (pair (t, c) q.1).1 in
          record { through = []; leads = ap (λ (x : ℕ). (after x).next) (sym g) ∙ next_p ∙ ap Some q.0 }
      | inr q ↦
          let apart = from_before m t c q.1 in
          run_from c m apart (h.ordered.runs m t c q.1 (sym (grown-old m q.0).0 ∙ on)
          (sym (grown-old c apart).0 ∙ from_on))
    ]

    abbrev Back : ℕ → ℕ → Type 0
    Back x m = ((m ≡ n) × (x ≡ p)) ⊎ ((y : ℕ) × ((states y).next ≡ Some m) × (x ≡ cond (eqb p y) n y))

    back : (x m : ℕ) → (after x).next ≡ Some m → Back x m
    back x m e = by (eqb p x) (eqb n x) refl refl
      where
        by : (a b : Bool) → eqb p x ≡ a → eqb n x ≡ b → Back x m
        by true b g k =
            let same : p ≡ x = eqb-true p x g in
            inl (same_Some m n (sym e ∙ ap (λ (y : ℕ). (after y).next) (sym same) ∙ next_p), sym same)
        by false true g k =
            let same : n ≡ x = eqb-true n x k in
            inr (p, sym next_n ∙ ap (λ (y : ℕ). (after y).next) same ∙ e, sym same ∙ sym (λ i. cond (itself p i) n p))
        by false false g k = inr (x, sym (ap (λ (b : CopyState). b.next) (others x g k)) ∙ e, sym (λ i. cond (g i) n x))

    no_way : (y : ℕ) → (states y).next ≡ Some n → ⊥
    no_way y e =
        let deep : 0 < (states n).depth = h.ordered.no_link_to_a_root y n e in
        absurd (omega (arith, deep, flat_n))

    grown-one : (one other m : ℕ) → (after one).next ≡ Some m → (after other).next ≡ Some m → one ≡ other
    grown-one one other m e g = by (back one m e) (back other m g)
      where
        by : Back one m → Back other m → one ≡ other
        by (inl a) (inl b) = a.1 ∙ sym b.1
        by (inl a) (inr b) = absurd (no_way b.0 (b.1 ∙ ap Some a.0))
        by (inr a) (inl b) = absurd (no_way a.0 (a.1 ∙ ap Some b.0))
        by (inr a) (inr b) = a.2 ∙ ap (λ (y : ℕ). cond (eqb p y) n y) (h.ordered.one_before a.0 b.0 m a.1 b.1)
            ∙ sym b.2

    grown-below : (x m : ℕ) → (after x).next ≡ Some m → 0 < (after m).depth
    grown-below x m e = by (back x m e)
      where
        by : Back x m → 0 < (after m).depth
        by (inl a) =
            let d : (after m).depth ≡ (states p).depth + 1 = ap (λ (y : ℕ). (after y).depth) a.0 ∙ depth_n in
            omega (arith, d)
        by (inr a) = new (eqb n m) refl
          where
            new : (b : Bool) → eqb n m ≡ b → 0 < (after m).depth
            new true k = absurd (no_way a.0 (a.1 ∙ ap Some (sym (eqb-true n m k))))
            new false k =
                let deep : 0 < (states m).depth = h.ordered.no_link_to_a_root a.0 m a.1 in
                let d : (after m).depth ≡ (states m).depth = (grown-old m k).1 in
                omega (arith, deep, d)

    grown-first : (m t c : ℕ) → more m ≡ Some (t, c) → (after m).once ≡ true → firsts t ≡ Some m
    grown-first m t c s on = elim (made n (Some (transit, p)) stays m (t, c) s) [
      | inl q ↦ ap firsts (sym (pair (t, c) q.1).0) ∙ first ∙ ap Some q.0
      | inr q ↦ h.ordered.first m t c q.1 (sym (grown-old m q.0).0 ∙ on)
    ]

    grown-low : (m : ℕ) → (after m).depth ≤ m
    grown-low m = by (eqb n m) refl
      where
        by : (b : Bool) → eqb n m ≡ b → (after m).depth ≤ m
        by true e =
            let same : n ≡ m = eqb-true n m e in
            let d : (after m).depth ≡ (states p).depth + 1 = ap (λ (y : ℕ). (after y).depth) (sym same) ∙ depth_n in
            let l : (states p).depth ≤ p = h.ordered.low p in
            omega (arith, same, d, l, below)
        by false e =
            let d : (after m).depth ≡ (states m).depth = (grown-old m e).1 in
            let l : (states m).depth ≤ m = h.ordered.low m in
            omega (arith, d, l)

    grown-whole : (m : ℕ) (o : Option (ℕ × ℕ)) → stays m ≡ o → is_whole states leaves o ≡ is_whole after leaves o
    grown-whole m None e = refl
    grown-whole m (Some s) e =
        sym (ap (λ (b : Bool). is_once (leaves s.0) && b) (grown-old s.1 (from_before m s.0 s.1 e)).0)

    grown-once : (m : ℕ) → (after m).once ≡ is_whole after leaves (more m)
    grown-once m = by (eqb n m) refl
      where
        by : (b : Bool) → eqb n m ≡ b → (after m).once ≡ is_whole after leaves (cond b (Some (transit, p)) (stays m))
        by true e =
            ap (λ (y : ℕ). (after y).once) (sym (eqb-true n m e)) ∙ ap (λ (b : CopyState). b.once) at_n
            ∙ sym (λ i. once i && (ap (λ (b : CopyState). b.once) at_p ∙ alive) i)
        by false e = (grown-old m e).0 ∙ h.once m ∙ grown-whole m (stays m) refl

    -- the copy grew from one that no stay was left twice of
    pub grown : AreCopyStates after firsts more leaves (n + 1)
    grown = record {
      ordered = record {
        within = more_within;
        ended = more_ended;
        known = h.ordered.known;
        earlier = h.ordered.earlier;
        of_first = more_of_first;
        first = grown-first;
        flat = λ m s. let f = more_flat m s in (grown-old m f.0).1 ∙ h.ordered.flat m f.1;
        low = grown-low;
        deeper = grown-deeper;
        runs = grown-runs;
        one_before = grown-one;
        no_link_to_a_root = grown-below;
      };
      once = grown-once;
    }

  module _ (at_n : after n ≡ record root { once = false }) (others : (x : ℕ) → eqb n x ≡ false → after x ≡ states x)
      (twice : (is_once (leaves transit) && (states p).once) ≡ false) where
    off_n : (after n).once ≡ true → ⊥
    off_n on = true≢false (sym on ∙ ap (λ (b : CopyState). b.once) at_n)

    marked-new : (m : ℕ) (s : ℕ × ℕ) → more m ≡ Some s → (after m).once ≡ true → (eqb n m ≡ false) × (stays m ≡ Some s)
    marked-new m s e on = elim (made n (Some (transit, p)) stays m s e) [
      | inl q ↦ absurd (off_n (ap (λ (y : ℕ). (after y).once) q.0 ∙ on))
      | inr q ↦ q
    ]

    marked-depths : depths states ≡ depths after
    marked-depths = λ i x. at x (eqb n x) refl i
      where
        at : (x : ℕ) (b : Bool) → eqb n x ≡ b → (states x).depth ≡ (after x).depth
        at x true e =
            let same : n ≡ x = eqb-true n x e in
            ap (λ (y : ℕ). (states y).depth) (sym same) ∙ flat_n ∙ sym (ap (λ (b : CopyState). b.depth) at_n)
            ∙ ap (λ (y : ℕ). (after y).depth) same
        at x false e = sym (ap (λ (b : CopyState). b.depth) (others x e))

    marked-depth : (x : ℕ) → (after x).depth ≡ (states x).depth
    marked-depth x = λ i. (sym marked-depths) i x

    marked-run : (c m : ℕ) → eqb n c ≡ false
        → Stretch (depths states) (nexts states) (states c).depth (states c).next m
        → Stretch (depths after) (nexts after) (after c).depth (after c).next m
    marked-run c m apart run =
        let past = run_past (depths states) (nexts states) (nexts after) n flat_n
        (λ x e. ap (λ (b : CopyState). b.next) (others x e)) (states c).depth run.through
        (states c).next m run.leads in
        let deep : IsStretch (depths after) (nexts after) (states c).depth (states c).next run.through m =
        subst (λ (d : ℕ → ℕ). IsStretch d (nexts after) (states c).depth (states c).next run.through m)
        marked-depths past in
        record {
          through = run.through;
          leads = subst (λ (b : CopyState). IsStretch (depths after) (nexts after) b.depth b.next run.through m)
              (sym (others c apart)) deep;
        }

    marked-next : (x m : ℕ) → (after x).next ≡ Some m → (states x).next ≡ Some m
    marked-next x m e = by (eqb n x) refl
      where
        by : (b : Bool) → eqb n x ≡ b → (states x).next ≡ Some m
        by true g = absurd (none-some m
            (sym (ap (λ (b : CopyState). b.next) at_n) ∙ ap (λ (y : ℕ). (after y).next) (eqb-true n x g) ∙ e))
        by false g = sym (ap (λ (b : CopyState). b.next) (others x g)) ∙ e

    marked-whole : (m : ℕ) (o : Option (ℕ × ℕ)) → stays m ≡ o → is_whole states leaves o ≡ is_whole after leaves o
    marked-whole m None e = refl
    marked-whole m (Some s) e =
        sym (ap (λ (b : CopyState). is_once (leaves s.0) && b.once) (others s.1 (from_before m s.0 s.1 e)))

    marked-once : (m : ℕ) → (after m).once ≡ is_whole after leaves (more m)
    marked-once m = by (eqb n m) refl
      where
        by : (b : Bool) → eqb n m ≡ b → (after m).once ≡ is_whole after leaves (cond b (Some (transit, p)) (stays m))
        by true e =
            ap (λ (y : ℕ). (after y).once) (sym (eqb-true n m e)) ∙ ap (λ (b : CopyState). b.once) at_n
            ∙ sym twice ∙ sym (ap (λ (b : CopyState). is_once (leaves transit) && b.once)
            (others p (less-apart p n below)))
        by false e = ap (λ (b : CopyState). b.once) (others m e) ∙ h.once m ∙ marked-whole m (stays m) refl

    -- the copy's journey has a stay that was left twice
    pub marked : AreCopyStates after firsts more leaves (n + 1)
    marked = record {
      ordered = record {
        within = more_within;
        ended = more_ended;
        known = h.ordered.known;
        earlier = h.ordered.earlier;
        of_first = more_of_first;
        first = λ m t c s on. let q = marked-new m (t, c) s on in
            h.ordered.first m t c q.1 (sym (ap (λ (b : CopyState). b.once) (others m q.0)) ∙ on);
        flat = λ m s. let f = more_flat m s in marked-depth m ∙ h.ordered.flat m f.1;
        low = λ m. let l : (states m).depth ≤ m =
            h.ordered.low m in let d : (after m).depth ≡ (states m).depth = marked-depth m in omega (arith, l, d);
        deeper = λ m t c s on.
            let q = marked-new m (t, c) s on in
            marked-depth m ∙ h.ordered.deeper m t c q.1 (sym (ap (λ (b : CopyState). b.once) (others m q.0)) ∙ on)
            ∙ ap (λ (d : ℕ). d + 1) (sym (marked-depth c));
        runs = λ m t c s on from_on.
            let q = marked-new m (t, c) s on in
            let apart = from_before m t c q.1 in
            marked-run c m apart (h.ordered.runs m t c q.1 (sym (ap (λ (b : CopyState). b.once) (others m q.0)) ∙ on)
            (sym (ap (λ (b : CopyState). b.once) (others c apart)) ∙ from_on));
        one_before = λ one other m e g. h.ordered.one_before one other m (marked-next one m e) (marked-next other m g);
        no_link_to_a_root = λ x m e. let deep : 0 < (states m).depth =
            h.ordered.no_link_to_a_root x m (marked-next x m e) in let d : (after m).depth ≡ (states m).depth =
            marked-depth m in omega (arith, deep, d);
      };
      once = marked-once;
    }

-- a Leave line of a stay that none named before
module _ (states : CopyStates) (firsts : Firsts) (stays : LastStays) (leaves : Leaves) (number transit : ℕ)
    (h : AreCopyStates states firsts stays leaves number) (none : firsts transit ≡ None) where
  pub named_here : with_first transit number firsts transit ≡ Some number
  named_here = λ i. cond (itself transit i) (Some number) (firsts transit)

  pub named_alone : (other : ℕ) → with_first transit number firsts other ≡ Some number → other ≡ transit
  named_alone other e = by (eqb transit other) refl e
    where
      by : (b : Bool) → eqb transit other ≡ b → cond b (Some number) (firsts other) ≡ Some number → other ≡ transit
      by true s g = sym (eqb-true transit other s)
      by false s g =
          let below : number < number = h.ordered.earlier other number g in
          absurd (omega (arith, below))

  pub ended_once : is_once (left_again transit leaves transit) ≡ true
  ended_once =
      let some : is_some (leaves transit) ≡ false =
      sym (h.ordered.known transit) ∙ ap (λ (o : Option ℕ). is_some o) none in
      (λ i. is_once (cond (itself transit i) (Some (some i)) (leaves transit)))

-- a Leave line of a stay that one named before
module _ (states cut after : CopyStates) (firsts : Firsts) (stays : LastStays) (leaves : Leaves) (number transit f : ℕ)
    (before : AreCopyStates states firsts stays leaves number) (first : firsts transit ≡ Some f)
    (h : AreCopyStates cut firsts stays (left_again transit leaves) number)
    (at_n : after number ≡ record root { once = false })
    (others : (x : ℕ) → eqb number x ≡ false → after x ≡ cut x) where
  ended_twice : is_once (left_again transit leaves transit) ≡ false
  ended_twice =
      let some : is_some (leaves transit) ≡ true =
      sym (before.ordered.known transit) ∙ ap (λ (o : Option ℕ). is_some o) first in
      (λ i. is_once (cond (itself transit i) (Some (some i)) (leaves transit)))

  left_twice : (p : ℕ) → p < number
      → AreCopyStates after firsts (with_stay number (Some (transit, p)) stays) (left_again transit leaves) (number + 1)
  left_twice p below =
      marked cut after firsts stays (left_again transit leaves) number transit p
      (later cut firsts stays (left_again transit leaves) number (number + 1) (omega arith) h)
      (unused cut firsts stays (left_again transit leaves) number h) below (ap (λ (o : Option ℕ). is_some o) first)
      (λ t e. let past : number < number = before.ordered.earlier t number e in absurd (omega (arith, past)))
      at_n others (ap (λ (a : Bool). a && (cut p).once) ended_twice)

  pub left_again_of : (from : Option ℕ) → is_some from ≡ true → IfSome from (λ copy. copy < number)
      → AreCopyStates after firsts (with_stay number (option_map (λ copy. (transit, copy)) from) stays)
      (left_again transit leaves) (number + 1)
  left_again_of None some below = grind (arith, some)
  left_again_of (Some p) some below = left_twice p below
