-- A stay is left again: every copy that grew from the first copy which left it is marked.
use Rattle.std.proofs.Common.{◌≡◌, ◌∙◌, ℕ, ◌+◌, ◌<◌, ◌≤◌, Bool, true, false, ◌&&◌, not, cond, eqb, List}
use Rattle.std.proofs.Common.{[], ◌∷◌, Option, Some, None, ◌⊎◌, inl, inr, refl, sym, ap, subst, arith}
use Rattle.std.specs.Prelude.{is_some}
use Rattle.std.proofs.lemmas.Bool.{true≢false, eqb-true, eqb-false, eq-eqb, and_parts}
use Rattle.std.proofs.lemmas.Option.{same_Some, none-some}
use Rattle.copy_stays.specs.declared.stays.CopyState.{CopyState}
use Rattle.copy_stays.specs.Leaves.{Leaves, left_again, Firsts, LastStays, is_once}
use Rattle.copy_stays.specs.Stays.{CopyStates, IsStretch, Stretch, depths, nexts, IsOrdered, is_whole, AreCopyStates}
use Rattle.copy_stays.proofs.Stretches.{weaker, no_run, ends_nowhere, before_run, not_itself, shrunk_run}

-- a copy's stay was left again: it isn't whole any more, and what grew from it, as far as the order leads from it
-- to deeper copies, is still to be looked at
pub record IsCutting (states : CopyStates) (firsts : Firsts) (stays : LastStays) (leaves : Leaves)
    (number cut : ℕ) : Type 0 where
  pub ordered : IsOrdered states firsts stays leaves number
  pub sound : (n : ℕ) → (states n).once ≡ false → is_whole states leaves (stays n) ≡ false
  pub ahead : (n transit copy : ℕ) → stays n ≡ Some (transit, copy) → (states n).once ≡ true
      → (is_once (leaves transit) && (states copy).once) ≡ false
      → Stretch (depths states) (nexts states) (states cut).depth (states cut).next n
      × ((states cut).depth < (states n).depth)
  pub off : (states cut).once ≡ false

lower : (a b c : Bool) → (a && b) ≡ false → (c ≡ b) ⊎ (c ≡ false) → (a && c) ≡ false
lower true b c h (inl e) = e ∙ h
lower true b c h (inr e) = e
lower false b c h e = refl

-- fewer copies are whole
lower-whole : (states after : CopyStates) (leaves : Leaves)
    → ((x : ℕ) → ((after x).once ≡ (states x).once) ⊎ ((after x).once ≡ false))
    → (o : Option (ℕ × ℕ)) → is_whole states leaves o ≡ false → is_whole after leaves o ≡ false
lower-whole states after leaves fewer None h = h
lower-whole states after leaves fewer (Some s) h =
    lower (is_once (leaves s.0)) (states s.1).once (after s.1).once h (fewer s.1)

-- the stay is left again, and its first Leave line is known
module _ (states : CopyStates) (firsts : Firsts) (stays : LastStays) (leaves : Leaves) (number transit f : ℕ)
    (h : AreCopyStates states firsts stays leaves number) (first : firsts transit ≡ Some f) where
  abbrev again : Leaves
  again = left_again transit leaves

  again-known : (t : ℕ) → is_some (firsts t) ≡ is_some (again t)
  again-known t = by (eqb transit t) refl
    where
      by : (b : Bool) → eqb transit t ≡ b
          → is_some (firsts t) ≡ is_some (cond b (Some (is_some (leaves t))) (leaves t))
      by true e = ap (λ (o : Option ℕ). is_some o) (ap firsts (sym (eqb-true transit t e)) ∙ first)
      by false e = h.ordered.known t

  twice : (t : ℕ) → eqb transit t ≡ true → is_once (again t) ≡ false
  twice t e =
      let some : is_some (leaves t) ≡ true = sym (h.ordered.known t)
      ∙ ap (λ (o : Option ℕ). is_some o) (ap firsts (sym (eqb-true transit t e)) ∙ first) in
      (λ i. is_once (cond (e i) (Some (is_some (leaves t))) (leaves t))) ∙ ap not some

  other : (t : ℕ) → eqb transit t ≡ false → again t ≡ leaves t
  other t e = λ i. cond (e i) (Some (is_some (leaves t))) (leaves t)

  alive-other : (n t c : ℕ) → stays n ≡ Some (t, c) → (states n).once ≡ true → eqb f n ≡ false
      → eqb transit t ≡ false
  alive-other n t c s on apart = by (eqb transit t) refl
    where
      by : (b : Bool) → eqb transit t ≡ b → b ≡ false
      by true e =
          let same : f ≡ n = same_Some f n
          (sym first ∙ ap firsts (eqb-true transit t e) ∙ h.ordered.first n t c s on) in
          absurd (eqb-false f n apart same)
      by false e = refl

  whole-parts : (n t c : ℕ) → stays n ≡ Some (t, c) → (states n).once ≡ true
      → (is_once (leaves t) ≡ true) × ((states c).once ≡ true)
  whole-parts n t c s on =
      and_parts (is_once (leaves t)) (states c).once (sym (ap (is_whole states leaves) s) ∙ sym (h.once n) ∙ on)

  ordered-again : IsOrdered states firsts stays again number
  ordered-again = record {
    within = h.ordered.within;
    ended = h.ordered.ended;
    known = again-known;
    earlier = h.ordered.earlier;
    of_first = h.ordered.of_first;
    first = h.ordered.first;
    flat = h.ordered.flat;
    low = h.ordered.low;
    deeper = h.ordered.deeper;
    runs = h.ordered.runs;
    one_before = h.ordered.one_before;
    no_link_to_a_root = h.ordered.no_link_to_a_root;
  }

  module _ (flat : (states f).depth ≡ 0) where
    apart-flat : (n t c : ℕ) → stays n ≡ Some (t, c) → (states n).once ≡ true → eqb f n ≡ false
    apart-flat n t c s on = by (eqb f n) refl
      where
        by : (b : Bool) → eqb f n ≡ b → b ≡ false
        by true e =
            let d : (states n).depth ≡ (states c).depth + 1 = h.ordered.deeper n t c s on in
            let z : (states n).depth ≡ 0 = ap (λ (x : ℕ). (states x).depth) (sym (eqb-true f n e)) ∙ flat in
            absurd (omega (arith, d, z))
        by false e = refl

    whole-flat : (n : ℕ) (b : Bool) (o : Option (ℕ × ℕ)) → (states n).once ≡ b → stays n ≡ o
        → b ≡ is_whole states again o
    whole-flat n true None on s = refl
    whole-flat n true (Some (t, c)) on s =
        let parts = whole-parts n t c s on in
        let one : is_once (again t) ≡ true =
        ap is_once (other t (alive-other n t c s on (apart-flat n t c s on))) ∙ parts.0 in
        sym (λ i. one i && parts.1 i)
    whole-flat n false None on s = absurd (true≢false (sym (ap (is_whole states leaves) s) ∙ sym (h.once n) ∙ on))
    whole-flat n false (Some (t, c)) on s = by (eqb transit t) refl
      where
        by : (b : Bool) → eqb transit t ≡ b → false ≡ (is_once (again t) && (states c).once)
        by true e = sym (ap (λ (a : Bool). a && (states c).once) (twice t e))
        by false e = sym on ∙ h.once n ∙ ap (is_whole states leaves) s
            ∙ sym (ap (λ (o : Option Bool). is_once o && (states c).once) (other t e))

    -- no copy left with the first of them
    pub cut_flat : AreCopyStates states firsts stays again number
    cut_flat = record { ordered = ordered-again; once = λ n. whole-flat n (states n).once (stays n) refl refl }

  module _ (after : CopyStates) (deep : 0 < (states f).depth) (at_f : after f ≡ record (states f) { once = false })
      (others : (x : ℕ) → eqb f x ≡ false → after x ≡ states x) where
    start-depths : depths states ≡ depths after
    start-depths = λ i x. at x (eqb f x) refl i
      where
        at : (x : ℕ) (b : Bool) → eqb f x ≡ b → (states x).depth ≡ (after x).depth
        at x true e =
            let same : f ≡ x = eqb-true f x e in
            subst (λ (y : ℕ). (states y).depth ≡ (after y).depth) same (sym (ap (λ (b : CopyState). b.depth) at_f))
        at x false e = sym (ap (λ (b : CopyState). b.depth) (others x e))

    start-nexts : nexts states ≡ nexts after
    start-nexts = λ i x. at x (eqb f x) refl i
      where
        at : (x : ℕ) (b : Bool) → eqb f x ≡ b → (states x).next ≡ (after x).next
        at x true e =
            let same : f ≡ x = eqb-true f x e in
            subst (λ (y : ℕ). (states y).next ≡ (after y).next) same (sym (ap (λ (b : CopyState). b.next) at_f))
        at x false e = sym (ap (λ (b : CopyState). b.next) (others x e))

    start-on : (x : ℕ) → (after x).once ≡ true → (eqb f x ≡ false) × ((states x).once ≡ true)
    start-on x on = by (eqb f x) refl
      where
        by : (b : Bool) → eqb f x ≡ b → (b ≡ false) × ((states x).once ≡ true)
        by true e = absurd (true≢false
            (sym on ∙ ap (λ (y : ℕ). (after y).once) (sym (eqb-true f x e)) ∙ ap (λ (b : CopyState). b.once) at_f))
        by false e = (refl, sym (ap (λ (b : CopyState). b.once) (others x e)) ∙ on)

    start-fewer : (x : ℕ) → ((after x).once ≡ (states x).once) ⊎ ((after x).once ≡ false)
    start-fewer x = by (eqb f x) refl
      where
        by : (b : Bool) → eqb f x ≡ b → ((after x).once ≡ (states x).once) ⊎ ((after x).once ≡ false)
        by true e = inr (ap (λ (y : ℕ). (after y).once) (sym (eqb-true f x e)) ∙ ap (λ (b : CopyState). b.once) at_f)
        by false e = inl (ap (λ (b : CopyState). b.once) (others x e))

    start-run : (c m : ℕ) → Stretch (depths states) (nexts states) (states c).depth (states c).next m
        → Stretch (depths after) (nexts after) (after c).depth (after c).next m
    start-run c m run = subst (λ (d : ℕ → ℕ). Stretch d (nexts after) (d c) (after c).next m) start-depths
        (subst (λ (k : ℕ → Option ℕ). Stretch (depths states) k (states c).depth (k c) m) start-nexts run)

    start-depth : (x : ℕ) → (after x).depth ≡ (states x).depth
    start-depth x = λ i. (sym start-depths) i x

    start-next : (x : ℕ) → (after x).next ≡ (states x).next
    start-next x = λ i. (sym start-nexts) i x

    start-ordered : IsOrdered after firsts stays again number
    start-ordered = record {
      within = h.ordered.within;
      ended = h.ordered.ended;
      known = again-known;
      earlier = h.ordered.earlier;
      of_first = h.ordered.of_first;
      first = λ n t c s on. h.ordered.first n t c s (start-on n on).1;
      flat = λ n s. start-depth n ∙ h.ordered.flat n s;
      low = λ n. let l : (states n).depth ≤ n =
          h.ordered.low n in let d : (after n).depth ≡ (states n).depth = start-depth n in omega (arith, l, d);
      deeper = λ n t c s on. start-depth n ∙ h.ordered.deeper n t c s (start-on n on).1
          ∙ ap (λ (d : ℕ). d + 1) (sym (start-depth c));
      runs = λ n t c s on from_on. start-run c n (h.ordered.runs n t c s (start-on n on).1 (start-on c from_on).1);
      one_before = λ one other n e g. h.ordered.one_before one other n (sym (start-next one) ∙ e)
          (sym (start-next other) ∙ g);
      no_link_to_a_root = λ n m e.
          let b : 0 < (states m).depth = h.ordered.no_link_to_a_root n m (sym (start-next n) ∙ e) in
          let d : (after m).depth ≡ (states m).depth = start-depth m in
          omega (arith, b, d);
    }

    sound-first : (o : Option (ℕ × ℕ)) → stays f ≡ o → is_whole after again o ≡ false
    sound-first None s =
        let z : (states f).depth ≡ 0 = h.ordered.flat f s in
        absurd (omega (arith, z, deep))
    sound-first (Some (t, c)) s =
        ap (λ (a : Bool). a && (after c).once)
        (twice t (eq-eqb transit t (sym (h.ordered.of_first transit f t c first s))))

    sound-other : (n : ℕ) (o : Option (ℕ × ℕ)) → stays n ≡ o → (states n).once ≡ false
        → is_whole after again o ≡ false
    sound-other n None s off = absurd (true≢false (sym (ap (is_whole states leaves) s) ∙ sym (h.once n) ∙ off))
    sound-other n (Some (t, c)) s off = by (eqb transit t) refl
      where
        by : (b : Bool) → eqb transit t ≡ b → (is_once (again t) && (after c).once) ≡ false
        by true e = ap (λ (a : Bool). a && (after c).once) (twice t e)
        by false e =
            ap (λ (o : Option Bool). is_once o && (after c).once) (other t e)
            ∙ lower (is_once (leaves t)) (states c).once (after c).once
            (sym (ap (is_whole states leaves) s) ∙ sym (h.once n) ∙ off) (start-fewer c)

    start-sound : (n : ℕ) → (after n).once ≡ false → is_whole after again (stays n) ≡ false
    start-sound n off = by (eqb f n) refl
      where
        by : (b : Bool) → eqb f n ≡ b → is_whole after again (stays n) ≡ false
        by true e = subst (λ (y : ℕ). is_whole after again (stays y) ≡ false) (eqb-true f n e)
            (sound-first (stays f) refl)
        by false e = sound-other n (stays n) refl (sym (ap (λ (b : CopyState). b.once) (others n e)) ∙ off)

    start-ahead : (n t c : ℕ) → stays n ≡ Some (t, c) → (after n).once ≡ true
        → (is_once (again t) && (after c).once) ≡ false
        → Stretch (depths after) (nexts after) (after f).depth (after f).next n × ((after f).depth < (after n).depth)
    start-ahead n t c s on broken = by (eqb f c) refl
      where
        old : (eqb f n ≡ false) × ((states n).once ≡ true)
        old = start-on n on

        parts : (is_once (leaves t) ≡ true) × ((states c).once ≡ true)
        parts = whole-parts n t c s old.1

        by : (b : Bool) → eqb f c ≡ b
            → Stretch (depths after) (nexts after) (after f).depth (after f).next n
            × ((after f).depth < (after n).depth)
        by true e =
            let same : f ≡ c = eqb-true f c e in
            let run = h.ordered.runs n t c s old.1 parts.1 in
            let d : (states n).depth ≡ (states c).depth + 1 = h.ordered.deeper n t c s old.1 in
            let deep_f : (after f).depth ≡ (states c).depth =
            start-depth f ∙ ap (λ (x : ℕ). (states x).depth) same in
            let deep_n : (after n).depth ≡ (states n).depth = start-depth n in (
              subst (λ (x : ℕ). Stretch (depths after) (nexts after) (after x).depth (after x).next n) (sym same)
                  (start-run c n run),
              omega (arith, d, deep_f, deep_n),
            )
        by false e =
            let one : is_once (again t) ≡ true = ap is_once (other t (alive-other n t c s old.1 old.0)) ∙ parts.0 in
            let on_c : (after c).once ≡ true = ap (λ (b : CopyState). b.once) (others c e) ∙ parts.1 in
            absurd (true≢false (sym (λ i. one i && on_c i) ∙ broken))

    pub cut_start : IsCutting after firsts stays again number f
    cut_start = record {
      ordered =
          start-ordered;
      sound = start-sound;
      ahead = start-ahead;
      off = ap (λ (b : CopyState). b.once) at_f;
    }

module _ (states : CopyStates) (firsts : Firsts) (stays : LastStays) (leaves : Leaves) (number c : ℕ)
    (h : IsCutting states firsts stays leaves number c) where
  -- the copy after the cut one is deeper: it grew from it
  module _ (after : CopyStates) (y : ℕ) (follows : (states c).next ≡ Some y)
      (deep : (states c).depth < (states y).depth)
      (at_y : after y ≡ record { once = false; depth = (states y).depth; next = None })
      (at_c : after c ≡ record (states c) { next = (states y).next })
      (others : (x : ℕ) → eqb c x ≡ false → eqb y x ≡ false → after x ≡ states x) where
    step-depths : depths states ≡ depths after
    step-depths = λ i x. at x (eqb c x) (eqb y x) refl refl i
      where
        at : (x : ℕ) (a b : Bool) → eqb c x ≡ a → eqb y x ≡ b → (states x).depth ≡ (after x).depth
        at x true b e g = subst (λ (z : ℕ). (states z).depth ≡ (after z).depth) (eqb-true c x e)
            (sym (ap (λ (b : CopyState). b.depth) at_c))
        at x false true e g = subst (λ (z : ℕ). (states z).depth ≡ (after z).depth) (eqb-true y x g)
            (sym (ap (λ (b : CopyState). b.depth) at_y))
        at x false false e g = sym (ap (λ (b : CopyState). b.depth) (others x e g))

    step-depth : (x : ℕ) → (after x).depth ≡ (states x).depth
    step-depth x = λ i. (sym step-depths) i x

    off_c : (after c).once ≡ false
    off_c = ap (λ (b : CopyState). b.once) at_c ∙ h.off

    off_y : (after y).once ≡ false
    off_y = ap (λ (b : CopyState). b.once) at_y

    step-on : (x : ℕ) → (after x).once ≡ true → ((eqb c x ≡ false) × (eqb y x ≡ false)) × ((states x).once ≡ true)
    step-on x on = by (eqb c x) (eqb y x) refl refl
      where
        by : (a b : Bool) → eqb c x ≡ a → eqb y x ≡ b → ((a ≡ false) × (b ≡ false)) × ((states x).once ≡ true)
        by true b e g = absurd (true≢false (sym on ∙ ap (λ (z : ℕ). (after z).once) (sym (eqb-true c x e)) ∙ off_c))
        by false true e g = absurd (true≢false
            (sym on ∙ ap (λ (z : ℕ). (after z).once) (sym (eqb-true y x g)) ∙ off_y))
        by false false e g = ((refl, refl), sym (ap (λ (b : CopyState). b.once) (others x e g)) ∙ on)

    step-same : (x : ℕ) → eqb y x ≡ false → (after x).once ≡ (states x).once
    step-same x g = by (eqb c x) refl
      where
        by : (a : Bool) → eqb c x ≡ a → (after x).once ≡ (states x).once
        by true e = subst (λ (z : ℕ). (after z).once ≡ (states z).once) (eqb-true c x e)
            (ap (λ (b : CopyState). b.once) at_c)
        by false e = ap (λ (b : CopyState). b.once) (others x e g)

    step-fewer : (x : ℕ) → ((after x).once ≡ (states x).once) ⊎ ((after x).once ≡ false)
    step-fewer x = by (eqb y x) refl
      where
        by : (b : Bool) → eqb y x ≡ b → ((after x).once ≡ (states x).once) ⊎ ((after x).once ≡ false)
        by true g = inr (ap (λ (z : ℕ). (after z).once) (sym (eqb-true y x g)) ∙ off_y)
        by false g = inl (step-same x g)

    next_c : (after c).next ≡ (states y).next
    next_c = ap (λ (b : CopyState). b.next) at_c

    shrunk : (above : ℕ) (l : List ℕ) (from : Option ℕ) (to : ℕ)
        → IsStretch (depths states) (nexts states) above from l to → (from ≡ Some y → ⊥) → (to ≡ y → ⊥)
        → Stretch (depths after) (nexts after) above from to
    shrunk above l from to run apart other =
        subst (λ (d : ℕ → ℕ). Stretch d (nexts after) above from to) step-depths
        (shrunk_run (depths states) (nexts states) (nexts after) c y follows deep h.ordered.one_before next_c
        (λ x e g. ap (λ (b : CopyState). b.next) (others x e g)) above l from to run apart other)

    itself : (states y).next ≡ Some y → ⊥
    itself = not_itself (depths states) (nexts states) (nexts after) c y follows deep h.ordered.one_before next_c
        (λ x e g. ap (λ (b : CopyState). b.next) (others x e g))

    step-runs : (n t p : ℕ) → stays n ≡ Some (t, p) → (after n).once ≡ true → (after p).once ≡ true
        → Stretch (depths after) (nexts after) (after p).depth (after p).next n
    step-runs n t p s on from_on =
        let at_n = step-on n on in
        let at_p = step-on p from_on in
        let run = h.ordered.runs n t p s at_n.1 at_p.1 in
        let moved = shrunk (states p).depth run.through (states p).next n run.leads
        (λ e. eqb-false c p at_p.0.0 (sym (h.ordered.one_before p c y e follows)))
        (λ e. eqb-false y n at_n.0.1 (sym e)) in
        subst (λ (b : CopyState). Stretch (depths after) (nexts after) b.depth b.next n)
        (sym (others p at_p.0.0 at_p.0.1)) moved

    abbrev Back : ℕ → ℕ → Type 0
    Back x m = (z : ℕ) × ((states z).next ≡ Some m) × (x ≡ cond (eqb y z) c z)

    back : (x m : ℕ) → (after x).next ≡ Some m → Back x m
    back x m e = by (eqb c x) (eqb y x) refl refl
      where
        by : (a b : Bool) → eqb c x ≡ a → eqb y x ≡ b → Back x m
        by true b g k =
            let same : c ≡ x = eqb-true c x g in (
              y,
              sym next_c ∙ ap (λ (z : ℕ). (after z).next) same ∙ e,
              sym same
                  ∙ sym (λ i. cond (eq-eqb y y refl i) c y),
            )
        by false true g k = absurd (none-some m
            (sym (ap (λ (b : CopyState). b.next) at_y) ∙ ap (λ (z : ℕ). (after z).next) (eqb-true y x k) ∙ e))
        by false false g k = (x, sym (ap (λ (b : CopyState). b.next) (others x g k)) ∙ e, sym (λ i. cond (k i) c x))

    step-one : (one other m : ℕ) → (after one).next ≡ Some m → (after other).next ≡ Some m → one ≡ other
    step-one one other m e g =
        let a = back one m e in
        let b = back other m g in
        a.2 ∙ ap (λ (z : ℕ). cond (eqb y z) c z) (h.ordered.one_before a.0 b.0 m a.1 b.1) ∙ sym b.2

    step-ordered : IsOrdered after firsts stays leaves number
    step-ordered = record {
      within = h.ordered.within;
      ended = h.ordered.ended;
      known = h.ordered.known;
      earlier = h.ordered.earlier;
      of_first = h.ordered.of_first;
      first = λ n t p s on. h.ordered.first n t p s (step-on n on).1;
      flat = λ n s. step-depth n ∙ h.ordered.flat n s;
      low = λ n. let l : (states n).depth ≤ n =
          h.ordered.low n in let d : (after n).depth ≡ (states n).depth = step-depth n in omega (arith, l, d);
      deeper = λ n t p s on. step-depth n ∙ h.ordered.deeper n t p s (step-on n on).1
          ∙ ap (λ (d : ℕ). d + 1) (sym (step-depth p));
      runs = step-runs;
      one_before = step-one;
      no_link_to_a_root = λ n m e.
          let a = back n m e in
          let b : 0 < (states m).depth = h.ordered.no_link_to_a_root a.0 m a.1 in
          let d : (after m).depth ≡ (states m).depth = step-depth m in
          omega (arith, b, d);
    }

    -- the copy after the cut one left after a stay that isn't once, or grew from such a copy
    sound-y : (b : Bool) (o : Option (ℕ × ℕ)) → (states y).once ≡ b → stays y ≡ o
        → is_whole states leaves o ≡ false
    sound-y false o off s = ap (is_whole states leaves) (sym s) ∙ h.sound y off
    sound-y true None on s =
        let z : (states y).depth ≡ 0 = h.ordered.flat y s in
        absurd (omega (arith, z, deep))
    sound-y true (Some (t, p)) on s = by (is_once (leaves t) && (states p).once) refl
      where
        by : (b : Bool) → (is_once (leaves t) && (states p).once) ≡ b → b ≡ false
        by true e =
            let p_on : (states p).once ≡ true = (and_parts (is_once (leaves t)) (states p).once e).1 in
            let run = h.ordered.runs y t p s on p_on in
            let before : (states p).depth < (states c).depth =
            before_run (depths states) (nexts states) c y follows h.ordered.one_before
            (states p).depth run.through (states p).next run.leads
            (λ g. absurd (true≢false (sym p_on
            ∙ ap (λ (z : ℕ). (states z).once) (h.ordered.one_before p c y g follows) ∙ h.off))) in
            let d : (states y).depth ≡ (states p).depth + 1 = h.ordered.deeper y t p s on in
            absurd (omega (arith, before, d, deep))
        by false e = refl

    step-sound : (n : ℕ) → (after n).once ≡ false → is_whole after leaves (stays n) ≡ false
    step-sound n off = by (eqb y n) refl
      where
        by : (b : Bool) → eqb y n ≡ b → is_whole after leaves (stays n) ≡ false
        by true e = subst (λ (z : ℕ). is_whole after leaves (stays z) ≡ false) (eqb-true y n e)
            (lower-whole states after leaves step-fewer (stays y) (sound-y (states y).once (stays y) refl refl))
        by false e = lower-whole states after leaves step-fewer (stays n) (h.sound n (sym (step-same n e) ∙ off))

    abbrev Ahead : ℕ → Type 0
    Ahead n = Stretch (depths after) (nexts after) (after c).depth (after c).next n
        × ((after c).depth < (after n).depth)

    -- from the cut copy, as before but for the one after it
    past_y : (n : ℕ) → eqb y n ≡ false → (l : List ℕ)
        → IsStretch (depths states) (nexts states) (states c).depth (states c).next l n
        → Stretch (depths after) (nexts after) (after c).depth (after c).next n
    past_y n apart [] run = absurd (eqb-false y n apart (same_Some y n (sym follows ∙ run)))
    past_y n apart (x ∷ l) run =
        let same : x ≡ y = same_Some x y (sym run.0 ∙ follows) in
        let rest = shrunk (states c).depth l (states y).next n
        (subst (λ (z : ℕ). IsStretch (depths states) (nexts states) (states c).depth (states z).next l n)
        same run.2) itself (λ e. eqb-false y n apart (sym e)) in
        subst (λ (b : CopyState). Stretch (depths after) (nexts after) b.depth b.next n) (sym at_c) rest

    step-ahead : (n t p : ℕ) → stays n ≡ Some (t, p) → (after n).once ≡ true
        → (is_once (leaves t) && (after p).once) ≡ false → Ahead n
    step-ahead n t p s on broken = by (is_once (leaves t) && (states p).once) refl
      where
        at_n : ((eqb c n ≡ false) × (eqb y n ≡ false)) × ((states n).once ≡ true)
        at_n = step-on n on

        deep_c : (after c).depth ≡ (states c).depth
        deep_c = step-depth c

        deep_n : (after n).depth ≡ (states n).depth
        deep_n = step-depth n

        from_y : (states p).once ≡ true → y ≡ p → Ahead n
        from_y p_on same =
            let run = h.ordered.runs n t p s at_n.1 p_on in
            let at : IsStretch (depths states) (nexts states) (states y).depth (states y).next run.through n =
            subst (λ (z : ℕ). IsStretch (depths states) (nexts states) (states z).depth
            (states z).next run.through n) (sym same) run.leads in
            let low : IsStretch (depths states) (nexts states) (states c).depth (states y).next run.through n =
            weaker (depths states) (nexts states) (states y).depth (states c).depth
            (omega (arith, deep)) run.through (states y).next n at in
            let moved = shrunk (states c).depth run.through (states y).next n low itself
            (λ e. eqb-false y n at_n.0.1 (sym e)) in
            let d : (states n).depth ≡ (states p).depth + 1 = h.ordered.deeper n t p s at_n.1 in
            let e : (states y).depth ≡ (states p).depth = ap (λ (z : ℕ). (states z).depth) same in (
              subst (λ (b : CopyState). Stretch (depths after) (nexts after) b.depth b.next n) (sym at_c) moved,
              omega
                  (arith, d, e, deep, deep_c, deep_n),
            )

        by : (b : Bool) → (is_once (leaves t) && (states p).once) ≡ b → Ahead n
        by true e =
            let parts = and_parts (is_once (leaves t)) (states p).once e in
            elim (eqb y p) as (λ b. eqb y p ≡ b → Ahead n) [
              | true ↦ λ g. from_y parts.1 (eqb-true y p g)
              | false ↦ λ g. absurd (true≢false (sym (λ i. parts.0 i && (step-same p g ∙ parts.1) i) ∙ broken))
            ] refl
        by false e =
            let old = h.ahead n t p s at_n.1 e in
            let d : (states c).depth < (states n).depth = old.1 in
            (past_y n at_n.0.1 old.0.through old.0.leads, omega (arith, d, deep_c, deep_n))

    pub cut_step : IsCutting after firsts stays leaves number c
    cut_step = record { ordered = step-ordered; sound = step-sound; ahead = step-ahead; off = off_c }

  -- no deeper copy is after the cut one
  module _ (over : (y : ℕ) → (states c).next ≡ Some y → (states y).depth ≤ (states c).depth) where
    none-ahead : (n : ℕ) (o : Option ℕ) (l : List ℕ) → (states c).next ≡ o
        → IsStretch (depths states) (nexts states) (states c).depth o l n
        → (states c).depth < (states n).depth → ⊥
    none-ahead n None l e run d = ends_nowhere (depths states) (nexts states) (states c).depth n l run
    none-ahead n (Some y) l e run d =
        no_run (depths states) (nexts states) (states c).depth y n (over y e) d l run

    whole-done : (n : ℕ) (b : Bool) (o : Option (ℕ × ℕ)) → (states n).once ≡ b → stays n ≡ o
        → b ≡ is_whole states leaves o
    whole-done n false o off s = sym (ap (is_whole states leaves) (sym s) ∙ h.sound n off)
    whole-done n true None on s = refl
    whole-done n true (Some (t, p)) on s = by (is_once (leaves t) && (states p).once) refl
      where
        by : (b : Bool) → (is_once (leaves t) && (states p).once) ≡ b → true ≡ b
        by true e = refl
        by false e =
            let left = h.ahead n t p s on e in
            absurd (none-ahead n (states c).next left.0.through refl left.0.leads left.1)

    pub cut_done : AreCopyStates states firsts stays leaves number
    cut_done = record { ordered = h.ordered; once = λ n. whole-done n (states n).once (stays n) refl refl }
