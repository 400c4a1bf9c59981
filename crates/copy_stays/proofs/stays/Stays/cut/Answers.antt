use Rattle.std.proofs.Common.{◌≡◌, ◌∙◌, ℕ, ◌+◌, ◌<◌, ◌≤◌, eqb, true, false, Some, None}
use Rattle.std.proofs.Common.{length, Bool, cond, refl, sym, ap, subst, arith}
use Rattle.std.specs.BTreeMap.{get}
use Rattle.std.specs.Ordering.{nat_cmp}
use Rattle.std.proofs.lemmas.Bool.{eqb-true}
use Rattle.std.specs.Prelude.{is_some}
use Rattle.std.proofs.lemmas.Bool.Decides.{nat_tests}
use Rattle.std.proofs.lemmas.Option.{same_Some, none-some}
use Rattle.copy_stays.specs.declared.stays.CopyState.{CopyState}
use Rattle.copy_stays.specs.Leaves.{left_again, Firsts}
use Rattle.copy_stays.specs.Stays.{CopyStates, AreCopyStates, state_in}
use Rattle.copy_stays.specs.Inner.Steps.{with_state}
use Rattle.copy_stays.proofs.CopyStates.{with_state-here, with_state-there}
use Rattle.copy_stays.proofs.Links.{link, links, links_with, deep_within}
use Rattle.copy_stays.proofs.Cutting.{cut_flat, cut_start, cut_step, cut_done}
use Rattle.copy_stays.proofs.stays.Stays.cut.Goals as goal

pub returns-then-depth-eq0-clause-stays : goal.returns-then-depth-eq0-clause-stays
returns-then-depth-eq0-clause-stays c stays leaves number transit first h =
    cut_flat (state_in c.args.self.now.states.items)
    (get nat_cmp c.args.self.now.firsts) stays leaves number transit c.args.first h first
    (ap (λ (b : CopyState). b.depth) (sym c.at-left.ensures) ∙ c.if-depth-eq0.true)

pub set-requires : goal.set-requires
set-requires c =
    let same : c.at-left.result.depth ≡ (state_in c.args.self.now.states.items c.args.first).depth =
    ap (λ (b : CopyState). b.depth) c.at-left.ensures in
    let deep : c.at-left.result.depth ≡ 0 → ⊥ = c.if-depth-eq0.false in
    deep_within c.args.self.now.states.items c.args.first (omega (arith, same, deep))

pub loop-copy-init : goal.loop-copy-init
loop-copy-init c =
    let states : CopyStates = state_in c.args.self.now.states.items in
    let after : CopyStates = state_in c.set.new.self.states.items in
    let f : ℕ = c.args.first in
    let same : c.at-left.result.depth ≡ (states f).depth = ap (λ (b : CopyState). b.depth) c.at-left.ensures in
    let nonzero : c.at-left.result.depth ≡ 0 → ⊥ = c.if-depth-eq0.false in
    let at_f : after f ≡ record (states f) { once = false } =
    (λ i. c.set.ensures.states i f) ∙ with_state-here states f _
    ∙ ap (λ (b : CopyState). let d : CopyState = record b { once = false } in d) c.at-left.ensures in
    let others : (x : ℕ) → eqb f x ≡ false → after x ≡ states x =
    λ x e. (λ i. c.set.ensures.states i x) ∙ with_state-there states f _ x e in (
      λ stays leaves number transit first h.
          cut_start states (get nat_cmp c.args.self.now.firsts) stays leaves number transit f h first after
          (omega (arith, same, nonzero)) at_f others,
      c.set.ensures.firsts,
      c.set.ensures.length,
      same ∙ sym (ap (λ (b : CopyState). b.depth) at_f),
      omega (arith, nonzero),
    )

pub returns-then-grown-depth-clause-stays : goal.returns-then-grown-depth-clause-stays
returns-then-grown-depth-clause-stays c stays leaves number transit first h =
    let states : CopyStates = state_in c.loop-copy.self.states.items in
    let inv = c.loop-copy.invariant in
    let cutting = inv.0 stays leaves number transit first h in
    let link_is : (states c.args.first).next ≡ Some c.in-Some.copy =
    ap (λ (b : CopyState). b.next) (sym c.at.ensures) ∙ c.in-Some.is in
    let over : (y : ℕ) → (states c.args.first).next ≡ Some y → (states y).depth ≤ (states c.args.first).depth =
    λ y e.
    let same : c.in-Some.copy ≡ y = same_Some _ _ (sym link_is ∙ e) in
    let grown : c.at-grown.result.depth ≡ (states y).depth =
    ap (λ (b : CopyState). b.depth) c.at-grown.ensures ∙ ap (λ (x : ℕ). (states x).depth) same in
    let low : c.at-grown.result.depth ≤ c.at-left.result.depth = c.if-grown-depth.true in
    let deep : c.at-left.result.depth ≡ (states c.args.first).depth = inv.3 in
    omega (arith, grown, low, deep) in
    subst (λ (f : Firsts). AreCopyStates states f stays (left_again transit leaves) number)
    (sym (ap (get nat_cmp) inv.1))
    (cut_done states (get nat_cmp c.args.self.now.firsts) stays
    (left_again transit leaves) number c.args.first cutting over)

pub set-requires-in-Some : goal.set-requires-in-Some
set-requires-in-Some c =
    let states : CopyStates = state_in c.loop-copy.self.states.items in
    let grown : c.at-grown.result.depth ≡ (states c.in-Some.copy).depth =
    ap (λ (b : CopyState). b.depth) c.at-grown.ensures in
    let low = c.if-grown-depth.false in
    deep_within c.loop-copy.self.states.items c.in-Some.copy (omega (arith, grown, low))

pub set-requires-in-Some-2 : goal.set-requires-in-Some-2
set-requires-in-Some-2 c =
    let inv = c.loop-copy.invariant in
    let deep : c.at-left.result.depth ≡ (state_in c.loop-copy.self.states.items c.args.first).depth = inv.3 in
    let some : 0 < c.at-left.result.depth = inv.4 in
    let within : c.args.first < length c.loop-copy.self.states.items =
    deep_within c.loop-copy.self.states.items c.args.first (omega (arith, deep, some)) in
    let same : length c.set-in-Some.new.self.states.items ≡ length c.loop-copy.self.states.items =
    c.set-in-Some.ensures.length in
    omega (arith, within, same)

-- after an iteration
module _ (states middle after : CopyStates) (f y depth : ℕ) (grown : CopyState) (at : states y ≡ grown)
    (deep : depth ≡ (states f).depth) (deeper : grown.depth ≤ depth → ⊥)
    (first : middle ≡ with_state y (record { once = false; depth = grown.depth; next = None }) states)
    (second : after ≡ with_state f (record { once = false; depth = depth; next = grown.next }) middle) where
  pub is_deeper : (states f).depth < (states y).depth
  is_deeper =
      let same : (states y).depth ≡ grown.depth = ap (λ (b : CopyState). b.depth) at in
      omega (arith, same, deep, deeper)

  pub apart : eqb f y ≡ false
  apart = by (eqb f y) refl
    where
      by : (b : Bool) → eqb f y ≡ b → b ≡ false
      by true e =
          let same : (states f).depth ≡ (states y).depth = ap (λ (x : ℕ). (states x).depth) (eqb-true f y e) in
          let less : (states f).depth < (states y).depth = is_deeper in
          absurd (omega (arith, same, less))
      by false e = refl

  pub then_at_y : after y ≡ record { once = false; depth = (states y).depth; next = None }
  then_at_y =
      (λ i. second i y) ∙ with_state-there middle f _ y apart ∙ (λ i. first i y) ∙ with_state-here states y _
      ∙ ap (λ (b : CopyState). let d : CopyState = record { once = false; depth = b.depth; next = None } in d) (sym at)

  pub then_at_f : (states f).once ≡ false → after f ≡ record (states f) { next = (states y).next }
  then_at_f off =
      (λ i. second i f) ∙ with_state-here middle f _
      ∙ (λ i. let d : CopyState = record { once = sym off i; depth = deep i; next = (sym at i).next } in d)

  pub then_others : (x : ℕ) → eqb f x ≡ false → eqb y x ≡ false → after x ≡ states x
  then_others x e g = (λ i. second i x) ∙ with_state-there middle f _ x e ∙ (λ i. first i x)
      ∙ with_state-there states y _ x g

  -- one copy less has another after it
  pub fewer : (n : ℕ) → (states f).next ≡ Some y → y < n → f < n → links after n < links states n
  fewer n follows in_y in_f =
      let one : links middle n + link (states y) ≡ links states n + 0 =
      (λ i. links (first i) n + link (states y)) ∙ links_with states y _ n in_y in
      let two : links after n + link (middle f)
      ≡ links middle n + link (record { once = false; depth = depth; next = grown.next }) =
      (λ i. links (second i) n + link (middle f)) ∙ links_with middle f _ n in_f in
      let mid : link (middle f) ≡ 1 = ap link ((λ i. first i f) ∙ with_state-there states y _ f (turned apart))
      ∙ (λ i. cond (is_some (follows i)) 1 0) in
      let same : link (states y) ≡ link (record { once = false; depth = depth; next = grown.next }) =
      (λ i. cond (is_some (at i).next) 1 0) in
      omega (arith, one, two, mid, same)
    where
      turned : eqb f y ≡ false → eqb y f ≡ false
      turned e = grind (arith, nat_tests)

pub loop-copy-smaller : goal.loop-copy-smaller
loop-copy-smaller c =
    let f : ℕ = c.args.first in
    let y : ℕ = c.in-Some.copy in
    let items = c.loop-copy.self.states.items in
    let states : CopyStates = state_in items in
    let inv = c.loop-copy.invariant in
    let grown = c.at-grown.result in
    let follows : (states f).next ≡ Some y = ap (λ (b : CopyState). b.next) (sym c.at.ensures) ∙ c.in-Some.is in
    let deep : c.at-left.result.depth ≡ (states f).depth = inv.3 in
    let some : 0 < c.at-left.result.depth = inv.4 in
    let same : grown.depth ≡ (states y).depth = ap (λ (b : CopyState). b.depth) c.at-grown.ensures in
    let more : c.at-left.result.depth < grown.depth = c.if-grown-depth.false in
    let in_f : f < length items = deep_within items f (omega (arith, deep, some)) in
    let in_y : y < length items = deep_within items y (omega (arith, same, more)) in
    let kept : length c.set-in-Some-2.new.self.states.items ≡ length items =
    c.set-in-Some-2.ensures.length ∙ c.set-in-Some.ensures.length in
    let less = fewer states (state_in c.set-in-Some.new.self.states.items)
    (state_in c.set-in-Some-2.new.self.states.items) f y c.at-left.result.depth grown
    (sym c.at-grown.ensures) deep
    (λ low. absurd (omega (arith, low, more))) c.set-in-Some.ensures.states c.set-in-Some-2.ensures.states
    (length items) follows in_y in_f in
    subst (λ (n : ℕ). links (state_in c.set-in-Some-2.new.self.states.items) n < links states (length items))
    (sym kept) less

pub loop-copy-preserved : goal.loop-copy-preserved
loop-copy-preserved c =
    let f : ℕ = c.args.first in
    let y : ℕ = c.in-Some.copy in
    let states : CopyStates = state_in c.loop-copy.self.states.items in
    let middle : CopyStates = state_in c.set-in-Some.new.self.states.items in
    let after : CopyStates = state_in c.set-in-Some-2.new.self.states.items in
    let inv = c.loop-copy.invariant in
    let grown = c.at-grown.result in
    let depth = c.at-left.result.depth in
    let follows : (states f).next ≡ Some y = ap (λ (b : CopyState). b.next) (sym c.at.ensures) ∙ c.in-Some.is in
    let more : depth < grown.depth = c.if-grown-depth.false in
    let shallow : grown.depth ≤ depth → ⊥ = λ low. absurd (omega (arith, low, more)) in
    let first = c.set-in-Some.ensures.states in
    let second = c.set-in-Some-2.ensures.states in
    let at = sym c.at-grown.ensures in
    let own : depth ≡ (after f).depth =
    sym (ap (λ (b : CopyState). b.depth) ((λ i. second i f) ∙ with_state-here middle f _)) in (
      λ stays leaves number transit named h.
          let cutting = inv.0 stays leaves number transit named h in
          cut_step states (get nat_cmp c.args.self.now.firsts) stays
          (left_again transit leaves) number f cutting after y follows
          (is_deeper states middle after f y depth grown at inv.3 shallow first second)
          (then_at_y states middle after f y depth grown at inv.3 shallow first second)
          (then_at_f states middle after f y depth grown at inv.3 shallow first second cutting.off)
          (then_others states middle after f y depth grown at inv.3 shallow first second),
      c.set-in-Some-2.ensures.firsts ∙ c.set-in-Some.ensures.firsts ∙ inv.1,
      c.set-in-Some-2.ensures.length ∙ c.set-in-Some.ensures.length ∙ inv.2,
      own,
      inv.4,
    )

pub returns-clause-stays : goal.returns-clause-stays
returns-clause-stays c stays leaves number transit first h =
    let states : CopyStates = state_in c.loop-copy.self.states.items in
    let inv = c.loop-copy.invariant in
    let cutting = inv.0 stays leaves number transit first h in
    let over : (y : ℕ) → (states c.args.first).next ≡ Some y → (states y).depth ≤ (states c.args.first).depth =
    λ y e. absurd (none-some y (sym c.in_default.is ∙ ap (λ (b : CopyState). b.next) c.at.ensures ∙ e)) in
    subst (λ (f : Firsts). AreCopyStates states f stays (left_again transit leaves) number)
    (sym (ap (get nat_cmp) inv.1))
    (cut_done states (get nat_cmp c.args.self.now.firsts) stays
    (left_again transit leaves) number c.args.first cutting over)
