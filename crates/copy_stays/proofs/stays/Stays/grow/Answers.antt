use Rattle.std.proofs.Common.{◌≡◌, ◌∙◌, ℕ, ◌+◌, ◌<◌, ◌≤◌, ◌&&◌, eqb, true, false}
use Rattle.std.proofs.Common.{Option, Some, sym, ap, subst, arith, rules}
use Rattle.std.specs.Prelude.{is_some}
use Rattle.std.specs.BTreeMap.{get}
use Rattle.std.specs.Ordering.{nat_cmp}
use Rattle.copy_stays.specs.declared.stays.CopyState.{CopyState}
use Rattle.copy_stays.specs.Leaves.{Firsts, with_stay, is_once}
use Rattle.copy_stays.specs.Stays.{CopyStates, AreCopyStates, state_in}
use Rattle.copy_stays.proofs.CopyStates.{less-apart, with_state-here, with_state-there, grown, marked}
use Rattle.copy_stays.proofs.stays.Stays.grow.Goals as goal

pub returns-else-parent-clause-stays : goal.returns-else-parent-clause-stays
returns-else-parent-clause-stays c stays leaves transit h fresh first once its =
    let n : ℕ = c.args.number in
    let states : CopyStates = state_in c.args.self.now.states.items in
    let after : CopyStates = state_in c.set-else-parent.new.self.states.items in
    let off : (states c.args.from).once ≡ false =
    ap (λ (b : CopyState). b.once) (sym c.at-parent.ensures) ∙ c.if-parent.false in
    let twice : (is_once (leaves transit) && (states c.args.from).once) ≡ false = λ i. once i && off i in
    subst (λ (f : Firsts). AreCopyStates after f (with_stay n (Some (transit, c.args.from)) stays) leaves (n + 1))
    (sym (ap (get nat_cmp) c.set-else-parent.ensures.firsts))
    (marked states after (get nat_cmp c.args.self.now.firsts) stays leaves n transit c.args.from h fresh
    c.requires.below
    (ap (λ (o : Option ℕ). is_some o) first) its
    ((λ i. c.set-else-parent.ensures.states i n) ∙ with_state-here states n _ ∙ c.marked.ensures)
    (λ x e. (λ i. c.set-else-parent.ensures.states i x) ∙ with_state-there states n _ x e) twice)

pub returns-then-parent-clause-stays : goal.returns-then-parent-clause-stays
returns-then-parent-clause-stays c stays leaves transit h fresh first once its =
    let n : ℕ = c.args.number in
    let p : ℕ = c.args.from in
    let states : CopyStates = state_in c.args.self.now.states.items in
    let middle : CopyStates = state_in c.set.new.self.states.items in
    let after : CopyStates = state_in c.set-then-parent.new.self.states.items in
    let parent = c.at-parent.result in
    let below : p < n = c.requires.below in
    let on : (states p).once ≡ true = ap (λ (b : CopyState). b.once) (sym c.at-parent.ensures) ∙ c.if-parent.true in
    let bound : n < 18446744073709551616 = search rules in
    let same : parent.depth ≡ (states p).depth = ap (λ (b : CopyState). b.depth) c.at-parent.ensures in
    let low : (states p).depth ≤ p = h.ordered.low p in
    let sum : c.saturating_add-depth.result ≡ (states p).depth + 1 =
    omega (arith, c.saturating_add-depth.ensures, same, low, below, bound) in
    let at_p : after p ≡ record (states p) { next = Some n } =
    (λ i. c.set-then-parent.ensures.states i p) ∙ with_state-there middle n _ p (less-apart p n below)
    ∙ (λ i. c.set.ensures.states i p) ∙ with_state-here states p _
    ∙ ap (λ (b : CopyState). let d : CopyState = record b { next = Some n } in d) c.at-parent.ensures in
    let at_n : after n ≡ record { once = true; depth = (states p).depth + 1; next = (states p).next } =
    (λ i. c.set-then-parent.ensures.states i n) ∙ with_state-here middle n _
    ∙ (λ i. let d : CopyState = record { once = true; depth = sum i; next = (c.at-parent.ensures i).next } in d) in
    let others : (x : ℕ) → eqb p x ≡ false → eqb n x ≡ false → after x ≡ states x = λ x e g.
    (λ i. c.set-then-parent.ensures.states i x) ∙ with_state-there middle n _ x g
    ∙ (λ i. c.set.ensures.states i x) ∙ with_state-there states p _ x e in
    subst (λ (f : Firsts). AreCopyStates after f (with_stay n (Some (transit, p)) stays) leaves (n + 1))
    (sym (ap (get nat_cmp) (c.set-then-parent.ensures.firsts ∙ c.set.ensures.firsts)))
    (grown states after (get nat_cmp c.args.self.now.firsts) stays leaves n transit p h fresh below
    (ap (λ (o : Option ℕ). is_some o) first) its at_p at_n others on once first)
