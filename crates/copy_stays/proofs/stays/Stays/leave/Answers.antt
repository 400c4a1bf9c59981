use Rattle.std.proofs.Common.{◌≡◌, ◌∙◌, ℕ, ◌+◌, Bool, true, false, cond, eqb, Option, Some, None, refl, sym, ap, subst}
use Rattle.std.proofs.Common.{arith}
use Rattle.std.specs.Prelude.{option_map, is_some}
use Rattle.std.specs.BTreeMap.{get}
use Rattle.std.specs.Ordering.{nat_cmp}
use Rattle.std.specs.Option.{option_or}
use Rattle.std.proofs.lemmas.Bool.{eqb-true}
use Rattle.copy_stays.specs.Leaves.{Leaves, left_again, Firsts, first_kept, is_once, LastStays, with_stay}
use Rattle.copy_stays.proofs.Kept.{or_nothing}
use Rattle.copy_stays.specs.Stays.{CopyStates, AreCopyStates, AreStays, state_in}
use Rattle.copy_stays.specs.Inner.Steps.{with_first}
use Rattle.copy_stays.proofs.CopyStates.{same_states, one_more, with_none, unused, first_named, named_here, named_alone}
use Rattle.copy_stays.proofs.CopyStates.{ended_once, left_again_of, with_state-here, with_state-there}
use Rattle.copy_stays.proofs.stays.Stays.leave.Goals as goal

pub returns-then-is_some-clause-stays : goal.returns-then-is_some-clause-stays
returns-then-is_some-clause-stays c stays leaves h =
    let n : ℕ = c.args.number in
    let transit : ℕ = c.args.transit in
    let old : CopyStates = state_in c.args.self.now.states.items in
    let cut : CopyStates = state_in c.cut.new.self.states.items in
    let after : CopyStates = state_in c.set.new.self.states.items in
    let firsts : Firsts = get nat_cmp c.args.self.now.firsts in
    let reached : AreStays c.reach.new.self stays leaves n =
    same_states old (state_in c.reach.new.self.states.items) firsts
    (get nat_cmp c.reach.new.self.firsts) stays leaves n c.reach.ensures.states
    (ap (get nat_cmp) c.reach.ensures.firsts) h in
    let first : get nat_cmp c.reach.new.self.firsts transit ≡ Some c.in-Some.first =
    sym c.first.ensures ∙ c.in-Some.is in
    let marked : AreCopyStates cut (get nat_cmp c.cut.new.self.firsts) stays (left_again transit leaves) n =
    c.cut.ensures.stays stays leaves n transit first reached in
    let named : get nat_cmp c.cut.new.self.firsts ≡ get nat_cmp c.reach.new.self.firsts =
    ap (get nat_cmp) c.cut.ensures.firsts in
    let same : get nat_cmp c.set.new.self.firsts ≡ get nat_cmp c.reach.new.self.firsts =
    ap (get nat_cmp) c.set.ensures.firsts ∙ named in
    same_states after after (get nat_cmp c.reach.new.self.firsts) (get nat_cmp c.set.new.self.firsts) _
    (left_again transit leaves) (n + 1) refl same
    (left_again_of (state_in c.reach.new.self.states.items) cut after
    (get nat_cmp c.reach.new.self.firsts) stays leaves n transit c.in-Some.first reached first
    (same_states cut cut (get nat_cmp c.cut.new.self.firsts) (get nat_cmp c.reach.new.self.firsts) stays
    (left_again transit leaves) n refl (sym named) marked)
    ((λ i. c.set.ensures.states i n) ∙ with_state-here cut n _ ∙ c.marked.ensures)
    (λ x e. (λ i. c.set.ensures.states i x) ∙ with_state-there cut n _ x e)
    c.args.from (sym c.is_some.ensures ∙ c.if-is_some.true) c.requires)

pub returns-else-is_some-clause-stays : goal.returns-else-is_some-clause-stays
returns-else-is_some-clause-stays c stays leaves h =
    let n : ℕ = c.args.number in
    let transit : ℕ = c.args.transit in
    let cut : CopyStates = state_in c.cut.new.self.states.items in
    let reached : AreStays c.reach.new.self stays leaves n =
    same_states (state_in c.args.self.now.states.items) (state_in c.reach.new.self.states.items)
    (get nat_cmp c.args.self.now.firsts) (get nat_cmp c.reach.new.self.firsts) stays leaves n
    c.reach.ensures.states (ap (get nat_cmp) c.reach.ensures.firsts) h in
    let first : get nat_cmp c.reach.new.self.firsts transit ≡ Some c.in-Some.first =
    sym c.first.ensures ∙ c.in-Some.is in
    let marked : AreCopyStates cut (get nat_cmp c.cut.new.self.firsts) stays (left_again transit leaves) n =
    c.cut.ensures.stays stays leaves n transit first reached in
    let none : c.args.from ≡ None = is_none c.args.from (sym c.is_some.ensures ∙ c.if-is_some.false) in
    subst (λ (o : Option ℕ). AreCopyStates cut (get nat_cmp c.cut.new.self.firsts)
    (with_stay n (option_map (λ copy. (transit, copy)) o) stays) (left_again transit leaves) (n + 1)) (sym none)
    (one_more cut (get nat_cmp c.cut.new.self.firsts) stays (left_again transit leaves) n marked)
  where
    is_none : (o : Option ℕ) → is_some o ≡ false → o ≡ None
    is_none None e = refl
    is_none (Some x) e = grind (arith, e)

-- the stay has its first Leave line now
module _ (old reached named : CopyStates) (firsts firsts_reached firsts_named : Firsts) (stays : LastStays)
    (leaves : Leaves) (n transit : ℕ)
    (b : reached ≡ old) (f : firsts_reached ≡ firsts) (k : named ≡ reached)
    (g : firsts_named ≡ with_first transit n firsts_reached) (none : firsts_reached transit ≡ None)
    (h : AreCopyStates old firsts stays leaves n) where
  before : AreCopyStates reached firsts_reached stays leaves n
  before = same_states old reached firsts firsts_reached stays leaves n b f h

  pub now_named : AreCopyStates named firsts_named stays (left_again transit leaves) (n + 1)
  now_named =
      same_states reached named (with_first transit n firsts_reached) firsts_named stays (left_again transit leaves)
      (n + 1) k g
      (first_named reached firsts_reached stays leaves n transit before none)

  pub now_here : firsts_named transit ≡ Some n
  now_here = (λ i. g i transit) ∙ named_here reached firsts_reached stays leaves n transit before none

  pub now_alone : (other : ℕ) → firsts_named other ≡ Some n → other ≡ transit
  now_alone other e = named_alone reached firsts_reached stays leaves n transit before none other
      (sym (λ i. g i other) ∙ e)

  pub now_once : is_once (left_again transit leaves transit) ≡ true
  now_once = ended_once reached firsts_reached stays leaves n transit before none

pub returns-in-Some-from-clause-stays : goal.returns-in-Some-from-clause-stays
returns-in-Some-from-clause-stays c stays leaves h =
    let n : ℕ = c.args.number in
    let transit : ℕ = c.args.transit in
    let old : CopyStates = state_in c.args.self.now.states.items in
    let reached : CopyStates = state_in c.reach.new.self.states.items in
    let named : CopyStates = state_in c.keep_first.new.self.states.items in
    let firsts : Firsts = get nat_cmp c.args.self.now.firsts in
    let before : Firsts = get nat_cmp c.reach.new.self.firsts in
    let now : Firsts = get nat_cmp c.keep_first.new.self.firsts in
    let none : before transit ≡ None = sym c.first.ensures ∙ c.in_default.is in
    let k : named ≡ reached = ap (λ (v : _). state_in v.items) c.keep_first.ensures.states in
    let g : now ≡ with_first transit n before = c.in_ok-keep_first.ensures.named in
    let f : before ≡ firsts = ap (get nat_cmp) c.reach.ensures.firsts in
    subst (λ (o : Option ℕ). AreStays c.grow.new.self (with_stay n (option_map (λ copy. (transit, copy)) o) stays)
    (left_again transit leaves) (n + 1)) (sym c.in-Some-from.is)
    (c.grow.ensures.stays stays (left_again transit leaves) transit
    (now_named old reached named firsts before now stays leaves n transit c.reach.ensures.states f k g none h)
    (unused old firsts stays leaves n h)
    (now_here old reached named firsts before now stays leaves n transit c.reach.ensures.states f k g none h)
    (now_once old reached named firsts before now stays leaves n transit c.reach.ensures.states f k g none h)
    (now_alone old reached named firsts before now stays leaves n transit c.reach.ensures.states f k g none h))

pub returns-in_default-from-clause-stays : goal.returns-in_default-from-clause-stays
returns-in_default-from-clause-stays c stays leaves h =
    let n : ℕ = c.args.number in
    let transit : ℕ = c.args.transit in
    let old : CopyStates = state_in c.args.self.now.states.items in
    let reached : CopyStates = state_in c.reach.new.self.states.items in
    let named : CopyStates = state_in c.keep_first.new.self.states.items in
    let firsts : Firsts = get nat_cmp c.args.self.now.firsts in
    let before : Firsts = get nat_cmp c.reach.new.self.firsts in
    let now : Firsts = get nat_cmp c.keep_first.new.self.firsts in
    let none : before transit ≡ None = sym c.first.ensures ∙ c.in_default.is in
    let k : named ≡ reached = ap (λ (v : _). state_in v.items) c.keep_first.ensures.states in
    let g : now ≡ with_first transit n before = c.in_ok-keep_first.ensures.named in
    let f : before ≡ firsts = ap (get nat_cmp) c.reach.ensures.firsts in
    let none_made = ap (λ (o : Option ℕ). with_stay n (option_map (λ copy. (transit, copy)) o) stays)
    c.in_default-from.is ∙ with_none n stays (unused old firsts stays leaves n h) in
    subst (λ (s : LastStays). AreStays c.keep_first.new.self s (left_again transit leaves) (n + 1)) (sym none_made)
    (now_named old reached named firsts before now stays leaves n transit c.reach.ensures.states f k g none h)

-- a stay that was left before has its first Leave line already
again : (transit first n : ℕ) (firsts : Firsts) → firsts transit ≡ Some first → firsts ≡ first_kept transit n firsts
again transit first n firsts h = λ i stay. by stay (eqb transit stay) refl i
  where
    by : (stay : ℕ) (b : Bool) → eqb transit stay ≡ b → firsts stay ≡ option_or (firsts stay) (cond b (Some n) None)
    by stay false e = sym (or_nothing (firsts stay))
    by stay true e =
        let there : firsts stay ≡ Some first = ap firsts (sym (eqb-true transit stay e)) ∙ h in
        there ∙ sym (ap (λ (o : Option ℕ). option_or o (Some n)) there)

-- and else it has this one
anew : (transit n : ℕ) (firsts : Firsts) → firsts transit ≡ None
    → with_first transit n firsts ≡ first_kept transit n firsts
anew transit n firsts h = λ i stay. by stay (eqb transit stay) refl i
  where
    by : (stay : ℕ) (b : Bool) → eqb transit stay ≡ b
        → cond b (Some n) (firsts stay) ≡ option_or (firsts stay) (cond b (Some n) None)
    by stay false e = sym (or_nothing (firsts stay))
    by stay true e =
        let none : firsts stay ≡ None = ap firsts (sym (eqb-true transit stay e)) ∙ h in
        sym (ap (λ (o : Option ℕ). option_or o (Some n)) none)

module _ (transit first n : ℕ) (old reached cut : Firsts) (f : reached ≡ old) (k : cut ≡ reached)
    (h : reached transit ≡ Some first) where
  left_before : cut ≡ first_kept transit n old
  left_before = k ∙ again transit first n reached h ∙ ap (first_kept transit n) f

pub returns-then-is_some-clause-firsts : goal.returns-then-is_some-clause-firsts
returns-then-is_some-clause-firsts c =
    left_before c.args.transit c.in-Some.first c.args.number (get nat_cmp c.args.self.now.firsts)
    (get nat_cmp c.reach.new.self.firsts) (get nat_cmp c.set.new.self.firsts)
    (ap (get nat_cmp) c.reach.ensures.firsts)
    (ap (get nat_cmp) c.set.ensures.firsts ∙ ap (get nat_cmp) c.cut.ensures.firsts)
    (sym c.first.ensures ∙ c.in-Some.is)

pub returns-else-is_some-clause-firsts : goal.returns-else-is_some-clause-firsts
returns-else-is_some-clause-firsts c =
    left_before c.args.transit c.in-Some.first c.args.number (get nat_cmp c.args.self.now.firsts)
    (get nat_cmp c.reach.new.self.firsts) (get nat_cmp c.cut.new.self.firsts)
    (ap (get nat_cmp) c.reach.ensures.firsts)
    (ap (get nat_cmp) c.cut.ensures.firsts)
    (sym c.first.ensures ∙ c.in-Some.is)

module _ (transit n : ℕ) (old reached named : Firsts) (f : reached ≡ old)
    (g : named ≡ with_first transit n reached) (none : reached transit ≡ None) where
  left_first : named ≡ first_kept transit n old
  left_first = g ∙ anew transit n reached none ∙ ap (first_kept transit n) f

pub returns-in-Some-from-clause-firsts : goal.returns-in-Some-from-clause-firsts
returns-in-Some-from-clause-firsts c =
    ap (get nat_cmp) c.grow.ensures.firsts
    ∙ left_first c.args.transit c.args.number (get nat_cmp c.args.self.now.firsts)
    (get nat_cmp c.reach.new.self.firsts) (get nat_cmp c.keep_first.new.self.firsts)
    (ap (get nat_cmp) c.reach.ensures.firsts) c.in_ok-keep_first.ensures.named
    (sym c.first.ensures ∙ c.in_default.is)

pub returns-in_default-from-clause-firsts : goal.returns-in_default-from-clause-firsts
returns-in_default-from-clause-firsts c =
    left_first c.args.transit c.args.number (get nat_cmp c.args.self.now.firsts)
    (get nat_cmp c.reach.new.self.firsts) (get nat_cmp c.keep_first.new.self.firsts)
    (ap (get nat_cmp) c.reach.ensures.firsts) c.in_ok-keep_first.ensures.named
    (sym c.first.ensures ∙ c.in_default.is)
