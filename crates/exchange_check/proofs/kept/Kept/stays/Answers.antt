use Rattle.std.proofs.Common.{◌≡◌, ◌∙◌, ℕ, ◌+◌, ◌<◌, ◌≢◌, List, Option, None, length, get_or, set, sym}
use Rattle.std.proofs.Common.{ap, arith, rules, below_more, get_or-set_other, get_or-set_same}
use Rattle.std.proofs.lemmas.List.FromFn.{fill_by_all}
use Rattle.exchange_check.specs.declared.exchange.Stay.{Stay}
use Rattle.exchange_check.specs.Inner.Machine.{facts_of}
use Rattle.exchange_check.specs.Inner.Telling.{copy_at, stay_of_copy, copy_before}
use Rattle.exchange_check.proofs.Walks.{copy_before-zero, copy_before-more}
use Rattle.exchange_check.proofs.kept.Kept.stays.Goals as goal

one_more : (f : ℕ → Option Stay) (xs : List (Option Stay)) (i : ℕ) (v : Option Stay) → i < length xs → v ≡ f i
    → ((k : ℕ) → k < i → get_or xs k None ≡ f k) → (k : ℕ) → k < i + 1 → get_or (set xs i v) k None ≡ f k
one_more f xs i v within here before =
    below_more _ _
    (λ k h. let apart : k ≢ i = omega arith in rw get_or-set_other (before k h))
    (rw get_or-set_same here)

pub loop-place-init : goal.loop-place-init
loop-place-init c = record {
  length = search rules;
  before = sym (copy_before-zero (facts_of c.args.self.now) c.args.copy);
  written = λ k h. absurd (omega (arith, h));
}

pub loop-place-preserved : goal.loop-place-preserved
loop-place-preserved c =
    let facts = facts_of c.args.self.now in
    let i : ℕ = c.loop-place.place-index in
    let before = c.loop-place.invariant.before in
    let stay : c.stay_of_copy-stay.result ≡ stay_of_copy facts (copy_before facts i c.args.copy) =
    c.stay_of_copy-stay.ensures ∙ ap (stay_of_copy facts) before in
    let within : i < length c.loop-place.place-items = omega (arith, c.loop-place.invariant.length) in
    record {
      length = search rules;
      before = c.copy_entered-before.ensures ∙ ap copy_at stay ∙ sym (copy_before-more facts i c.args.copy);
      written = one_more (λ k. stay_of_copy facts (copy_before facts k c.args.copy)) c.loop-place.place-items i _
          within stay c.loop-place.invariant.written;
    }

pub returns : goal.returns
returns c =
    let facts = facts_of c.args.self.now in
    let all : c.loop-place.place-index ≡ 16 = omega arith in
    record {
      stays = fill_by_all (λ k. stay_of_copy facts (copy_before facts k c.args.copy)) c.loop-place.place-items 16 None
          c.loop-place.invariant.length
          (λ k h. let low : k < c.loop-place.place-index = omega (arith, all, h) in
          c.loop-place.invariant.written k low);
      before = c.loop-place.invariant.before ∙ ap (λ (n : ℕ). copy_before facts n c.args.copy) all;
    }
