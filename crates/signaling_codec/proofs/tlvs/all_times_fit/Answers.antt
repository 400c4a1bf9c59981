use Rattle.std.proofs.Common.{◌≡◌, ℕ, ◌+◌, ◌-◌, ◌*◌, ◌≤◌, Bool, true, false, ◌&&◌, List, length, take, drop, sym, ap, subst, ◌∙◌, arith}
use Rattle.std.proofs.lemmas.List.{length-drop}
use Rattle.std.proofs.lemmas.Slice.{between_to_end}
use Rattle.signaling_codec.specs.Refusal.{times_fit, all_times_fit}
use Rattle.signaling_codec.proofs.Records.{times_step, mul_step, times_none}
use Rattle.signaling_codec.proofs.tlvs.all_times_fit.Goals as goal

pub returns-then-not-times_fit : goal.returns-then-not-times_fit
returns-then-not-times_fit c =
    let size : ℕ = c.args.size in
    let left : ℕ = c.args.count - c.loop-done.done in
    let rest : List ℕ = c.loop-done.rest.now in
    let not : times_fit size rest ≡ false = sym c.if-not-times_fit.ensures in
    sym
    (sym c.loop-done.invariant.same ∙ times_step size left rest (omega arith)
    ∙ ap (λ (t : Bool). t && all_times_fit size (left - 1) (drop size rest)) not)

pub loop-done-preserved : goal.loop-done-preserved
loop-done-preserved c =
    let size : ℕ = c.args.size in
    let left : ℕ = c.args.count - c.loop-done.done in
    let rest : List ℕ = c.loop-done.rest.now in
    let mul = mul_step size left (omega arith) in
    let fits : size * left ≤ length rest = c.loop-done.invariant.fits in
    let all : take (length rest - size) (drop size rest) ≡ drop size rest = between_to_end rest size (length rest) (omega arith) in
    let fewer : c.args.count - (c.loop-done.done + 1) ≡ left - 1 = omega arith in
    let yes : times_fit size rest ≡ true = sym c.if-not-times_fit.ensures in
    let same : all_times_fit size (left - 1) (drop size rest) ≡ all_times_fit size c.args.count c.args.records.now =
    sym (ap (λ (t : Bool). t && all_times_fit size (left - 1) (drop size rest)) yes)
    ∙ sym (times_step size left rest (omega arith)) ∙ c.loop-done.invariant.same in
    let room : size * (left - 1) ≤ length (drop size rest) = omega (arith, length-drop size rest) in
    record {
      same = (λ j. all_times_fit size (fewer j) (all j)) ∙ same;
      fits = subst (λ (x : List ℕ). size * (c.args.count - (c.loop-done.done + 1)) ≤ length x) (sym all)
          (subst (λ (k : ℕ). size * k ≤ length (drop size rest)) (sym fewer) room);
    }

pub returns : goal.returns
returns c =
    let none : c.args.count - c.loop-done.done ≡ 0 = omega arith in
    sym (times_none c.args.size (c.args.count - c.loop-done.done) c.loop-done.rest.now none) ∙ c.loop-done.invariant.same
