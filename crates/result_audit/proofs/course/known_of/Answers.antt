use Rattle.std.proofs.Common.{arith, ◌∙◌, ◌<◌, ◌++◌, ℤ, List, [], ◌∷◌, length, take, Option, append-nil, sym, ap, subst}
use Rattle.std.specs.Prelude.{option_to_list}
use Rattle.result_audit.specs.Course.{known_of}
use Rattle.result_audit.proofs.Delays.{known_of-next, known_of-take}
use Rattle.result_audit.proofs.course.known_of.Goals.{in-Some, in_default}
use Rattle.result_audit.proofs.course.known_of.Goals as goal

pub push-requires : goal.push-requires
push-requires c =
    let within : c.loop-delay.delay-index < 16 = omega arith in
    let fewer = known_of-take c.loop-delay.delay-index c.args.delays.now in
    (omega arith, subst (λ (them : List ℤ). length them < 16) (sym c.loop-delay.invariant.known) (omega arith))

pub loop-delay-preserved : goal.loop-delay-preserved
loop-delay-preserved c =
    let delays = c.args.delays.now in
    let so_far = known_of (take c.loop-delay.delay-index delays) in
    let within : c.loop-delay.delay-index < length delays = omega arith in
    let next = known_of-next c.loop-delay.delay-index delays c.delay-item.result within c.delay-item.is in
    elim c.match-delay.branch [
      | in-Some w ↦ record {
        known = rw w.known-is (w.push.ensures.items ∙ ap (λ (them : List ℤ). them ++ w.in-Some.delay ∷ []) c.loop-delay.invariant.known
            ∙ sym (next ∙ ap (λ (it : Option ℤ). so_far ++ option_to_list it) w.in-Some.is));
      }
      | in_default w ↦ record {
        known = rw w.known-is (c.loop-delay.invariant.known ∙ sym (next ∙ ap (λ (it : Option ℤ). so_far ++ option_to_list it) w.in_default.is
            ∙ append-nil so_far));
      }
    ]
