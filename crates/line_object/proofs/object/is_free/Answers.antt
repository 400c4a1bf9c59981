use Rattle.std.proofs.Common.{◌+◌, ◌∷◌, drop, not, ◌&&◌, refl, sym, ap, ◌∙◌}
use Rattle.std.proofs.lemmas.List.{at_drop_more, at_drop_all}
use Rattle.line_object.specs.declared.object.Member.{Member}
use Rattle.line_object.specs.Inner.Apart.{is_free}
use Rattle.line_object.proofs.object.is_free.Goals as goal

pub loop-member-init : goal.loop-member-init
loop-member-init c = refl

pub returns-then-is : goal.returns-then-is
returns-then-is c =
    let rest = drop (c.loop-member.member-index + 1) c.args.members.now in
    let at = c.loop-member.invariant ∙ at_drop_more (is_free c.args.key) c.args.members.now c.loop-member.member-index c.member-item.result c.loop-member-test.true in
    let here = at ∙ ap (λ (m : Member). is_free c.args.key (m ∷ rest)) (sym c.member-item.is) in
    sym (here ∙ ap (λ same. not same && is_free c.args.key rest) (sym c.if-is.ensures))

pub loop-member-preserved : goal.loop-member-preserved
loop-member-preserved c =
    let rest = drop (c.loop-member.member-index + 1) c.args.members.now in
    let at = c.loop-member.invariant ∙ at_drop_more (is_free c.args.key) c.args.members.now c.loop-member.member-index c.member-item.result c.loop-member-test.true in
    let here = at ∙ ap (λ (m : Member). is_free c.args.key (m ∷ rest)) (sym c.member-item.is) in
    here ∙ ap (λ same. not same && is_free c.args.key rest) (sym c.if-is.ensures)

pub returns : goal.returns
returns c = sym (c.loop-member.invariant ∙ at_drop_all (is_free c.args.key) c.args.members.now c.loop-member.member-index c.loop-member-test.false)
