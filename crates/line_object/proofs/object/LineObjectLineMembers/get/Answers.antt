use Rattle.std.proofs.Common.{◌+◌, ◌∷◌, drop, if◌then◌else◌, Some, refl, sym, ap, ◌∙◌}
use Rattle.std.proofs.lemmas.List.{at_drop_more, at_drop_all}
use Rattle.line_object.specs.declared.object.Member.{Member}
use Rattle.line_object.specs.PlainValue.{plain_data}
use Rattle.line_object.specs.Inner.Found.{value_of}
use Rattle.line_object.proofs.Members.{found_where}
use Rattle.line_object.proofs.object.LineObjectLineMembers.get.Goals as goal

pub loop-member-init : goal.loop-member-init
loop-member-init c = refl

pub returns-then-is : goal.returns-then-is
returns-then-is c =
    let all = c.as_slice-member-items.result.now in
    let rest = drop (c.loop-member.member-index + 1) all in
    let at = c.loop-member.invariant ∙ at_drop_more (value_of c.args.key) all c.loop-member.member-index c.member-item.result c.loop-member-test.true in
    let here = at ∙ ap (λ (m : Member). value_of c.args.key (m ∷ rest)) (sym c.member-item.is) in
    let same = here ∙ ap (λ same. if same then Some (plain_data c.member-item.result.value) else value_of c.args.key rest) (sym c.if-is.ensures) in
    sym same ∙ ap (value_of c.args.key) c.as_slice-member-items.ensures.value ∙ found_where c.args.key c.args.self.now.members.items c.args.self.now.apart

pub loop-member-preserved : goal.loop-member-preserved
loop-member-preserved c =
    let all = c.as_slice-member-items.result.now in
    let rest = drop (c.loop-member.member-index + 1) all in
    let at = c.loop-member.invariant ∙ at_drop_more (value_of c.args.key) all c.loop-member.member-index c.member-item.result c.loop-member-test.true in
    let here = at ∙ ap (λ (m : Member). value_of c.args.key (m ∷ rest)) (sym c.member-item.is) in
    here ∙ ap (λ same. if same then Some (plain_data c.member-item.result.value) else value_of c.args.key rest) (sym c.if-is.ensures)

pub returns : goal.returns
returns c =
    sym (c.loop-member.invariant ∙ at_drop_all (value_of c.args.key) c.as_slice-member-items.result.now c.loop-member.member-index c.loop-member-test.false)
    ∙ ap (value_of c.args.key) c.as_slice-member-items.ensures.value ∙ found_where c.args.key c.args.self.now.members.items c.args.self.now.apart
