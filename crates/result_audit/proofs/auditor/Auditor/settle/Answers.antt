use Rattle.std.proofs.Common.{◌∙◌, List, sym, ap}
use Rattle.result_audit.specs.declared.told.Told.{Told}
use Rattle.result_audit.specs.Auditor.{Auditing, auditing_of, settled}
use Rattle.result_audit.proofs.Turns.{settled-empty, settled-waits, settled-judged, nothing_left}
use Rattle.result_audit.proofs.auditor.Auditor.settle.Goals as goal

pub loop-told-preserved : goal.loop-told-preserved
loop-told-preserved c =
    ap settled c.in_ok-hold.ensures
    ∙ sym (settled-judged (auditing_of c.loop-told.self) c.in-Some.told c.pop_front.new.self.items c.in-Some-held_now.held
    c.in-Some.ensures.items (sym c.held_now.ensures ∙ c.in-Some-held_now.is))
    ∙ c.loop-told.invariant

pub returns-in_ok-push_front : goal.returns-in_ok-push_front
returns-in_ok-push_front c =
    let a : Auditing = auditing_of c.loop-told.self in
    ap (λ (them : List Told). record a { awaiting = them }) (c.in_ok-push_front.ensures.items ∙ sym c.in-Some.ensures.items)
    ∙ sym (settled-waits a c.in-Some.told c.pop_front.new.self.items c.in-Some.ensures.items (sym c.held_now.ensures ∙ c.in_default-held_now.is))
    ∙ c.loop-told.invariant

pub returns-in_default : goal.returns-in_default
returns-in_default c =
    let a : Auditing = auditing_of c.loop-told.self in
    let none = nothing_left c.loop-told.self.awaiting.items (c.in_default.ensures.items ∙ c.in_default.ensures.rest) in
    ap (λ (them : List Told). record a { awaiting = them }) (sym c.in_default.ensures.items)
    ∙ sym (settled-empty a none)
    ∙ c.loop-told.invariant
