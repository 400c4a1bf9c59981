use Rattle.std.proofs.Common.{refl, subst}
use Rattle.explain_input.specs.declared.input.Input.{Input}
use Rattle.explain_input.specs.Inner.Refused.{IsNoneOf}
use Rattle.explain_input.proofs.Faults.{not_taken}
use Rattle.explain_input.proofs.input.Input.begin.Goals as goal

pub returns-in-Ok-None : goal.returns-in-Ok-None
returns-in-Ok-None c =
    not_taken c.args.fault c.args.self.now _ c.in-Transcript.transcript c.args.line.now _ _ c.in-Transcript.is
    (refl, subst (λ (i : Input). IsNoneOf c.args.fault i c.args.line.now) c.in-Transcript.is c.requires)
    c.in-Ok-None.field-0-is c.in-Ok-None.ensures
