use Rattle.std.proofs.Common.{◌∙◌, ap, inl, Some}
use Rattle.serde_json.specs.View.{view}
use Rattle.explain_flaws.specs.declared.flaw.FileForm.TheVariants.{Schedule}
use Rattle.explain_flaws.proofs.line.scheduled_flaw.Goals as goal

pub returns-in-Ok-Node-clause-so : goal.returns-in-Ok-Node-clause-so
returns-in-Ok-Node-clause-so c =
    c.misplaced_node.ensures.so Schedule (view c.args.value.now) (inl (_, c.in-Ok-Node.ensures.0 ∙ ap Some c.in-Ok-Node.field-0-is))

pub returns-in-Err-clause-so : goal.returns-in-Err-clause-so
returns-in-Err-clause-so c = c.flaw_of.ensures c.args.events
