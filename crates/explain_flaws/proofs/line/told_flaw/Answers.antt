use Rattle.std.proofs.Common.{◌∙◌, ap, inr, Some}
use Rattle.serde_json.specs.View.{view}
use Rattle.explain_flaws.specs.declared.flaw.FileForm.TheVariants.{Transcript}
use Rattle.explain_flaws.proofs.line.told_flaw.Goals as goal

pub returns-in-Ok-Event-clause-so : goal.returns-in-Ok-Event-clause-so
returns-in-Ok-Event-clause-so c =
    c.misplaced_event.ensures.so Transcript (view c.args.value.now) (_, c.in-Ok-Event.ensures.0 ∙ ap Some c.in-Ok-Event.field-0-is)

pub returns-in-Ok-Node-clause-so : goal.returns-in-Ok-Node-clause-so
returns-in-Ok-Node-clause-so c =
    c.misplaced_node.ensures.so Transcript (view c.args.value.now) (inr (_, c.in-Ok-Node.ensures.0 ∙ ap Some c.in-Ok-Node.field-0-is))

pub returns-in-Err-clause-so : goal.returns-in-Err-clause-so
returns-in-Err-clause-so c = c.flaw_of.ensures c.args.events
