use Rattle.std.proofs.Common.{◌∙◌, List, [], ◌∷◌, ◌++◌, ap}
use Rattle.world_model.specs.Inner.Stands.{Entry}
use Rattle.world_model.proofs.events.Events.keep.Goals as goal

pub returns-clause-entries : goal.returns-clause-entries
returns-clause-entries c =
    c.push.ensures.entries ∙ ap (λ (es : List Entry). es ++ (record { event = c.args.event.now; left = c.args.left.now }) ∷ []) c.end_stay.ensures.entries
