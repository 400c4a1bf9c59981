use Rattle.std.proofs.Common.{◌∙◌, sym, ap, Some}
use Rattle.std.proofs.lemmas.Option.{slice_get-get_or, slice_get_past}
use Rattle.world_model.proofs.Obstacles.{place_at_reverse}
use Rattle.world_model.proofs.obstacle.event_numbered.Goals as goal

pub returns-in-Some : goal.returns-in-Some
returns-in-Some c =
    let there = c.in-Some.ensures.lookup.3.0 in
    sym (place_at_reverse c.args.events.now c.args.number
    ∙ slice_get-get_or c.args.events.now c.args.number c.in-Some.event.now there
    ∙ ap Some (sym c.in-Some.ensures.lookup.1))

pub returns-in-None : goal.returns-in-None
returns-in-None c =
    sym (place_at_reverse c.args.events.now c.args.number ∙ slice_get_past c.args.events.now c.args.number c.in-None.ensures.lookup.3)
