use Rattle.std.proofs.Common.{reverse}
use Rattle.world_model.proofs.EachMet.{is_met}
use Rattle.world_model.proofs.obstacle.obstacle_to.Goals as goal

pub returns-clause-met : goal.returns-clause-met
returns-clause-met c = is_met c.args.nodes.now (reverse c.args.events.now) c.args.event.now c.args.why
