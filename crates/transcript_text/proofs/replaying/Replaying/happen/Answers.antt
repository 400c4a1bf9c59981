use Rattle.transcript_text.proofs.StageLines.{none_owed, event_done}
use Rattle.transcript_text.proofs.replaying.Replaying.happen.Goals as goal

pub returns-in-Events-clause-happens : goal.returns-in-Events-clause-happens
returns-in-Events-clause-happens g c =
    let stands = rw c.in-Events.is at c.requires in
    rw c.in-Events.is
    (event_done c.happen.result c.in-Events.world c.happen.new.world c.args.event.now _ _ _ stands.1
    (none_owed c.in-Events.world.network c.in-Events.world.run _ stands.0) c.happen.ensures.happens)
