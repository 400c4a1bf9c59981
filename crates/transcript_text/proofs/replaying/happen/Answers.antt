use Rattle.std.proofs.Common.{refl}
use Rattle.transcript_text.proofs.EventLines.{written_event}
use Rattle.transcript_text.proofs.replaying.happen.Goals as goal

pub returns-clause-happens : goal.returns-clause-happens
returns-clause-happens g c =
    written_event c.write_event.result c.args.world.now c.step.new.self c.args.event.now c.in_ok-stepped.stepped c.of-line.result _ _ _
    c.in_ok-stepped.ensures.stepped c.in_ok-stepped.ensures.after c.of-line.ensures refl c.write_event.ensures.written
