use Rattle.std.proofs.Common.{subst}
use Rattle.world_model.specs.Inner.Stands.{listed}
use Rattle.world_model.specs.Inner.Acts.{IsSent}
use Rattle.world_model.proofs.Leaves.{gives_left, gives_no_leave}
use Rattle.world_model.proofs.clock.left_as.Goals as goal

pub returns-in-Ok : goal.returns-in-Ok
returns-in-Ok c = λ message told.
    let sent = subst (IsSent message (listed c.args.octets)) c.in-Ok.is told in
    gives_left message sent.0 c.args.now c.args.octets sent.1 sent.2

pub returns-in-Err : goal.returns-in-Err
returns-in-Err c = λ message told.
    gives_no_leave message c.in-Err.refusal c.args.now c.code.result (subst (IsSent message (listed c.args.octets)) c.in-Err.is told) c.code.ensures
