use Rattle.std.proofs.Common.{ap}
use Rattle.std.proofs.lemmas.Result.{err_from_is_err_and}
use Rattle.transcript_text.specs.Inner.Replaying.{state_of}
use Rattle.transcript_text.proofs.StageLines.{no_world, begun_world, happened, stopped}
use Rattle.transcript_text.proofs.replaying.Replaying.happen_first.Goals as goal

pub returns-in_err-world-clause-happens : goal.returns-in_err-world-clause-happens
returns-in_err-world-clause-happens g c =
    let e = err_from_is_err_and c.from_residual.result c.from_residual.ensures.1 in
    rw (e.1, e.2, c.in-Nodes.is)
    (no_world _ c.in-Nodes.nodes.items c.args.event.now _ _
    (rw c.as_slice.ensures.value at c.in_err-world.ensures.begun))

pub returns-in_err-happen-clause-happens : goal.returns-in_err-happen-clause-happens
returns-in_err-happen-clause-happens g c =
    let e = err_from_is_err_and c.from_residual-in_err-happen.result
    c.from_residual-in_err-happen.ensures.1 in
    let (same, network, out) =
    begun_world c.in_ok-world.world c.args.self.now.stage c.in-Nodes.nodes.items _ _ (ap state_of c.in-Nodes.is)
    (rw c.as_slice.ensures.value at c.in_ok-world.ensures.begun) in
    let stops = c.in_err-happen.ensures.happens in
    rw (e.1, e.2, ← same) (stopped _ c.in_ok-world.world c.args.event.now _ _ _ network out stops.0 stops.1)

pub returns-clause-happens : goal.returns-clause-happens
returns-clause-happens g c =
    let (same, network, out) =
    begun_world c.in_ok-world.world c.args.self.now.stage c.in-Nodes.nodes.items _ _ (ap state_of c.in-Nodes.is)
    (rw c.as_slice.ensures.value at c.in_ok-world.ensures.begun) in
    let done = c.in_ok-happen.ensures.happens in
    rw (← same)
    (happened c.in_ok-world.world c.happen.new.world c.args.event.now _ _ _ network out done.0 done.1)
