use Rattle.std.proofs.lemmas.Result.{err_from_is_err_and}
use Rattle.transcript_text.proofs.StageLines.{unread_entry, node_taken, event_taken}
use Rattle.transcript_text.proofs.replaying.ReplayingLineTask.take.Goals as goal

pub returns-in_err-node-clause-taken : goal.returns-in_err-node-clause-taken
returns-in_err-node-clause-taken g c = λ state at.
    let e = err_from_is_err_and c.from_residual.result c.from_residual.ensures.1 in
    rw (e.1, e.2) (unread_entry _ state c.args.line.now _ c.in_err-node.ensures)

pub returns-in-Node-clause-taken : goal.returns-in-Node-clause-taken
returns-in-Node-clause-taken g c = λ state at.
    node_taken c.push.result c.args.self.now.stage c.push.new.self state c.args.line.now c.in-Node.node _
    (rw c.in-Node.is at c.in_ok-node.ensures) at c.push.ensures

pub returns-in-Event-clause-taken : goal.returns-in-Event-clause-taken
returns-in-Event-clause-taken g c = λ state at.
    event_taken c.happen.result c.args.self.now.stage c.happen.new.self.stage state c.args.line.now
    c.in-Event.event _ _ (rw c.in-Event.is at c.in_ok-node.ensures) at.0 c.happen.ensures.happens
