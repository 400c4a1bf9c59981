use Rattle.std.proofs.Common.{rules}
use Rattle.std.proofs.lemmas.Result.{err_from_is_err_and}
use Rattle.schedule_lines.proofs.Traced.{answered, no_event, no_number, no_out}
use Rattle.schedule_lines.proofs.reading.transcript.traced_in.Goals as goal

pub returns-in_err-event : goal.returns-in_err-event
returns-in_err-event g c =
    let e = err_from_is_err_and c.from_residual.result c.from_residual.ensures.1 in
    rw (e.1, e.2) (no_event _ _ c.in_err-event.ensures.asks)

pub returns-in_err-out : goal.returns-in_err-out
returns-in_err-out g c =
    let e = err_from_is_err_and c.from_residual-in_err-out.result c.from_residual-in_err-out.ensures.1 in
    rw (e.1, e.2) (no_out (g.M.LineMembers.as_data c.args.members.now) c.in_ok-event.event c.in_ok-reading.reading c.in_ok-event.ensures.asks.0 c.in_ok-event.ensures.kind (search rules) _ c.in_err-out.ensures.asks)

pub returns-in_err-number : goal.returns-in_err-number
returns-in_err-number g c =
    let e = err_from_is_err_and c.from_residual-in_err-number.result c.from_residual-in_err-number.ensures.1 in
    rw (e.1, e.2) (no_number (g.M.LineMembers.as_data c.args.members.now) c.in_ok-event.event c.in_ok-reading.reading c.in_ok-event.ensures.asks.0 c.in_ok-event.ensures.kind (search rules) c.in_ok-out.out c.in_ok-out.ensures.asks.0 _ c.in_err-number.ensures)

pub returns : goal.returns
returns g c =
    answered (g.M.LineMembers.as_data c.args.members.now) c.in_ok-event.event c.in_ok-reading.reading c.in_ok-event.ensures.asks.0 c.in_ok-event.ensures.kind (search rules) c.in_ok-out.out c.in_ok-out.ensures.asks.0
    c.in_ok-number.number c.just.result c.in_ok-event.ensures.asks.1 (search rules) c.in_ok-out.ensures.asks.1 c.in_ok-out.ensures.many c.in_ok-number.ensures (search rules)
