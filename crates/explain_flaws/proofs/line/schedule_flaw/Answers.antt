use Rattle.std.proofs.Common.{◌∙◌, sym}
use Rattle.explain_flaws.proofs.Values.{no_schedule_line, schedule_value}
use Rattle.explain_flaws.proofs.line.schedule_flaw.Goals as goal

pub returns-in-Err-clause-flawless : goal.returns-in-Err-clause-flawless
returns-in-Err-clause-flawless c =
    let unread = rw c.in-Err.is at c.in_ok-value.ensures in
    sym (no_schedule_line c.args.events c.args.line.now unread.0)

pub returns-in-Err-clause-so : goal.returns-in-Err-clause-so
returns-in-Err-clause-so c =
    let unread = rw c.in-Err.is at c.in_ok-value.ensures in
    rw unread.0 unread.1

pub returns-clause-flawless : goal.returns-clause-flawless
returns-clause-flawless c =
    let is = rw c.in-Ok.is at c.in_ok-value.ensures in
    c.scheduled_flaw.ensures.flawless ∙ sym (schedule_value c.args.events c.args.line.now _ is)

pub returns-clause-so : goal.returns-clause-so
returns-clause-so c = rw (rw c.in-Ok.is at c.in_ok-value.ensures) c.scheduled_flaw.ensures.so
