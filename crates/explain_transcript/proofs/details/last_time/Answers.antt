use Rattle.std.proofs.Common.{◌∙◌, sym}
use Rattle.std.specs.Prelude.{reverse}
use Rattle.explain_transcript.proofs.Times.{no_time, time_by}
use Rattle.explain_transcript.proofs.details.last_time.Goals as goal

pub returns-in-Some : goal.returns-in-Some
returns-in-Some c is =
    c.later_reading.ensures
    ∙ time_by c.args.checker.now.network (reverse c.args.checker.now.lines) c.args.report.now c.in-Some.exchange
    (sym is ∙ c.in-Some.is)

pub returns-in-None : goal.returns-in-None
returns-in-None c is =
    sym (no_time c.args.checker.now.network (reverse c.args.checker.now.lines) c.args.report.now (sym is ∙ c.in-None.is))
