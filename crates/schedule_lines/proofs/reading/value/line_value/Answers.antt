use Rattle.schedule_lines.proofs.Values.{value_read, no_value}
use Rattle.schedule_lines.proofs.reading.value.line_value.Goals as goal

pub returns-in-Ok : goal.returns-in-Ok
returns-in-Ok c = value_read c.args.line.now _ c.in-Ok.ensures.ok.0 c.in-Ok.ensures.ok.1

pub returns-in-Err : goal.returns-in-Err
returns-in-Err c = λ other. no_value c.args.line.now (c.in-Err.ensures.err other)
