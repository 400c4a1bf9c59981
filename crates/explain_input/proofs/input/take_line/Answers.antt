use Rattle.explain_input.proofs.Entered.{line_entered}
use Rattle.explain_input.proofs.input.take_line.Goals as goal

pub returns : goal.returns
returns c =
    line_entered c.args.line.now c.in_ok-entry.entry c.in_ok-judged.judged c.args.transcript.now c.read.new.self
    c.take_entry.new.self c.in_ok-entry.ensures.read c.read.ensures.same c.in_ok-judged.ensures
