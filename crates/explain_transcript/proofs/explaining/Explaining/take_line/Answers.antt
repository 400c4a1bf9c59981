use Rattle.explain_transcript.proofs.Reports.{has_event, line_taken}
use Rattle.explain_transcript.proofs.explaining.Explaining.take_line.Goals as goal

pub returns-in_ok-tell_taken-in-Ok : goal.returns-in_ok-tell_taken-in-Ok
returns-in_ok-tell_taken-in-Ok c = λ seen is none empty.
    let told = c.in_ok-tell_taken-in-Ok.ensures.told seen.reports is.counts
    (has_event c.args.line.now c.args.self.now.input c.take.new.self c.in-Ok.taken.judged c.in-Ok.ensures.0) empty in
    line_taken c.args.self.now c.tell_taken.new.self c.take.new.self seen c.args.line.now c.in-Ok.taken.judged _ is none c.in-Ok.ensures.0
    c.tell_taken.ensures.alike told.0 told.1
