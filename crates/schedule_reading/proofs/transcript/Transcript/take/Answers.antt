use Rattle.schedule_reading.proofs.Taking.{taken}
use Rattle.schedule_reading.proofs.transcript.Transcript.take.Goals as goal

pub returns : goal.returns
returns c =
    taken c.take_entry.result c.args.line.now c.in_ok-entry.entry c.args.self.now c.read.new.self c.take_entry.new.self
    c.in_ok-entry.ensures.read c.read.ensures.same c.take_entry.ensures
